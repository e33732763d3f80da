-- The trail of LeasedAgain stands, entry by entry.
use Rattle.std.proofs.Common.{pos, true, [], ◌∷◌, None, Some, refl, inl, arith, take}
use Rattle.trail_worked.proofs.Rules.{start, looks, offers}
use Rattle.trail_worked.proofs.Spots.{AreGood, spot_behind}
use Rattle.trail_worked.proofs.Bytes.{fits_numbered}
use Rattle.trail_worked.proofs.Framings.{framed_numbered}
use Rattle.topo_rules.specs.declared.event.TopoEvent.TheVariants as event
use Rattle.desk_trail.specs.declared.entry.OfferedHow.TheVariants as offered
use Rattle.read_pref.specs.declared.mode.Mode.TheVariants as mode
use Rattle.server_pick.specs.declared.criteria.Need.TheVariants as need
use Rattle.trail_worked.specs.LeasedAgain.{router, client_of_two, mongos, session_id, leased_again}

pub good : AreGood client_of_two (start client_of_two) leased_again
good = (
  record { time = refl; turn = refl; going = tt; rule = refl; command = tt },
  (
    record { time = omega arith; turn = tt; going = tt; rule = (_, refl, (record { stays = refl; rests = refl; due = omega arith }, refl)); command = tt },
    (
      record { time = refl; turn = record { on = refl; is_for = refl; bytes = refl }; going = tt; rule = record { next = refl; id = refl; is_for = tt }; command = tt },
      (
        record { time = omega arith; turn = tt; going = tt; rule = (_, refl, (0, record { stays = refl; since = refl }, refl)); command = tt },
        (
          record { time = refl; turn = record { description = mongos; says = refl; of_host = refl }; going = tt; rule = offers (spot_behind client_of_two (start client_of_two) (take 4 leased_again)) 0 (event.Reply mongos 100) (offered.Accepted true) refl (λ h. absurd (cc), λ s. let k = s.kind in absurd (cc)); command = tt },
          (
            record { time = refl; turn = refl; going = tt; rule = (_, refl, refl); command = tt },
            (
              record { time = omega arith; turn = tt; going = tt; rule = ((_, refl, refl), looks client_of_two (spot_behind client_of_two (start client_of_two) (take 6 leased_again)).point.state (spot_behind client_of_two (start client_of_two) (take 6 leased_again)).listed 200 0 7 8 (0 ∷ []) _ (record { command = _; given = refl; running = _; there = refl; criteria = record { need = need.Write; avoid = None; threshold_micros = 15000 }; asks = record { needs = refl; avoids = refl; within = refl }; addresses = router ∷ []; numbers = (refl, tt); sublist = inl (refl, tt); concludes = refl })); command = (_, refl, refl) },
              (
                record { time = omega arith; turn = tt; going = tt; rule = record { running = _; there = refl; chose = refl; session = (omega arith, refl, refl, (λ k d h. absurd (omega arith))); id = refl }; command = tt },
                (
                  record { time = omega arith; turn = tt; going = tt; rule = record { running = _; there = refl; chose = refl; needs = refl; session = (_, refl, refl, refl) }; command = tt },
                  (
                    record { time = omega arith; turn = tt; going = tt; rule = ((_, refl, record { chose = refl; free = refl; equipped = record { session = refl; number = refl } }), (_, refl, refl)); command = tt },
                    (
                      record { time = omega arith; turn = tt; going = tt; rule = (refl, (_, refl, (_, refl, refl, refl, refl, refl))); command = tt },
                      (
                        record { time = refl; turn = record { on = refl; is_for = refl; bytes = refl }; going = tt; rule = record { next = refl; id = refl; is_for = tt }; command = tt },
                        (
                          record { time = omega arith; turn = tt; going = tt; rule = (_, refl, (_, refl, refl, refl)); command = tt },
                          (
                            record { time = refl; turn = refl; going = tt; rule = (_, refl, refl); command = (_, refl, refl) },
                            (
                              record { time = omega arith; turn = tt; going = tt; rule = record { next = refl; id = refl; is_for = record { sends = record { command = _; given = refl; running = _; there = refl; unasked = refl; selected = _; chosen = refl; host = 0; ticket = 0; conn = 1; lent = refl; server = _; at = refl; extras = record { lsid = Some session_id; number = Some (pos 1); mode = Some mode.Primary; read = Some (record { ref_ptr = (0, 0); now = _ }) }; are = record { session = refl; number = refl; mode = refl; read = refl }; cluster = None; greatest = tt }; fits = fits_numbered (Some mode.Primary) (Some (record { ref_ptr = (0, 0); now = client_of_two.settings.read })) session_id (pos 1) refl; stream = refl; message = record { bytes = refl; framed = framed_numbered 3 1 (omega arith) (omega arith) } } }; command = (_, refl, refl) },
                              (
                                record { time = omega arith; turn = tt; going = tt; rule = (_, refl, record { lent = refl; asked = 300; since = refl; ends = tt }); command = (_, refl, refl) },
                                (
                                  record { time = refl; turn = (refl, refl); going = tt; rule = (_, refl, (_, refl, refl)); command = tt },
                                  (
                                    record { time = omega arith; turn = tt; going = tt; rule = (_, refl, record { answers = refl; free = refl; once = refl }); command = tt },
                                    (
                                      record { time = refl; turn = refl; going = tt; rule = record { running = _; there = refl; says = refl; session = (omega arith, (_, refl, (λ e. absurd (cc)), refl)) }; command = tt },
                                      (
                                        record { time = omega arith; turn = tt; going = tt; rule = ((_, refl, refl), looks client_of_two (spot_behind client_of_two (start client_of_two) (take 19 leased_again)).point.state (spot_behind client_of_two (start client_of_two) (take 19 leased_again)).listed 500 1 7 8 (0 ∷ []) _ (record { command = _; given = refl; running = _; there = refl; criteria = record { need = need.Write; avoid = None; threshold_micros = 15000 }; asks = record { needs = refl; avoids = refl; within = refl }; addresses = router ∷ []; numbers = (refl, tt); sublist = inl (refl, tt); concludes = refl })); command = (_, refl, refl) },
                                        (
                                          record { time = omega arith; turn = tt; going = tt; rule = record { running = _; there = refl; chose = refl; session = (omega arith, (_, refl, refl, refl)); id = (_, refl, refl) }; command = tt },
                                          (
                                            record { time = omega arith; turn = tt; going = tt; rule = record { running = _; there = refl; chose = refl; needs = refl; session = (_, refl, refl, refl) }; command = tt },
                                            (
                                              record { time = omega arith; turn = tt; going = tt; rule = ((_, refl, record { chose = refl; free = refl; equipped = record { session = refl; number = refl } }), (_, refl, refl)); command = tt },
                                              (
                                                record { time = omega arith; turn = tt; going = tt; rule = (_, refl, (_, refl, refl, refl)); command = (_, refl, refl) },
                                                (
                                                  record { time = omega arith; turn = tt; going = tt; rule = record { next = refl; id = refl; is_for = record { sends = record { command = _; given = refl; running = _; there = refl; unasked = refl; selected = _; chosen = refl; host = 0; ticket = 1; conn = 1; lent = refl; server = _; at = refl; extras = record { lsid = Some session_id; number = Some (pos 2); mode = Some mode.Primary; read = Some (record { ref_ptr = (0, 0); now = _ }) }; are = record { session = refl; number = refl; mode = refl; read = refl }; cluster = None; greatest = tt }; fits = fits_numbered (Some mode.Primary) (Some (record { ref_ptr = (0, 0); now = client_of_two.settings.read })) session_id (pos 2) refl; stream = refl; message = record { bytes = refl; framed = framed_numbered 4 2 (omega arith) (omega arith) } } }; command = (_, refl, refl) },
                                                  (
                                                    record { time = omega arith; turn = tt; going = tt; rule = (_, refl, record { lent = refl; asked = 500; since = refl; ends = tt }); command = (_, refl, refl) },
                                                    (
                                                      record { time = refl; turn = (refl, refl); going = tt; rule = (_, refl, (_, refl, refl)); command = tt },
                                                      (
                                                        record { time = omega arith; turn = tt; going = tt; rule = (_, refl, record { answers = refl; free = refl; once = refl }); command = tt },
                                                        (
                                                          record { time = refl; turn = refl; going = tt; rule = record { running = _; there = refl; says = refl; session = (omega arith, (_, refl, (λ e. absurd (cc)), refl)) }; command = tt },
                                                          tt,
                                                        ),
                                                      ),
                                                    ),
                                                  ),
                                                ),
                                              ),
                                            ),
                                          ),
                                        ),
                                      ),
                                    ),
                                  ),
                                ),
                              ),
                            ),
                          ),
                        ),
                      ),
                    ),
                  ),
                ),
              ),
            ),
          ),
        ),
      ),
    ),
  ),
)
