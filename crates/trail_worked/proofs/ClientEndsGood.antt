-- The trail of ClientEnds stands, entry by entry.
use Rattle.std.proofs.Common.{pos, true, [], ◌∷◌, None, Some, refl, inl, arith, take}
use Rattle.trail_worked.proofs.Rules.{start, looks, offers}
use Rattle.trail_worked.proofs.Spots.{AreGood, spot_behind, minutes-in}
use Rattle.trail_worked.proofs.Farewells.{parted_one, selectable_in}
use Rattle.trail_worked.proofs.Bytes.{fits_numbered}
use Rattle.trail_worked.proofs.Framings.{framed_farewell, framed_numbered}
use Rattle.topo_rules.specs.declared.event.TopoEvent.TheVariants as event
use Rattle.desk_trail.specs.declared.entry.OfferedHow.TheVariants as offered
use Rattle.read_pref.specs.declared.mode.Mode.TheVariants as mode
use Rattle.server_pick.specs.declared.criteria.Need.TheVariants as need
use Rattle.trail_worked.specs.LeasedAgain.{router, mongos, session_id}
use Rattle.trail_worked.specs.ClientEnds.{client_of_router, client_ends}

pub good : AreGood client_of_router (start client_of_router) client_ends
good = (
  record { time = refl; turn = refl; going = tt; rule = refl; command = tt },
  (
    record { time = omega arith; turn = tt; going = tt; rule = (_, refl, (record { stays = refl; rests = refl; due = omega arith }, refl)); command = tt },
    (
      record { time = refl; turn = record { on = refl; is_for = refl; bytes = refl }; going = tt; rule = record { next = refl; id = refl; is_for = tt }; command = tt },
      (
        record { time = omega arith; turn = tt; going = tt; rule = (_, refl, (0, record { stays = refl; since = refl }, refl)); command = tt },
        (
          record { time = refl; turn = record { description = mongos; says = refl; of_host = refl }; going = tt; rule = offers (spot_behind client_of_router (start client_of_router) (take 4 client_ends)) 0 (event.Reply mongos 100) (offered.Accepted true) refl (λ h. absurd (cc), λ s. let k = s.kind in absurd (cc)); command = tt },
          (
            record { time = refl; turn = refl; going = tt; rule = (_, refl, refl); command = tt },
            (
              record { time = omega arith; turn = tt; going = tt; rule = ((_, refl, refl), looks client_of_router (spot_behind client_of_router (start client_of_router) (take 6 client_ends)).point.state (spot_behind client_of_router (start client_of_router) (take 6 client_ends)).listed 200 0 7 8 (0 ∷ []) _ (record { command = _; given = refl; running = _; there = refl; criteria = record { need = need.Write; avoid = None; threshold_micros = 15000 }; asks = record { needs = refl; avoids = refl; within = refl }; addresses = router ∷ []; numbers = (refl, tt); sublist = inl (refl, tt); concludes = refl })); command = (_, refl, refl) },
              (
                record { time = omega arith; turn = tt; going = tt; rule = record { running = _; there = refl; chose = refl; session = (omega arith, refl, refl, (λ k d h. absurd (omega arith))); id = refl }; command = tt },
                (
                  record { time = omega arith; turn = tt; going = tt; rule = record { running = _; there = refl; chose = refl; needs = refl; session = (_, refl, refl, refl) }; command = tt },
                  (
                    record { time = omega arith; turn = tt; going = tt; rule = ((_, refl, record { chose = refl; free = refl; equipped = record { session = refl; number = refl } }), (_, refl, refl)); command = tt },
                    (
                      record { time = omega arith; turn = tt; going = tt; rule = (refl, (_, refl, (_, refl, refl, refl, refl, refl))); command = tt },
                      (
                        record { time = refl; turn = record { on = refl; is_for = refl; bytes = refl }; going = tt; rule = record { next = refl; id = refl; is_for = tt }; command = tt },
                        (
                          record { time = omega arith; turn = tt; going = tt; rule = (_, refl, (_, refl, refl, refl)); command = tt },
                          (
                            record { time = refl; turn = refl; going = tt; rule = (_, refl, refl); command = (_, refl, refl) },
                            (
                              record { time = omega arith; turn = tt; going = tt; rule = record { next = refl; id = refl; is_for = record { sends = record { command = _; given = refl; running = _; there = refl; unasked = refl; selected = _; chosen = refl; host = 0; ticket = 0; conn = 1; lent = refl; server = _; at = refl; extras = record { lsid = Some session_id; number = Some (pos 1); mode = Some mode.Primary; read = Some (record { ref_ptr = (0, 0); now = _ }) }; are = record { session = refl; number = refl; mode = refl; read = refl }; cluster = None; greatest = tt }; fits = fits_numbered (Some mode.Primary) (Some (record { ref_ptr = (0, 0); now = client_of_router.settings.read })) session_id (pos 1) refl; stream = refl; message = record { bytes = refl; framed = framed_numbered 3 1 (omega arith) (omega arith) } } }; command = (_, refl, refl) },
                              (
                                record { time = omega arith; turn = tt; going = tt; rule = (_, refl, record { lent = refl; asked = 300; since = refl; ends = tt }); command = (_, refl, refl) },
                                (
                                  record { time = refl; turn = (refl, refl); going = tt; rule = (_, refl, (_, refl, refl)); command = tt },
                                  (
                                    record { time = omega arith; turn = tt; going = tt; rule = (_, refl, record { answers = refl; free = refl; once = refl }); command = tt },
                                    (
                                      record { time = refl; turn = refl; going = tt; rule = record { running = _; there = refl; says = refl; session = (omega arith, (_, refl, (λ e. absurd (cc)), refl)) }; command = tt },
                                      (
                                        record { time = omega arith; turn = tt; going = tt; rule = record { next = refl; id = refl; is_for = record { minutes = pos 30; has_sessions = minutes-in (spot_behind client_of_router (start client_of_router) (take 19 client_ends)).listed; lists = (session_id ∷ []) ∷ []; parted = parted_one (session_id ∷ []) refl (omega arith) (omega arith); ids = session_id ∷ []; next = refl; criteria = record { need = need.Read (record { ref_ptr = (0, 0); now = record { mode = mode.PrimaryPreferred; tag_sets = [] } }); avoid = None; threshold_micros = 15000 }; prefers = (refl, refl); avoids = refl; host = 0; server = _; at = refl; stays = refl; selectable = selectable_in (spot_behind client_of_router (start client_of_router) (take 19 client_ends)).listed (record { need = need.Read (record { ref_ptr = (0, 0); now = record { mode = mode.PrimaryPreferred; tag_sets = [] } }); avoid = None; threshold_micros = 15000 }) router; free = _; place = 0; available = refl; sound = refl; stream = refl; unused = refl; message = record { bytes = refl; framed = framed_farewell 4 (omega arith) } } }; command = tt },
                                        (
                                          record { time = omega arith; turn = tt; going = tt; rule = (_, refl, refl); command = tt },
                                          (
                                            record { time = refl; turn = refl; going = tt; rule = (_, refl, refl); command = tt },
                                            tt,
                                          ),
                                        ),
                                      ),
                                    ),
                                  ),
                                ),
                              ),
                            ),
                          ),
                        ),
                      ),
                    ),
                  ),
                ),
              ),
            ),
          ),
        ),
      ),
    ),
  ),
)
