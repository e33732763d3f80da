-- The trail of PoolCleared stands, entry by entry.
use Rattle.std.proofs.Common.{true, [], ◌∷◌, None, Some, refl, inl, arith, ap, take}
use Rattle.trail_worked.proofs.Rules.{start, looks, offers}
use Rattle.trail_worked.proofs.Spots.{AreGood, spot_behind}
use Rattle.trail_worked.proofs.Where.{kinds_of}
use Rattle.trail_worked.proofs.Bytes.{fits_plain}
use Rattle.trail_worked.proofs.Framings.{framed_plain}
use Rattle.topo_rules.specs.declared.event.TopoEvent.TheVariants as event
use Rattle.desk_trail.specs.declared.entry.OfferedHow.TheVariants as offered
use Rattle.server_pick.specs.declared.criteria.Need.TheVariants as need
use Rattle.trail_worked.specs.OneInsert.{alone, standalone}
use Rattle.trail_worked.specs.PoolCleared.{client_of_cleared, pool_cleared}

pub good : AreGood client_of_cleared (start client_of_cleared) pool_cleared
good = (
  record { time = refl; turn = refl; going = tt; rule = refl; command = tt },
  (
    record { time = omega arith; turn = tt; going = tt; rule = (_, refl, (record { stays = refl; rests = refl; due = omega arith }, refl)); command = tt },
    (
      record { time = refl; turn = record { on = refl; is_for = refl; bytes = refl }; going = tt; rule = record { next = refl; id = refl; is_for = tt }; command = tt },
      (
        record { time = omega arith; turn = tt; going = tt; rule = (_, refl, (0, record { stays = refl; since = refl }, refl)); command = tt },
        (
          record { time = refl; turn = record { description = standalone; says = refl; of_host = refl }; going = tt; rule = offers (spot_behind client_of_cleared (start client_of_cleared) (take 4 pool_cleared)) 0 (event.Reply standalone 100) (offered.Accepted true) refl (λ h. absurd (cc), λ s. let k = s.kind in absurd (cc)); command = tt },
          (
            record { time = refl; turn = refl; going = tt; rule = (_, refl, refl); command = tt },
            (
              record { time = omega arith; turn = tt; going = tt; rule = ((_, refl, refl), looks client_of_cleared (spot_behind client_of_cleared (start client_of_cleared) (take 6 pool_cleared)).point.state (spot_behind client_of_cleared (start client_of_cleared) (take 6 pool_cleared)).listed 200 0 7 8 (0 ∷ []) _ (record { command = _; given = refl; running = _; there = refl; criteria = record { need = need.Write; avoid = None; threshold_micros = 15000 }; asks = record { needs = refl; avoids = refl; within = refl }; addresses = alone ∷ []; numbers = (refl, tt); sublist = inl (refl, tt); concludes = refl })); command = (_, refl, refl) },
              (
                record { time = omega arith; turn = tt; going = tt; rule = ((_, refl, record { chose = refl; free = refl; equipped = record { session = refl; number = refl } }), (_, refl, refl)); command = tt },
                (
                  record { time = omega arith; turn = tt; going = tt; rule = (refl, (_, refl, (_, refl, refl, refl, refl, refl))); command = tt },
                  (
                    record { time = refl; turn = record { on = refl; is_for = refl; bytes = refl }; going = tt; rule = record { next = refl; id = refl; is_for = tt }; command = tt },
                    (
                      record { time = omega arith; turn = tt; going = tt; rule = (_, refl, (_, refl, refl, refl)); command = tt },
                      (
                        record { time = refl; turn = refl; going = tt; rule = (_, refl, refl); command = (_, refl, refl) },
                        (
                          record { time = omega arith; turn = tt; going = tt; rule = record { next = refl; id = refl; is_for = record { sends = record { command = _; given = refl; running = _; there = refl; unasked = refl; selected = _; chosen = refl; host = 0; ticket = 0; conn = 1; lent = refl; server = _; at = refl; extras = record { lsid = None; number = None; mode = None; read = Some (record { ref_ptr = (0, 0); now = _ }) }; are = record { session = refl; number = refl; mode = refl; read = refl }; cluster = None; greatest = tt }; fits = fits_plain None (Some (record { ref_ptr = (0, 0); now = client_of_cleared.settings.read })); stream = refl; message = record { bytes = refl; framed = framed_plain 3 (omega arith) } } }; command = (_, refl, refl) },
                          (
                            record { time = omega arith; turn = tt; going = tt; rule = ((_, refl, refl), looks client_of_cleared (spot_behind client_of_cleared (start client_of_cleared) (take 13 pool_cleared)).point.state (spot_behind client_of_cleared (start client_of_cleared) (take 13 pool_cleared)).listed 400 1 7 8 (0 ∷ []) _ (record { command = _; given = refl; running = _; there = refl; criteria = record { need = need.Write; avoid = None; threshold_micros = 15000 }; asks = record { needs = refl; avoids = refl; within = refl }; addresses = alone ∷ []; numbers = (refl, tt); sublist = inl (refl, tt); concludes = refl })); command = (_, refl, refl) },
                            (
                              record { time = omega arith; turn = tt; going = tt; rule = ((_, refl, record { chose = refl; free = refl; equipped = record { session = refl; number = refl } }), (_, refl, refl)); command = tt },
                              (
                                record { time = omega arith; turn = tt; going = tt; rule = (refl, (_, refl, (_, refl, refl, refl, refl, refl))); command = tt },
                                (
                                  record { time = refl; turn = record { on = refl; is_for = refl; bytes = refl }; going = tt; rule = record { next = refl; id = refl; is_for = tt }; command = tt },
                                  (
                                    record { time = omega arith; turn = tt; going = tt; rule = ((_, refl, refl), looks client_of_cleared (spot_behind client_of_cleared (start client_of_cleared) (take 17 pool_cleared)).point.state (spot_behind client_of_cleared (start client_of_cleared) (take 17 pool_cleared)).listed 500 2 7 8 (0 ∷ []) _ (record { command = _; given = refl; running = _; there = refl; criteria = record { need = need.Write; avoid = None; threshold_micros = 15000 }; asks = record { needs = refl; avoids = refl; within = refl }; addresses = alone ∷ []; numbers = (refl, tt); sublist = inl (refl, tt); concludes = refl })); command = (_, refl, refl) },
                                    (
                                      record { time = omega arith; turn = tt; going = tt; rule = ((_, refl, record { chose = refl; free = refl; equipped = record { session = refl; number = refl } }), (_, refl, refl)); command = tt },
                                      (
                                        record { time = omega arith; turn = tt; going = tt; rule = (_, refl, (record { stays = refl; rests = refl; due = omega arith }, refl)); command = tt },
                                        (
                                          record { time = refl; turn = record { on = refl; is_for = refl; bytes = refl }; going = tt; rule = record { next = refl; id = refl; is_for = tt }; command = tt },
                                          (
                                            record { time = omega arith; turn = tt; going = tt; rule = (_, refl, (10000100, record { stays = refl; since = refl }, tt)); command = tt },
                                            (
                                              record { time = refl; turn = refl; going = tt; rule = offers (spot_behind client_of_cleared (start client_of_cleared) (take 22 pool_cleared)) 1 (event.Broken alone None) (offered.Accepted true) refl (λ h. absurd (cc), λ s. let k = ap kinds_of s.servers in absurd (cc)); command = tt },
                                              (
                                                record { time = refl; turn = refl; going = tt; rule = (_, refl, tt); command = tt },
                                                (
                                                  record { time = omega arith; turn = tt; going = tt; rule = (_, refl, (_, refl, (refl, refl, refl))); command = tt },
                                                  (
                                                    record { time = refl; turn = (refl, refl); going = tt; rule = tt; command = (_, refl, refl) },
                                                    (
                                                      record { time = omega arith; turn = tt; going = tt; rule = (_, refl, record { answers = refl; free = refl; once = refl }); command = tt },
                                                      (
                                                        record { time = omega arith; turn = tt; going = tt; rule = (_, refl, (_, refl, refl, refl)); command = tt },
                                                        (
                                                          record { time = refl; turn = refl; going = tt; rule = (_, refl, refl); command = tt },
                                                          (
                                                            record { time = refl; turn = refl; going = tt; rule = (_, refl, refl); command = tt },
                                                            (
                                                              record { time = refl; turn = (refl, refl); going = tt; rule = tt; command = (_, refl, refl) },
                                                              (
                                                                record { time = omega arith; turn = tt; going = tt; rule = (_, refl, record { answers = refl; free = refl; once = refl }); command = tt },
                                                                (
                                                                  record { time = omega arith; turn = tt; going = tt; rule = (_, refl, record { lent = refl; asked = 300; since = refl; ends = tt }); command = (_, refl, refl) },
                                                                  (
                                                                    record { time = refl; turn = (refl, refl); going = tt; rule = (_, refl, (_, refl, refl)); command = tt },
                                                                    (
                                                                      record { time = refl; turn = refl; going = tt; rule = (_, refl, refl); command = tt },
                                                                      (
                                                                        record { time = omega arith; turn = tt; going = tt; rule = (_, refl, record { answers = refl; free = refl; once = refl }); command = tt },
                                                                        tt,
                                                                      ),
                                                                    ),
                                                                  ),
                                                                ),
                                                              ),
                                                            ),
                                                          ),
                                                        ),
                                                      ),
                                                    ),
                                                  ),
                                                ),
                                              ),
                                            ),
                                          ),
                                        ),
                                      ),
                                    ),
                                  ),
                                ),
                              ),
                            ),
                          ),
                        ),
                      ),
                    ),
                  ),
                ),
              ),
            ),
          ),
        ),
      ),
    ),
  ),
)
