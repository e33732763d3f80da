-- The trail of OneInsert stands, entry by entry.
use Rattle.std.proofs.Common.{true, [], ◌∷◌, None, Some, refl, inl, arith, take}
use Rattle.trail_worked.proofs.Rules.{start, looks, offers}
use Rattle.trail_worked.proofs.Spots.{AreGood, spot_behind}
use Rattle.trail_worked.proofs.Bytes.{fits_plain}
use Rattle.trail_worked.proofs.Framings.{framed_plain}
use Rattle.topo_rules.specs.declared.event.TopoEvent.TheVariants as event
use Rattle.desk_trail.specs.declared.entry.OfferedHow.TheVariants as offered
use Rattle.server_pick.specs.declared.criteria.Need.TheVariants as need
use Rattle.trail_worked.specs.OneInsert.{alone, client_of_one, standalone, one_insert}

pub good : AreGood client_of_one (start client_of_one) one_insert
good = (
  record { time = refl; turn = refl; going = tt; rule = refl; command = tt },
  (
    record { time = omega arith; turn = tt; going = tt; rule = (_, refl, (record { stays = refl; rests = refl; due = omega arith }, refl)); command = tt },
    (
      record { time = refl; turn = record { on = refl; is_for = refl; bytes = refl }; going = tt; rule = record { next = refl; id = refl; is_for = tt }; command = tt },
      (
        record { time = omega arith; turn = tt; going = tt; rule = (_, refl, (0, record { stays = refl; since = refl }, refl)); command = tt },
        (
          record { time = refl; turn = record { description = standalone; says = refl; of_host = refl }; going = tt; rule = offers (spot_behind client_of_one (start client_of_one) (take 4 one_insert)) 0 (event.Reply standalone 100) (offered.Accepted true) refl (λ h. absurd (cc), λ s. let k = s.kind in absurd (cc)); command = tt },
          (
            record { time = refl; turn = refl; going = tt; rule = (_, refl, refl); command = tt },
            (
              record { time = omega arith; turn = tt; going = tt; rule = ((_, refl, refl), looks client_of_one (spot_behind client_of_one (start client_of_one) (take 6 one_insert)).point.state (spot_behind client_of_one (start client_of_one) (take 6 one_insert)).listed 200 0 7 8 (0 ∷ []) _ (record { command = _; given = refl; running = _; there = refl; criteria = record { need = need.Write; avoid = None; threshold_micros = 15000 }; asks = record { needs = refl; avoids = refl; within = refl }; addresses = alone ∷ []; numbers = (refl, tt); sublist = inl (refl, tt); concludes = refl })); command = (_, refl, refl) },
              (
                record { time = omega arith; turn = tt; going = tt; rule = ((_, refl, record { chose = refl; free = refl; equipped = record { session = refl; number = refl } }), (_, refl, refl)); command = tt },
                (
                  record { time = omega arith; turn = tt; going = tt; rule = (refl, (_, refl, (_, refl, refl, refl, refl, refl))); command = tt },
                  (
                    record { time = refl; turn = record { on = refl; is_for = refl; bytes = refl }; going = tt; rule = record { next = refl; id = refl; is_for = tt }; command = tt },
                    (
                      record { time = omega arith; turn = tt; going = tt; rule = (_, refl, (_, refl, refl, refl)); command = tt },
                      (
                        record { time = refl; turn = refl; going = tt; rule = (_, refl, refl); command = (_, refl, refl) },
                        (
                          record { time = omega arith; turn = tt; going = tt; rule = record { next = refl; id = refl; is_for = record { sends = record { command = _; given = refl; running = _; there = refl; unasked = refl; selected = _; chosen = refl; host = 0; ticket = 0; conn = 1; lent = refl; server = _; at = refl; extras = record { lsid = None; number = None; mode = None; read = Some (record { ref_ptr = (0, 0); now = _ }) }; are = record { session = refl; number = refl; mode = refl; read = refl }; cluster = None; greatest = tt }; fits = fits_plain None (Some (record { ref_ptr = (0, 0); now = client_of_one.settings.read })); stream = refl; message = record { bytes = refl; framed = framed_plain 3 (omega arith) } } }; command = (_, refl, refl) },
                          (
                            record { time = omega arith; turn = tt; going = tt; rule = (_, refl, record { lent = refl; asked = 300; since = refl; ends = tt }); command = (_, refl, refl) },
                            (
                              record { time = refl; turn = (refl, refl); going = tt; rule = (_, refl, (_, refl, refl)); command = tt },
                              (
                                record { time = omega arith; turn = tt; going = tt; rule = (_, refl, record { answers = refl; free = refl; once = refl }); command = tt },
                                tt,
                              ),
                            ),
                          ),
                        ),
                      ),
                    ),
                  ),
                ),
              ),
            ),
          ),
        ),
      ),
    ),
  ),
)
