-- The trail no_server_behind_a_cut stands, entry by entry.
use Rattle.std.proofs.Common.{false, [], None, refl, arith, take}
use Rattle.trail_worked.proofs.Rules.{start, looks, offers}
use Rattle.trail_worked.proofs.Spots.{AreGood, spot_behind}
use Rattle.trail_worked.proofs.Where.{one_checked}
use Rattle.desk_trail.specs.Checks.{ended}
use Rattle.topo_rules.specs.declared.event.TopoEvent.TheVariants as event
use Rattle.desk_trail.specs.declared.entry.OfferedHow.TheVariants as offered
use Rattle.server_pick.specs.declared.criteria.Need.TheVariants as need
use Rattle.trail_worked.specs.OneInsert.{alone}
use Rattle.trail_worked.specs.NoServer.{client_with_deadline, no_server_behind_a_cut}

pub good : AreGood client_with_deadline (start client_with_deadline) no_server_behind_a_cut
good = (
  record { time = refl; turn = refl; going = tt; rule = refl; command = tt },
  (
    record { time = omega arith; turn = tt; going = tt; rule = (_, refl, (record { stays = refl; rests = refl; due = omega arith }, refl)); command = tt },
    (
      record { time = refl; turn = record { on = refl; is_for = refl; bytes = refl }; going = tt; rule = record { next = refl; id = refl; is_for = tt }; command = tt },
      (
        record { time = omega arith; turn = tt; going = tt; rule = (_, refl, (0, record { stays = refl; since = refl }, tt)); command = tt },
        (
          record { time = refl; turn = refl; going = tt; rule = offers (spot_behind client_with_deadline (start client_with_deadline) (take 4 no_server_behind_a_cut)) 0 (event.Broken alone None) (offered.Accepted false) refl (λ h. record { kind = refl; set_name = refl; max_election = refl; max_set_version = refl; servers = refl }, λ h. refl); command = tt },
          (
            record { time = refl; turn = refl; going = tt; rule = (_, refl, tt); command = tt },
            (
              record { time = omega arith; turn = tt; going = tt; rule = ((_, refl, refl), looks client_with_deadline (spot_behind client_with_deadline (start client_with_deadline) (take 6 no_server_behind_a_cut)).point.state (spot_behind client_with_deadline (start client_with_deadline) (take 6 no_server_behind_a_cut)).listed 200 0 7 8 [] _ (record { command = _; given = refl; running = _; there = refl; criteria = record { need = need.Write; avoid = None; threshold_micros = 15000 }; asks = record { needs = refl; avoids = refl; within = refl }; addresses = []; numbers = tt; sublist = tt; concludes = omega arith })); command = tt },
              (
                record { time = omega arith; turn = tt; going = tt; rule = (_, refl, (record { stays = refl; rests = refl; due = omega arith }, refl)); command = tt },
                (
                  record { time = refl; turn = record { on = refl; is_for = refl; bytes = refl }; going = tt; rule = record { next = refl; id = refl; is_for = tt }; command = tt },
                  (
                    record { time = omega arith; turn = tt; going = tt; rule = ((_, refl, refl), looks client_with_deadline (spot_behind client_with_deadline (start client_with_deadline) (take 9 no_server_behind_a_cut)).point.state (spot_behind client_with_deadline (start client_with_deadline) (take 9 no_server_behind_a_cut)).listed 600200 0 7 8 [] _ (record { command = _; given = refl; running = _; there = refl; criteria = record { need = need.Write; avoid = None; threshold_micros = 15000 }; asks = record { needs = refl; avoids = refl; within = refl }; addresses = []; numbers = tt; sublist = tt; concludes = (omega arith, one_checked _ _ _ _ _ (ended 100 refl (omega arith) refl)) })); command = (_, refl, refl) },
                    (
                      record { time = omega arith; turn = tt; going = tt; rule = (_, refl, record { answers = refl; free = refl; once = refl }); command = tt },
                      tt,
                    ),
                  ),
                ),
              ),
            ),
          ),
        ),
      ),
    ),
  ),
)
