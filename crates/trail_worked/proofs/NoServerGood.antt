-- The trail of NoServer stands, entry by entry.
use Rattle.std.proofs.Common.{[], None, refl, inl, arith, take}
use Rattle.trail_worked.proofs.Rules.{start, looks}
use Rattle.trail_worked.proofs.Spots.{AreGood, spot_behind}
use Rattle.trail_worked.proofs.Where.{one_checked}
use Rattle.desk_trail.specs.Checks.{runs}
use Rattle.server_pick.specs.declared.criteria.Need.TheVariants as need
use Rattle.trail_worked.specs.NoServer.{client_with_deadline, no_server}

pub good : AreGood client_with_deadline (start client_with_deadline) no_server
good = (
  record { time = refl; turn = refl; going = tt; rule = refl; command = tt },
  (
    record { time = omega arith; turn = tt; going = tt; rule = (_, refl, (record { stays = refl; rests = refl; due = omega arith }, refl)); command = tt },
    (
      record { time = refl; turn = record { on = refl; is_for = refl; bytes = refl }; going = tt; rule = record { next = refl; id = refl; is_for = tt }; command = tt },
      (
        record { time = omega arith; turn = tt; going = tt; rule = ((_, refl, refl), looks client_with_deadline (spot_behind client_with_deadline (start client_with_deadline) (take 3 no_server)).point.state (spot_behind client_with_deadline (start client_with_deadline) (take 3 no_server)).listed 100 0 7 8 [] _ (record { command = _; given = refl; running = _; there = refl; criteria = record { need = need.Write; avoid = None; threshold_micros = 15000 }; asks = record { needs = refl; avoids = refl; within = refl }; addresses = []; numbers = tt; sublist = tt; concludes = omega arith })); command = tt },
        (
          record { time = omega arith; turn = tt; going = tt; rule = (_, refl, (0, record { stays = refl; since = refl })); command = tt },
          (
            record { time = omega arith; turn = tt; going = tt; rule = ((_, refl, refl), looks client_with_deadline (spot_behind client_with_deadline (start client_with_deadline) (take 5 no_server)).point.state (spot_behind client_with_deadline (start client_with_deadline) (take 5 no_server)).listed 600100 0 7 8 [] _ (record { command = _; given = refl; running = _; there = refl; criteria = record { need = need.Write; avoid = None; threshold_micros = 15000 }; asks = record { needs = refl; avoids = refl; within = refl }; addresses = []; numbers = tt; sublist = tt; concludes = (omega arith, one_checked _ _ _ _ _ (runs 0 600100 refl refl (omega arith) (inl (omega arith)))) })); command = (_, refl, refl) },
            (
              record { time = omega arith; turn = tt; going = tt; rule = (_, refl, record { answers = refl; free = refl; once = refl }); command = tt },
              tt,
            ),
          ),
        ),
      ),
    ),
  ),
)
