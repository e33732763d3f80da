use Rattle.std.proofs.Common.{◌≡◌, ◌-◌, length, take, drop}
use Rattle.member_hall.specs.Playing.{Plays}
use Rattle.member_hall.specs.Turns.{acted}
use Rattle.member_hall.proofs.Plans.{acts_from}
use Rattle.member_hall.proofs.hall_core.HallCore.act.Given as goal

abbrev pub invariant-acting : goal.invariant-acting
invariant-acting l = record {
  acts : acts_from (take l.place l.self.plan) (drop l.place l.self.plan) l.self ≡ acted l.fn.self;
  plays : Plays l.fn.self l.self;
}

abbrev pub decreases-acting : goal.decreases-acting
decreases-acting l = length l.self.plan - l.place
