use Rattle.std.proofs.Common.{refl}
use Rattle.desk_trail.specs.Facts as fact
use Rattle.trail_tests.proofs.StartLemmas.{check-stands}
use Rattle.trail_tests.proofs.of_legal_trail.one_check.Goals as goal

pub append-requires-clause-stands : goal.append-requires-clause-stands
append-requires-clause-stands c = (
  fact.CheckBegan 0 1,
  refl,
  check-stands (record { settings = c.args.settings; commands = c.new.result; began = 5 }) c.args.seed 1 _ _ _ c.new-trail.result c.reserve.new.self c.name.new.self
      c.requires c.new-trail.ensures.client c.new-trail.ensures.point c.in_ok-reserve.ensures.same c.name.ensures.adds,
)
