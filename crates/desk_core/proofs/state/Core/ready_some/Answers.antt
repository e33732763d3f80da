use Rattle.std.proofs.Common.{◌+◌, ◌++◌, ap, arith}
use Rattle.std.specs.Option.{option_and_then}
use Rattle.desk_trail.specs.States.{number_of}
use Rattle.desk_trail.specs.Topologies.{readied}
use Rattle.desk_core.proofs.FollowLemmas.{IsWriting-same}
use Rattle.desk_core.proofs.state.Core.ready_some.Goals as goal

pub returns-in-Some-clause-writing : goal.returns-in-Some-clause-writing
returns-in-Some-clause-writing g c = λ rest n before.
    c.ready_at.ensures.writing rest n
    (IsWriting-same c.args.self.now c.args.moment (n + 1) (n + 1) _ _ (omega arith) (ap (λ o. readied c.args.self.now.trail.point.state (option_and_then (number_of c.args.self.now.trail.point.state) o) ++ rest) c.in-Some.is) before)
