use Rattle.std.proofs.Common.{◌≡◌, ◌+◌, ◌++◌, List, Some, sym, ap, ◌∙◌, subst}
use Rattle.desk_trail.specs.Owed.{Owed}
use Rattle.desk_trail.specs.States.{number_of}
use Rattle.desk_trail.specs.Topologies.{cleared}
use Rattle.desk_core.specs.Kept.{IsWriting}
use Rattle.desk_core.proofs.ServerLemmas.{number_of-found}
use Rattle.desk_core.proofs.state.Core.clear_at.Goals as goal

pub clear_pool-requires-clause-writing : goal.clear_pool-requires-clause-writing
clear_pool-requires-clause-writing g c =
    let w = c.requires.writing in
    let numbered : number_of c.args.self.now.trail.point.state c.args.host.now ≡ Some c.in-Some.number = sym c.number_of.ensures ∙ c.in-Some.is in
    (w.0, w.1, subst (λ (xs : List Owed). IsWriting c.args.self.now c.args.moment (w.1 + 1) (xs ++ w.0)) (ap cleared numbered) w.2)

pub clear_pool-requires-clause-there : goal.clear_pool-requires-clause-there
clear_pool-requires-clause-there g c =
    let f = number_of-found c.args.self.now.trail.point.state c.args.host.now c.in-Some.number (sym c.number_of.ensures ∙ c.in-Some.is) in
    (f.server, f.there)

pub returns-in-Some-clause-writing : goal.returns-in-Some-clause-writing
returns-in-Some-clause-writing g c = λ rest n before.
    let numbered : number_of c.args.self.now.trail.point.state c.args.host.now ≡ Some c.in-Some.number = sym c.number_of.ensures ∙ c.in-Some.is in
    c.clear_pool.ensures.writing rest n
    (subst (λ (xs : List Owed). IsWriting c.args.self.now c.args.moment (n + 1) (xs ++ rest)) (ap cleared numbered) before)
