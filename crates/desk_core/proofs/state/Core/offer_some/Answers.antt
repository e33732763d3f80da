use Rattle.std.proofs.Common.{◌≡◌, ◌++◌, [], length, ap, subst, arith}
use Rattle.std.specs.Option.{IfSome}
use Rattle.topo_rules.specs.Laws.{listed_by}
use Rattle.desk_trail.specs.Owed as owed
use Rattle.desk_core.specs.Kept.{IsWriting}
use Rattle.desk_core.specs.Receiving.{offers}
use Rattle.desk_core.specs.Hearing.{IsNoReply}
use Rattle.desk_core.proofs.HeardLemmas.{other-offers}
use Rattle.desk_core.proofs.state.Core.offer_some.Goals as goal

pub offer-requires-clause-count : goal.offer-requires-clause-count
offer-requires-clause-count g c =
    let none : listed_by c.in-Some.event ≡ [] = subst (λ o. IfSome o (λ e. listed_by e ≡ [])) c.in-Some.is c.requires.lists_none in
    omega (arith, ap length none, c.requires.count)

pub returns-in-Some-clause-ok : goal.returns-in-Some-clause-ok
returns-in-Some-clause-ok g c = λ rest h.
    c.offer.ensures.ok (owed.Offered c.in-Some.event) rest (subst (λ o. IsWriting c.args.self.now c.args.moment 0 (offers o ++ rest)) c.in-Some.is h)

pub offer-requires-clause-heard : goal.offer-requires-clause-heard
offer-requires-clause-heard g c = λ tells.
    other-offers (g.N.Net.history c.args.self.now.net) c.args.self.now.trail c.in-Some.event (subst (λ o. IfSome o IsNoReply) c.in-Some.is c.requires.no_reply)
