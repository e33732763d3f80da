use Rattle.std.proofs.Common.{◌∷◌, [], ap, subst}
use Rattle.std.specs.Prelude.{OnOk}
use Rattle.desk_trail.specs.States.{ClientState}
use Rattle.desk_trail.specs.Topologies.{offered_after}
use Rattle.desk_core.specs.Rests.{KeepsChecks}
use Rattle.net_link.specs.Seen.{seen}
use Rattle.desk_core.proofs.AppendsLemmas.{Appends-trans}
use Rattle.desk_core.proofs.HeardLemmas.{reply-offers}
use Rattle.desk_core.proofs.OfferLemmas.{OnOk-by}
use Rattle.desk_core.proofs.state.Core.follow_end.Goals as goal

pub hear_time-requires-clause-writing : goal.hear_time-requires-clause-writing
hear_time-requires-clause-writing g c = let w = c.requires.writing in (w.0 ∷ [], w.1)

pub offer-requires-clause-writing : goal.offer-requires-clause-writing
offer-requires-clause-writing g c = let w = c.requires.writing in (w.0, [], c.hear_time.ensures.writing (w.0 ∷ []) w.1, w.2)

pub offer-requires-clause-count : goal.offer-requires-clause-count
offer-requires-clause-count g c = rw c.hear_time.ensures.names c.requires.count

pub returns-clause-ok : goal.returns-clause-ok
returns-clause-ok g c =
    let w = c.requires.writing in
    OnOk-by c.offer.result _ _ (λ e. record { runs = e.runs; paid = e.owes; now = e.now })
    (c.offer.ensures.ok w.0 [] (c.hear_time.ensures.writing (w.0 ∷ []) w.1))

pub returns-clause-appends : goal.returns-clause-appends
returns-clause-appends g c =
    Appends-trans c.args.moment c.args.self.now.trail c.hear_time.new.self.trail c.offer.new.self.trail c.hear_time.ensures.appends c.offer.ensures.appends

pub returns-clause-checks : goal.returns-clause-checks
returns-clause-checks g c =
    subst (λ (w : ClientState). OnOk c.offer.result (KeepsChecks (offered_after c.args.moment c.args.event w) c.offer.new.self.trail.point.state)) c.hear_time.ensures.servers
    c.offer.ensures.checks

pub offer-requires-clause-heard : goal.offer-requires-clause-heard
offer-requires-clause-heard g c = λ t.
    reply-offers (g.N.Net.history c.args.self.now.net) (g.N.Net.history c.hear_time.new.self.net) c.args.self.now.trail c.hear_time.new.self.trail c.args.stream c.args.event
    (λ s. ap (λ n. seen s (g.N.Net.history n)) c.hear_time.ensures.net) c.hear_time.ensures.told c.in_ok-check_reply.ensures.on (c.requires.heard t)

pub returns-in_err-check_reply-clause-appends : goal.returns-in_err-check_reply-clause-appends
returns-in_err-check_reply-clause-appends g c = c.hear_time.ensures.appends
