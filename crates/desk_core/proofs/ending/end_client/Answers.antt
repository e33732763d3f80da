use Rattle.std.proofs.Common.{sym, ap, ◌∙◌}
use Rattle.desk_trail.specs.Facts.{facts_of}
use Rattle.desk_trail.specs.Legal.{Point}
use Rattle.desk_core.proofs.AppendsLemmas.{Appends-trans}
use Rattle.desk_core.proofs.FarewellLemmas.{Appends-farewells}
use Rattle.desk_core.proofs.ending.end_client.Goals as goal

pub end_sessions-requires-clause-none : goal.end_sessions-requires-clause-none
end_sessions-requires-clause-none g c =
    let r = c.args.wired.now.trail in
    let point = c.steps.ensures.point in
    ap (λ (p : Point). p.state.farewells) point
    ∙ c.a_client_that_goes_on_asked_no_farewell.ensures r.client (facts_of r.lists r.steps) (sym (ap (λ (p : Point). p.state.is_ending) point) ∙ c.requires.goes_on)

pub returns-clause-appends : goal.returns-clause-appends
returns-clause-appends g c =
    Appends-trans c.args.ending.moment c.args.wired.now.trail c.end_sessions.new.wired.trail c.shut_pools.new.wired.trail
    (Appends-farewells c.args.ending.moment c.args.wired.now.trail c.end_sessions.new.wired.trail c.end_sessions.ensures.asks) c.shut_pools.ensures.appends
