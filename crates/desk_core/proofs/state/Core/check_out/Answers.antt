use Rattle.std.proofs.Common.{◌≡◌, ◌<◌, Some, length, refl, sym, ap, ◌∙◌, subst, arith}
use Rattle.std.specs.Prelude.{slice_get}
use Rattle.std.proofs.lemmas.Option.{slice_get_read}
use Rattle.cmd_step.specs.declared.got.Answer.{Answer}
use Rattle.cmd_step.specs.declared.got.Answer.TheVariants as answer
use Rattle.desk_core.specs.CheckOuts.{IsBehindAnswer}
use Rattle.desk_core.proofs.AppendsLemmas.{grown-plain, grown-weaken}
use Rattle.desk_core.proofs.AnswerLemmas.{Appends-ahead, Appends-behind, IsWaiting-line, broken-at}
use Rattle.desk_core.proofs.ComesLemmas.{there-by}
use Rattle.desk_core.proofs.state.Core.check_out.Goals as goal

pub returns-in_err-sweep_at-clause-appends : goal.returns-in_err-sweep_at-clause-appends
returns-in_err-sweep_at-clause-appends g c =
    grown-weaken c.args.moment c.args.self.now.trail c.sweep_at.new.self.trail (λ e. absurd e)
    (grown-plain c.args.moment c.args.op c.args.self.now.trail c.sweep_at.new.self.trail c.sweep_at.ensures.appends)

pub returns-in_err-check_out_at-clause-appends : goal.returns-in_err-check_out_at-clause-appends
returns-in_err-check_out_at-clause-appends g c =
    Appends-behind (g.N.Net.faults c.args.self.now.net) (g.N.Net.faults c.sweep_at.new.self.net) (g.N.Net.faults c.check_out_at.new.self.net) c.args.moment c.args.self.now.trail
    c.sweep_at.new.self.trail c.check_out_at.new.self.trail c.sweep_at.ensures.faults c.sweep_at.ensures.appends c.check_out_at.ensures.appends

pub returns-in-Lent-clause-appends : goal.returns-in-Lent-clause-appends
returns-in-Lent-clause-appends g c =
    Appends-behind (g.N.Net.faults c.args.self.now.net) (g.N.Net.faults c.sweep_at.new.self.net) (g.N.Net.faults c.check_out_at.new.self.net) c.args.moment c.args.self.now.trail
    c.sweep_at.new.self.trail c.check_out_at.new.self.trail c.sweep_at.ensures.faults c.sweep_at.ensures.appends c.check_out_at.ensures.appends

pub returns-in-Dials-clause-appends : goal.returns-in-Dials-clause-appends
returns-in-Dials-clause-appends g c =
    Appends-behind (g.N.Net.faults c.args.self.now.net) (g.N.Net.faults c.sweep_at.new.self.net) (g.N.Net.faults c.check_out_at.new.self.net) c.args.moment c.args.self.now.trail
    c.sweep_at.new.self.trail c.check_out_at.new.self.trail c.sweep_at.ensures.faults c.sweep_at.ensures.appends c.check_out_at.ensures.appends

pub returns-in_ok-until-in-Wait-clause-appends : goal.returns-in_ok-until-in-Wait-clause-appends
returns-in_ok-until-in-Wait-clause-appends g c =
    Appends-behind (g.N.Net.faults c.args.self.now.net) (g.N.Net.faults c.sweep_at.new.self.net) (g.N.Net.faults c.check_out_at.new.self.net) c.args.moment c.args.self.now.trail
    c.sweep_at.new.self.trail c.check_out_at.new.self.trail c.sweep_at.ensures.faults c.sweep_at.ensures.appends c.check_out_at.ensures.appends

pub returns-in_err-offer_broken-in-Failed-clause-appends : goal.returns-in_err-offer_broken-in-Failed-clause-appends
returns-in_err-offer_broken-in-Failed-clause-appends g c =
    Appends-ahead (g.N.Net.faults c.args.self.now.net) (g.N.Net.faults c.check_out_at.new.self.net) (g.N.Net.faults c.offer_broken.new.self.net) c.args.moment c.args.self.now.trail
    c.check_out_at.new.self.trail c.offer_broken.new.self.trail c.offer_broken.ensures.faults
    (Appends-behind (g.N.Net.faults c.args.self.now.net) (g.N.Net.faults c.sweep_at.new.self.net) (g.N.Net.faults c.check_out_at.new.self.net) c.args.moment c.args.self.now.trail
    c.sweep_at.new.self.trail c.check_out_at.new.self.trail c.sweep_at.ensures.faults c.sweep_at.ensures.appends c.check_out_at.ensures.appends)
    c.offer_broken.ensures.appends

pub returns-in_ok-offer_broken-in-Failed-clause-appends : goal.returns-in_ok-offer_broken-in-Failed-clause-appends
returns-in_ok-offer_broken-in-Failed-clause-appends g c =
    Appends-ahead (g.N.Net.faults c.args.self.now.net) (g.N.Net.faults c.check_out_at.new.self.net) (g.N.Net.faults c.offer_broken.new.self.net) c.args.moment c.args.self.now.trail
    c.check_out_at.new.self.trail c.offer_broken.new.self.trail c.offer_broken.ensures.faults
    (Appends-behind (g.N.Net.faults c.args.self.now.net) (g.N.Net.faults c.sweep_at.new.self.net) (g.N.Net.faults c.check_out_at.new.self.net) c.args.moment c.args.self.now.trail
    c.sweep_at.new.self.trail c.check_out_at.new.self.trail c.sweep_at.ensures.faults c.sweep_at.ensures.appends c.check_out_at.ensures.appends)
    c.offer_broken.ensures.appends

pub offer_broken-requires : goal.offer_broken-requires
offer_broken-requires g c =
    let host = c.line_of-host.result.0 in
    let runs = rw (← c.self.view_is) at c.requires.work.ready.runs in
    let items = c.self.inside.servers.items in
    let s = c.index.result.now in
    let within : host < length items = omega (arith, c.len.ensures, c.if-len-host.false) in
    let here = slice_get_read items _ host s refl within c.index.ensures in
    let there : slice_get c.args.self.now.trail.point.state.servers host ≡ Some s =
    ap (λ d. slice_get d.trail.point.state.servers host) (sym c.self.view_is)
    ∙ there-by c.self.inside.wired.trail c.self.inside.wired.lines c.self.inside.topology.topology items c.self.inside.gossip c.self.inside.last host s (c.self.invariant.leads runs) here in
    let at : IsBehindAnswer c.check_out_at.new.self c.args.moment host c.check_out_at.new.operation (answer.Failed c.in-Failed.conn) =
    subst (λ (a : Answer). IsBehindAnswer c.check_out_at.new.self c.args.moment host c.check_out_at.new.operation a) c.in-Failed.is c.in_ok-check_out_at.ensures.answer in
    record {
      broken = broken-at c.check_out_at.new.self c.args.moment host c.generation_at-generation.result c.in_ok-address.address c.args.self.now.trail.point.state
          c.sweep_at.new.self.trail.point.state s there (c.in_ok-address.ensures ∙ c.host.ensures.address) c.in_ok-sweep_at.ensures.stays c.in_ok-check_out_at.ensures.stays at
          c.generation_at-generation.ensures;
    }

pub returns-in_err-until-in-Wait-clause-appends : goal.returns-in_err-until-in-Wait-clause-appends
returns-in_err-until-in-Wait-clause-appends g c =
    Appends-behind (g.N.Net.faults c.args.self.now.net) (g.N.Net.faults c.sweep_at.new.self.net) (g.N.Net.faults c.check_out_at.new.self.net) c.args.moment c.args.self.now.trail
    c.sweep_at.new.self.trail c.check_out_at.new.self.trail c.sweep_at.ensures.faults c.sweep_at.ensures.appends c.check_out_at.ensures.appends

pub returns-in_ok-until-in-Wait-clause-means : goal.returns-in_ok-until-in-Wait-clause-means
returns-in_ok-until-in-Wait-clause-means g c =
    let host = c.line_of-host.result.0 in
    let at : IsBehindAnswer c.check_out_at.new.self c.args.moment host c.check_out_at.new.operation answer.Wait =
    subst (λ (a : Answer). IsBehindAnswer c.check_out_at.new.self c.args.moment host c.check_out_at.new.operation a) c.in-Wait.is c.in_ok-check_out_at.ensures.answer in
    IsWaiting-line c.args.self.now.trail.client c.check_out_at.new.self.trail.point.state c.args.moment c.in_ok-until-in-Wait.until host _ _ c.check_out_at.new.operation at.1
    c.line_of.ensures.line c.in_ok-until-in-Wait.ensures.limit c.in_ok-until-in-Wait.ensures.later

pub line_of-requires : goal.line_of-requires
line_of-requires g c =
    let host = c.line_of-host.result.0 in
    let at : IsBehindAnswer c.check_out_at.new.self c.args.moment host c.check_out_at.new.operation answer.Wait =
    subst (λ (a : Answer). IsBehindAnswer c.check_out_at.new.self c.args.moment host c.check_out_at.new.operation a) c.in-Wait.is c.in_ok-check_out_at.ensures.answer in
    record { waits = (host, at.1.2.0, at.1.2.1) }
