use Rattle.std.proofs.Common.{◌<◌, ◌≡◌, ap, arith, length, sym, ◌∙◌}
use Rattle.desk_trail.specs.Clients.{Client}
use Rattle.shell_top.proofs.GoingLemmas.{answered-by}
use Rattle.shell_top.proofs.driving.step_through.Goals as goal

pub returns-then-is_answered-clause-answered : goal.returns-then-is_answered-clause-answered
returns-then-is_answered-clause-answered g c =
    let told = c.turns.invariant.1 in
    let same : length c.turns.tallies ≡ length c.args.tallies.now =
    told.count ∙ ap (λ (x : Client). length x.commands) c.turns.invariant.0.client ∙ sym c.requires.told.count in
    let there : c.args.op < length c.turns.tallies = omega (arith, same, c.requires.given) in
    answered-by c.turns.desk.desk.trail.steps c.turns.tallies c.args.op told.each there (c.is_answered.ensures.yes c.if-is_answered.true)
