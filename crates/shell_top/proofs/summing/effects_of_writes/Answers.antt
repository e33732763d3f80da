use Rattle.std.proofs.Common.{◌≡◌, ◌≤◌, ◌<◌, ◌^◌, List, ap, arith, length, sym, subst, ◌∙◌}
use Rattle.cmd_build.specs.declared.command.Command.{Command}
use Rattle.effect_count.specs.Counts.{effects_by}
use Rattle.member_core.specs.Logs.{set_after}
use Rattle.shell_top.specs.Summary.{of_writes}
use Rattle.shell_top.proofs.SumLemmas.{effects-fit}
use Rattle.shell_top.proofs.summing.effects_of_writes.Goals as goal

pub returns : goal.returns
returns c = λ client facts indexed commands once.
    let set = set_after c.args.hall.now.events in
    let few : length client.commands ≤ 100000 = omega (arith, ap length commands, c.requires.few) in
    let log = c.as_slice.ensures.value ∙ c.log.ensures.told ∙ ap set.log c.last_elected-last.ensures.told in
    let counts = c.deref.ensures.value ∙ c.in_ok-counts.ensures.each client facts indexed.legal indexed.index_of (ap length commands) ∙ ap (effects_by client facts) log in
    let same : of_writes c.args.commands.now c.deref.result.now ≡ of_writes client.commands (effects_by client facts (set.log set.last)) =
    ap (λ (l : List Command). of_writes l c.deref.result.now) (sym commands) ∙ ap (of_writes client.commands) counts in
    c.of_writes.ensures (subst (λ n. n < 2 ^ 64) (sym same) (effects-fit client facts c.args.hall.now.events set.last few once)) ∙ same
