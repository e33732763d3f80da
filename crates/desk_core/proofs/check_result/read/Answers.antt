use Rattle.std.proofs.Common.{arith, refl, rules, sym, ◌∙◌}
use Rattle.desk_core.proofs.HelloLemmas.{describes-plain}
use Rattle.desk_core.proofs.check_result.read.Goals as goal

pub returns-in-Ok : goal.returns-in-Ok
returns-in-Ok c =
    let said = c.describe.ensures.told (λ e. cc) in
    let plain = describes-plain c.args.message.now.body.elements c.args.check.host.now c.in-Ok.description (sym said ∙ c.in-Ok.is) in
    record {
      ends = λ answer whole. (c.saturating_sub-sample.ensures, record { description = c.in-Ok.description; says = refl; of_host = plain.of_host }, whole);
      timed = search rules;
      few = omega (arith, plain.few, c.if-check-lt-MOST_HOSTS.true);
      says = (search rules, (search rules, search rules));
      carries = search rules;
    }
