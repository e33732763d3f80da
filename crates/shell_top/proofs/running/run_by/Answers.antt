use Rattle.std.proofs.Common.{ap, sym, ◌∙◌}
use Rattle.run_words.specs.Words.{asks}
use Rattle.shell_top.proofs.running.run_by.Goals as goal

pub returns-in-Ok-Soak-clause-soaked : goal.returns-in-Ok-Soak-clause-soaked
returns-in-Ok-Soak-clause-soaked g c = λ some.
    (c.in-Ok-Soak.seed, c.in-Ok-Soak.count, ap asks (sym c.as_slice.ensures.value) ∙ (rw c.in-Ok-Soak.field-0-is at c.in-Ok-Soak.ensures.ok))
