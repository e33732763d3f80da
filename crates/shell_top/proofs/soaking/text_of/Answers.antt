use Rattle.std.proofs.Common.{ap, ◌∙◌}
use Rattle.shell_top.specs.Summary.{summary_text}
use Rattle.shell_top.proofs.soaking.text_of.Goals as goal

pub returns : goal.returns
returns g c client played = c.in_ok-text.ensures ∙ ap summary_text (c.in_ok-summary.ensures client played)
