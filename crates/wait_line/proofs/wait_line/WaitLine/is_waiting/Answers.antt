use Rattle.std.proofs.Common.{◌∙◌}
use Rattle.wait_line.proofs.QueueLemmas.{is_among-place}
use Rattle.wait_line.proofs.wait_line.WaitLine.is_waiting.Goals as goal

pub returns : goal.returns
returns c = c.is_some.ensures ∙ is_among-place _ _ _ c.place.ensures.some c.place.ensures.none
