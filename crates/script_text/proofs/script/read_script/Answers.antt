use Rattle.script_text.proofs.ReadLemmas.{answers-bounded}
use Rattle.script_text.proofs.script.read_script.Goals as goal

pub returns-in-Ok-clause-bounded : goal.returns-in-Ok-clause-bounded
returns-in-Ok-clause-bounded g c = answers-bounded _ _ c.read_text.ensures.answers
