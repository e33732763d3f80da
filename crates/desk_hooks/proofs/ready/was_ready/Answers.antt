use Rattle.std.proofs.Common.{take}
use Rattle.desk_trail.specs.Facts.{facts_of}
use Rattle.desk_hooks.proofs.TellingLemmas.{not-clear}
use Rattle.desk_hooks.proofs.ready.was_ready.Goals as goal

pub returns-in_default : goal.returns-in_default
returns-in_default c = λ lists f is. not-clear lists (facts_of lists (take c.args.ahead c.args.steps.now)) c.args.entry.now f c.in_default.not-PoolClear is
