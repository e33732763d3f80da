use Rattle.std.proofs.Common.{codes}
use Rattle.cmd_build.proofs.FaultLemmas.{held-stops}
use Rattle.cmd_build.proofs.act_fields.put_modification.Goals as goal

pub returns-in-Some-clause-stops : goal.returns-in-Some-clause-stops
returns-in-Some-clause-stops c = rw (c.in-Some.is) (held-stops c.document.result (codes "update") c.in-Some.change c.document.ensures.deep c.document.ensures.long)
