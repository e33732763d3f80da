use Rattle.member_core.proofs.Runs.{at_most_once, keeps_plain}
use Rattle.member_core.proofs.laws.logs.Goals as goal

pub returns-clause-once : goal.returns-clause-once
returns-clause-once c = at_most_once

pub returns-clause-keeps : goal.returns-clause-keeps
returns-clause-keeps c = keeps_plain
