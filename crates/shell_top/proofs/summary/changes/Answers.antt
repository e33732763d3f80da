use Rattle.std.proofs.Common.{rules}
use Rattle.shell_top.specs.Summary.{is_write}
use Rattle.shell_top.proofs.summary.changes.Goals as goal

pub returns : goal.returns
unfolding is_write
returns c = search rules
