use Rattle.std.proofs.Common.{rules}
use Rattle.shell_top.proofs.SettingLemmas.{are-seeds, are-within}
use Rattle.shell_top.proofs.soaking.hosts.Goals as goal

pub returns-clause-seeds : goal.returns-clause-seeds
returns-clause-seeds c = are-seeds c.push-3.new.self (search rules)

pub returns-clause-within : goal.returns-clause-within
returns-clause-within c = are-within c.push-3.new.self (search rules)
