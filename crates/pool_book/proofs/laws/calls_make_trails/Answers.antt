use Rattle.std.proofs.Common.{refl}
use Rattle.entry_judge.specs.GroupLaws.{LeadsTo-group}
use Rattle.pool_book.specs.Pool.{fresh_pool}
use Rattle.pool_book.specs.Judge.{pool_judge}
use Rattle.pool_book.proofs.laws.calls_make_trails.Goals as goal

pub returns-clause-begins : goal.returns-clause-begins
returns-clause-begins c rules = record { trail = tt; place = refl }

pub returns-clause-goes_on : goal.returns-clause-goes_on
returns-clause-goes_on c rules = LeadsTo-group pool_judge (fresh_pool rules)
