use Rattle.entry_judge.specs.PartLaws.{EachLeads-empty, EachLeads-begins, EachLeads-group}
use Rattle.pool_book.specs.Pool.{fresh_pool}
use Rattle.pool_book.specs.Judge.{pool_judge}
use Rattle.pool_book.proofs.laws.each_hosts_pool_moves_alone.Goals as goal

pub returns-clause-none : goal.returns-clause-none
returns-clause-none c rules = EachLeads-empty pool_judge (fresh_pool rules)

pub returns-clause-named : goal.returns-clause-named
returns-clause-named c rules = EachLeads-begins pool_judge (fresh_pool rules)

pub returns-clause-goes_on : goal.returns-clause-goes_on
returns-clause-goes_on c rules = EachLeads-group pool_judge (fresh_pool rules)
