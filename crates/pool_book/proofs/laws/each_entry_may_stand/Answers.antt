use Rattle.entry_judge.specs.GroupLaws.{IsTrail-at}
use Rattle.pool_book.specs.Pool.{fresh_pool}
use Rattle.pool_book.specs.Judge.{pool_judge}
use Rattle.pool_book.proofs.laws.each_entry_may_stand.Goals as goal

pub returns : goal.returns
returns c rules = IsTrail-at pool_judge (fresh_pool rules)
