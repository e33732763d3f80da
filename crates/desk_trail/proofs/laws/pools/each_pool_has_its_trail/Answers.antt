use Rattle.desk_trail.proofs.PoolLemmas.{pool-leads, pool-place}
use Rattle.desk_trail.proofs.laws.pools.each_pool_has_its_trail.Goals as goal

pub returns-clause-trail : goal.returns-clause-trail
returns-clause-trail c client ts host l = (pool-leads client host ts l).legal

pub returns-clause-place : goal.returns-clause-place
returns-clause-place c client ts host s l there = pool-place client host ts s l there
