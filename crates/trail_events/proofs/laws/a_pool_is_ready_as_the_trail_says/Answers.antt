use Rattle.trail_events.proofs.PoolLemmas.{ready-said}
use Rattle.trail_events.proofs.laws.a_pool_is_ready_as_the_trail_says.Goals as goal

pub returns : goal.returns
returns c = λ client ts host s legal there.
    ready-said client ts host s.pool (c.each_pool_has_its_trail.ensures.trail client ts host legal) (c.each_pool_has_its_trail.ensures.place client ts host s legal there)
