use Rattle.desk_trail.proofs.LentFreeLemmas.{lent-was-free}
use Rattle.desk_trail.proofs.laws.pools.each_lent_connection_was_free.Goals as goal

pub returns : goal.returns
returns c client ts moment op host conn l = lent-was-free c.each_lent_connection_was_free.ensures client ts moment op host conn l
