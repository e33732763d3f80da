use Rattle.desk_trail.proofs.GenerationLemmas.{lent-is-current}
use Rattle.desk_trail.proofs.laws.pools.each_lent_connection_is_current.Goals as goal

pub returns : goal.returns
returns c client ts moment op host conn s h l there found =
    lent-is-current c.each_connection_stands_once.ensures c.each_connection_is_of_the_generation_of_its_dial.ensures.lent
    c.the_pool_is_read_off_its_entries.ensures.generation c.each_lent_connection_was_free.ensures client ts moment op host conn s h l there found
