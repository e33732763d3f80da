use Rattle.pool_book.specs.Pool.{numbers_of}
use Rattle.pool_book.specs.Readings.{generation_by, state_by, waiting_by, pending_by, available_by, lent_by, conns_of, pairs_of, free_of}
use Rattle.pool_book.proofs.ReadingLemmas.{ReadsAs-trail, ReadsAs-generation_by, ReadsAs-state_by, ReadsAs-waiting_by, ReadsAs-pending_by, ReadsAs-lent_by, ReadsAs-available_by}
use Rattle.pool_book.proofs.laws.the_pool_is_read_off_its_entries.Goals as goal

pub returns-clause-generation : goal.returns-clause-generation
returns-clause-generation c rules ts l = ReadsAs-trail (λ p. p.generation) generation_by ReadsAs-generation_by rules ts l

pub returns-clause-state : goal.returns-clause-state
returns-clause-state c rules ts l = ReadsAs-trail (λ p. p.state) state_by ReadsAs-state_by rules ts l

pub returns-clause-waiting : goal.returns-clause-waiting
returns-clause-waiting c rules ts l = ReadsAs-trail (λ p. numbers_of p.waiting) waiting_by ReadsAs-waiting_by rules ts l

pub returns-clause-pending : goal.returns-clause-pending
returns-clause-pending c rules ts l = ReadsAs-trail (λ p. conns_of p.pending) pending_by ReadsAs-pending_by rules ts l

pub returns-clause-lent : goal.returns-clause-lent
returns-clause-lent c rules ts l = ReadsAs-trail (λ p. pairs_of p.lent) lent_by ReadsAs-lent_by rules ts l

pub returns-clause-available : goal.returns-clause-available
returns-clause-available c rules ts l = ReadsAs-trail (λ p. free_of p.available) available_by ReadsAs-available_by rules ts l
