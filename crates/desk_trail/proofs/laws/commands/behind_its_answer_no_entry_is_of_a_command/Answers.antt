use Rattle.desk_trail.proofs.DoneLemmas.{finished-once, no-more-behind}
use Rattle.desk_trail.proofs.laws.commands.behind_its_answer_no_entry_is_of_a_command.Goals as goal

pub returns-clause-no_more : goal.returns-clause-no_more
returns-clause-no_more c client xs ys moment op outcome t l = no-more-behind client xs ys moment op outcome t l

pub returns-clause-once : goal.returns-clause-once
returns-clause-once c client xs ys first second op outcome other l = finished-once client xs ys first second op outcome other l
