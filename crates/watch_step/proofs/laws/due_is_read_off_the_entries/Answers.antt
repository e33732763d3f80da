use Rattle.watch_step.proofs.DueLemmas.{due-first, due-later}
use Rattle.watch_step.proofs.laws.due_is_read_off_the_entries.Goals as goal

pub returns-clause-first : goal.returns-clause-first
returns-clause-first c = due-first

pub returns-clause-later : goal.returns-clause-later
returns-clause-later c = due-later
