use Rattle.desk_trail.specs.Facts.{facts_of}
use Rattle.trail_tally.proofs.AnsweredLemmas.{unanswered}
use Rattle.trail_tally.proofs.laws.a_command_that_no_entry_answers_goes_on.Goals as goal

pub returns : goal.returns
returns c client lists steps op command given none = c.a_command_without_an_answer_goes_on.ensures client (facts_of lists steps) op command given (unanswered lists op steps none)
