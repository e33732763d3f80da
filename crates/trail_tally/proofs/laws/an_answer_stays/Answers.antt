use Rattle.trail_tally.proofs.TallyLemmas.{answer-stays}
use Rattle.trail_tally.proofs.laws.an_answer_stays.Goals as goal

pub returns : goal.returns
returns s op steps appended there = answer-stays op steps appended there
