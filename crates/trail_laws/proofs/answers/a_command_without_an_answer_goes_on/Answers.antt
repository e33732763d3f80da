use Rattle.trail_laws.proofs.AnswerLemmas.{goes-on}
use Rattle.trail_laws.proofs.answers.a_command_without_an_answer_goes_on.Goals as goal

pub returns : goal.returns
returns s client ts op command given n = goes-on client ts op command given n
