use Rattle.trail_laws.proofs.StayLemmas.{stays-done}
use Rattle.trail_laws.proofs.answers.a_finished_command_stays_so.Goals as goal

pub returns : goal.returns
returns s client ts more op h = stays-done client ts more op h
