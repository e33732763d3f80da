use Rattle.desk_trail.proofs.DoneLemmas.{draws-once}
use Rattle.desk_trail.proofs.laws.sessions.a_command_draws_once.Goals as goal

pub returns : goal.returns
returns c client xs ys op first second m n l = draws-once client xs ys op first second m n l
