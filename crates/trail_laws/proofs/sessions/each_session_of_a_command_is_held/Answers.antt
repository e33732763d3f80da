use Rattle.trail_laws.proofs.SessionLemmas.{held-behind}
use Rattle.trail_laws.proofs.sessions.each_session_of_a_command_is_held.Goals as goal

pub returns : goal.returns
returns c client ts op d place l there has = held-behind c.a_session_is_one_commands.ensures client ts l op d place there has
