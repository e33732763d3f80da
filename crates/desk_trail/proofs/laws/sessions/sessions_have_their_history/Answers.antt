use Rattle.desk_trail.proofs.TopologyLemmas.{session-leads}
use Rattle.desk_trail.proofs.laws.sessions.sessions_have_their_history.Goals as goal

pub returns-clause-history : goal.returns-clause-history
returns-clause-history c client ts l = (session-leads client ts l).legal

pub returns-clause-place : goal.returns-clause-place
returns-clause-place c client ts l = (session-leads client ts l).to
