use Rattle.std.proofs.Common.{refl}
use Rattle.member_core.proofs.hello_reply.put_election.Goals as goal

pub returns-in_ok-put : goal.returns-in_ok-put
returns-in_ok-put c = rw (c.in_ok-put.ensures.ok, c.election_id.ensures, c.in-Some.is) refl
