use Rattle.std.proofs.Common.{append_assoc}
use Rattle.member_core.proofs.hello_reply.put_limits.Goals as goal

pub returns : goal.returns
returns c = rw (c.in_ok-put-6.ensures.ok, c.in_ok-put-5.ensures.ok, c.in_ok-put-4.ensures.ok, c.in_ok-put-3.ensures.ok, c.in_ok-put-2.ensures.ok, c.in_ok-put.ensures.ok) (simp append_assoc)
