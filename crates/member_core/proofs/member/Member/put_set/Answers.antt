use Rattle.std.proofs.Common.{append_assoc}
use Rattle.member_core.proofs.member.Member.put_set.Goals as goal

pub returns : goal.returns
returns c =
    rw (c.in_ok-put-3.ensures.ok, c.in_ok-put-2.ensures.ok, c.in_ok-put.ensures.ok, c.in_ok-set.ensures.equal, c.in_ok-hosts.ensures, c.as_slice.ensures.value, ← c.self.view_is)
    (simp append_assoc)
