use Rattle.std.proofs.Common.{append_assoc}
use Rattle.member_core.proofs.member.Member.put_role.Goals as goal

pub returns : goal.returns
returns c = rw (c.in_ok-put-2.ensures.ok, c.in_ok-put.ensures.ok, c.takes_writes-is_primary.ensures.value) (append_assoc c.args.hello.now.elements _ _)
