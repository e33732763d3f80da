use Rattle.std.proofs.Common.{append_assoc}
use Rattle.cmd_build.proofs.handshakes.put_admin.Goals as goal

pub returns : goal.returns
returns c =
    rw (c.in_ok-put-2.ensures.ok, c.in_ok-put.ensures.ok, c.in_ok-text.ensures, c.in_ok-text-2.ensures) (append_assoc c.args.command.now.elements _ _)
