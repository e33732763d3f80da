use Rattle.std.proofs.Common.{◌≡◌, map, take}
use Rattle.cmd_build.specs.Handshakes.{ended_session}
use Rattle.cmd_build.proofs.handshakes.sessions.Given as goal

abbrev pub invariant-loop-id : goal.invariant-loop-id
invariant-loop-id l = l.items ≡ map ended_session (take l.id-index l.ids)
