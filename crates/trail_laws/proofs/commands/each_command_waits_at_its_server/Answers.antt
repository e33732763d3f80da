use Rattle.trail_laws.proofs.WaitLemmas.{waits-of}
use Rattle.trail_laws.proofs.commands.each_command_waits_at_its_server.Goals as goal

pub returns : goal.returns
returns c client ts op d l there = waits-of client ts l op d there
