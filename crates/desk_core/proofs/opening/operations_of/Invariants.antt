use Rattle.std.proofs.Common.{◌≡◌, map, take}
use Rattle.desk_trail.specs.States.{fresh_command}
use Rattle.desk_core.proofs.opening.operations_of.Given as goal

abbrev pub invariant-loop-command : goal.invariant-loop-command
invariant-loop-command l = l.operations.items ≡ map fresh_command (take l.command-index l.commands)
