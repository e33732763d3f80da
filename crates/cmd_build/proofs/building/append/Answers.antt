use Rattle.std.proofs.Common.{arith, refl, subst}
use Rattle.std.specs.Option.{option_copied}
use Rattle.bson_wire.proofs.Written.{outermost_spells}
use Rattle.cmd_build.specs.Batches.{Stopped}
use Rattle.cmd_build.specs.Commands.{command_document, command_fields}
use Rattle.cmd_build.proofs.DepthLemmas.{depth_of-command_document}
use Rattle.cmd_build.proofs.FaultLemmas.{passed}
use Rattle.cmd_build.proofs.building.append.Goals as goal

pub returns-clause-spells : goal.returns-clause-spells
returns-clause-spells c = λ within levels.
    let time = option_copied c.args.time in
    let d = command_document c.args.command.now c.args.db.now c.args.extras.now time in
    outermost_spells _ d refl c.in_ok-put_command.ensures.wrote.known c.in_ok-put_command.ensures.wrote.size
    (omega (arith, depth_of-command_document 90 c.args.command.now c.args.db.now c.args.extras.now time within, levels))

pub returns-in_err-put_command-clause-deep : goal.returns-in_err-put_command-clause-deep
returns-in_err-put_command-clause-deep c =
    passed _ c.from_residual.result c.from_residual.ensures.1
    (λ is. subst (Stopped (command_fields c.args.command.now c.args.db.now c.args.extras.now (option_copied c.args.time))) is c.in_err-put_command.ensures.stops)

pub returns-in_err-put_command-clause-long : goal.returns-in_err-put_command-clause-long
returns-in_err-put_command-clause-long c =
    passed _ c.from_residual.result c.from_residual.ensures.1
    (λ is. subst (Stopped (command_fields c.args.command.now c.args.db.now c.args.extras.now (option_copied c.args.time))) is c.in_err-put_command.ensures.stops)
