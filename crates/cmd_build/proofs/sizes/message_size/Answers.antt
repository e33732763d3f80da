use Rattle.std.proofs.Common.{ℕ, List, length, ap, arith}
use Rattle.std.specs.Option.{option_copied}
use Rattle.cmd_build.specs.Commands.{act_fields}
use Rattle.cmd_build.proofs.SizeLemmas.{fields_length, length-command_document, told_with_header}
use Rattle.cmd_build.proofs.sizes.message_size.Goals as goal

pub returns : goal.returns
returns c = told_with_header _ _ _ (length-command_document c.args.command.now c.args.db.now c.args.extras.now (option_copied c.args.time))
    (omega (arith, ap (λ (coll : List ℕ). fields_length (act_fields coll c.args.command.now.act)) c.as_str.ensures.value, ap length c.db_of.ensures))
