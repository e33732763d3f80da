use Rattle.std.proofs.Common.{◌≡◌, drop}
use Rattle.std.specs.Prelude.{find}
use Rattle.bson_doc.specs.Documents.{is_text}
use Rattle.cmd_build.specs.Ops.{op_name}
use Rattle.cmd_build.proofs.op.named.Given as goal

abbrev pub invariant-loop-op : goal.invariant-loop-op
invariant-loop-op l =
    find (λ op. is_text (op_name op) l.name) (drop l.op-index l.ops) ≡ find (λ op. is_text (op_name op) l.name) l.ops
