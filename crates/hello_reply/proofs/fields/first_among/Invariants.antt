use Rattle.std.proofs.Common.{◌≡◌, drop}
use Rattle.std.specs.Prelude.{find}
use Rattle.hello_reply.specs.Fields.{is_at_fault}
use Rattle.hello_reply.proofs.fields.first_among.Given as goal

abbrev pub invariant-loop-field : goal.invariant-loop-field
invariant-loop-field l =
    find (λ f. is_at_fault f l.reply.elements) (drop l.field-index l.fields) ≡ find (λ f. is_at_fault f l.reply.elements) l.fields
