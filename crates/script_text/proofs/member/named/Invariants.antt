use Rattle.std.proofs.Common.{◌≡◌, drop}
use Rattle.std.specs.Prelude.{find}
use Rattle.bson_doc.specs.Documents.{is_text}
use Rattle.script_text.specs.Members.{name_of}
use Rattle.script_text.proofs.member.named.Given as goal

abbrev pub invariant-loop-member : goal.invariant-loop-member
invariant-loop-member l =
    find (λ m. is_text (name_of m) l.name) (drop l.member-index l.members) ≡ find (λ m. is_text (name_of m) l.name) l.members
