use Rattle.std.proofs.Common.{◌≡◌, ◌++◌, List, ℕ, ap, ◌∙◌, subst, OnOk}
use Rattle.std.specs.Int.{w32, cast_unsigned}
use Rattle.std.proofs.lemmas.Int.{to_z-of_z}
use Rattle.std.proofs.lemmas.List.{append_assoc}
use Rattle.bson_doc.specs.wire.Spelled.{number32}
use Rattle.msg_wire.specs.Framing.{header}
use Rattle.msg_wire.proofs.writing.put_header.Goals as goal

four_behind : (old a b c d n₁ n₂ n₃ : List ℕ) → n₁ ≡ old ++ a → n₂ ≡ n₁ ++ b → n₃ ≡ n₂ ++ c → n₃ ++ d ≡ old ++ (a ++ b ++ c ++ d)
four_behind old a b c d n₁ n₂ n₃ p q r = rw (r, q, p) (simp append_assoc)

pub returns : goal.returns
unfolding header
returns c =
    let id : c.cast_unsigned.result ≡ cast_unsigned w32 c.args.id = c.cast_unsigned.ensures ∙ ap (cast_unsigned w32) (to_z-of_z w32 c.args.id c.ranges.id) in
    let to : c.cast_unsigned-2.result ≡ cast_unsigned w32 c.args.to = c.cast_unsigned-2.ensures ∙ ap (cast_unsigned w32) (to_z-of_z w32 c.args.to c.ranges.to) in
    let whole : c.put_number-3.new.out.items ++ number32 2013 ≡ c.args.out.now.items ++ header c.args.total c.args.id c.args.to =
    four_behind c.args.out.now.items (number32 c.args.total) (number32 (cast_unsigned w32 c.args.id)) (number32 (cast_unsigned w32 c.args.to)) (number32 2013) _ _ _
    c.in_ok-put_number.ensures
    (c.in_ok-put_number-2.ensures ∙ ap (λ n. c.put_number.new.out.items ++ number32 n) id)
    (c.in_ok-put_number-3.ensures ∙ ap (λ n. c.put_number-2.new.out.items ++ number32 n) to) in
    subst (λ (items : List ℕ). OnOk c.put_number-4.result (c.put_number-4.new.out.items ≡ items)) whole c.put_number-4.ensures
