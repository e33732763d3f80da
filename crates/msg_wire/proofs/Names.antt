-- Texts and names of sections of kind 1, as a reader meets them.
use Rattle.std.proofs.Common.{◌≡◌, ℕ, List, ◌∷◌, ◌++◌, Ok, Err, refl, ap, subst, ◌∙◌}
use Rattle.std.specs.Prelude.{IsUtf8}
use Rattle.std.specs.Str.{is_utf8}
use Rattle.std.proofs.lemmas.Bool.{cond-true, cond-false, false_from_ne_true}
use Rattle.std.proofs.lemmas.Str.{is_utf8-from_IsUtf8, IsUtf8-from_is_utf8}
use Rattle.bson_doc.specs.Steps.{◌>>=◌, or_fault}
use Rattle.bson_doc.proofs.Steps.{bind_ok, mapped-Ok, pass_ok, or_fault-Ok}
use Rattle.bson_doc.specs.wire.Reading.{until_zero}
use Rattle.bson_doc.specs.wire.Spelling.{IsName}
use Rattle.bson_doc.proofs.wire.Texts.{until_zero-Some, until_zero-name}
use Rattle.msg_wire.specs.Sections.{name_at, text_at}
use Rattle.msg_wire.specs.declared.fault.MsgFault.TheVariants as fault

pub text_at-utf8 : (at : ℕ) (bytes : List ℕ) → IsUtf8 bytes → text_at at bytes ≡ Ok bytes
unfolding text_at
text_at-utf8 at bytes h = cond-true (is_utf8 bytes) (Ok bytes) (Err (fault.Sections at)) (is_utf8-from_IsUtf8 bytes h)

pub text_at-not_utf8 : (at : ℕ) (bytes : List ℕ) → ¬ IsUtf8 bytes → text_at at bytes ≡ Err (fault.Sections at)
unfolding text_at
text_at-not_utf8 at bytes h =
    cond-false (is_utf8 bytes) (Ok bytes) (Err (fault.Sections at)) (false_from_ne_true (is_utf8 bytes) (λ t. h (IsUtf8-from_is_utf8 bytes t)))

-- What is read as a text is one, and is all of the bytes.
pub text_at-Ok : (at : ℕ) (bytes text : List ℕ) → text_at at bytes ≡ Ok text → (bytes ≡ text) × IsUtf8 bytes
unfolding text_at
text_at-Ok at bytes text e =
    let g = pass_ok (is_utf8 bytes) (fault.Sections at) bytes text e in
    (g.1, IsUtf8-from_is_utf8 bytes g.0)

pub name_takes : (at : ℕ) (bytes : List ℕ) (x : List ℕ × List ℕ) → name_at at bytes ≡ Ok x → (bytes ≡ x.0 ++ 0 ∷ x.1) × IsName x.0
unfolding name_at
name_takes at bytes x e =
    let a = bind_ok (or_fault (fault.Sections at) (until_zero bytes)) (λ parts. text_at at parts.0 >>= (λ name. Ok (name, parts.1))) x e in
    let b = mapped-Ok (λ name. (name, a.0.1)) (text_at at a.0.0) x a.2 in
    let t = text_at-Ok at a.0.0 b.0 b.1 in
    let parts = until_zero-Some bytes a.0 (or_fault-Ok _ _ a.0 a.1) in
    subst (λ (y : List ℕ × List ℕ). (bytes ≡ y.0 ++ 0 ∷ y.1) × IsName y.0) (ap (λ (name : List ℕ). (name, a.0.1)) t.0 ∙ b.2) (parts.0, record { no_zero = parts.1; utf8 = t.1 })

pub name_again : (at : ℕ) (name rest : List ℕ) → IsName name → name_at at (name ++ 0 ∷ rest) ≡ Ok (name, rest)
unfolding name_at
name_again at name rest is = rw (until_zero-name name rest is.no_zero, text_at-utf8 at name is.utf8) refl

pub ruleset texts = (text_at-utf8, text_at-not_utf8)
