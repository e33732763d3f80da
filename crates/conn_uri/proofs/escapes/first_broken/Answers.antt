use Rattle.std.proofs.Common.{◌≡◌, Bool, true, false, List, ℕ, refl, ap, ◌∙◌}
use Rattle.std.specs.Prelude.{Some, IsUtf8}
use Rattle.std.specs.Str.{is_utf8}
use Rattle.std.proofs.lemmas.Str.{is_utf8-from_IsUtf8, IsUtf8-from_is_utf8}
use Rattle.conn_uri.specs.Escapes.{source}
use Rattle.conn_uri.proofs.escapes.first_broken.Goals as goal

fails : (t : Bool) → (t ≡ true → ⊥) → t ≡ false
fails true h = absurd (h refl)
fails false h = refl

is_utf8-false : (bytes : List ℕ) → (IsUtf8 bytes → ⊥) → is_utf8 bytes ≡ false
is_utf8-false bytes h = fails (is_utf8 bytes) (λ e. h (IsUtf8-from_is_utf8 bytes e))

pub returns-in-Ok : goal.returns-in-Ok
returns-in-Ok c = rw (is_utf8-from_IsUtf8 c.args.bytes.now c.in-Ok.ensures.cases.1) refl

pub returns-in-Err : goal.returns-in-Err
returns-in-Err c =
    rw (is_utf8-false c.args.bytes.now c.in-Err.ensures.cases.0)
    (ap Some (c.source_of.ensures.place ∙ ap (λ k. source k c.args.text.now) (c.valid_up_to.ensures ∙ c.in-Err.ensures.valid_len)))
