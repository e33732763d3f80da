-- What a line of bytes is, from what its parser says.
use Rattle.std.proofs.Common.{◌≡◌, ℕ, List, Bool, true, false, Option, Some, None, refl}
use Rattle.std.specs.Str.{IsUtf8, is_utf8}
use Rattle.std.proofs.lemmas.Str.{IsUtf8-from_is_utf8, is_utf8-from_IsUtf8}
use Rattle.std.specs.Prelude.{if◌then◌else◌}
use Rattle.serde_json.specs.Data.{Data}
use Rattle.serde_json.specs.Read.{read}
use Rattle.script_text.specs.Commands.{parsed}

pub parsed-some : (line : List ℕ) (d : Data) → IsUtf8 line → read line ≡ Some d → parsed line ≡ Some d
unfolding parsed
parsed-some line d utf8 is = let t : is_utf8 line ≡ true = is_utf8-from_IsUtf8 line utf8 in rw t is

none_by : (b : Bool) (o : Option Data) → (b ≡ true → o ≡ None) → (if b then o else None) ≡ None
none_by true o h = h refl
none_by false o h = refl

pub parsed-none : (line : List ℕ) → (IsUtf8 line → read line ≡ None) → parsed line ≡ None
unfolding parsed
parsed-none line h = none_by (is_utf8 line) (read line) (λ t. h (IsUtf8-from_is_utf8 line t))

pub ruleset parsed_lemmas = (parsed-some, parsed-none)
