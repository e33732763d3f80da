-- Lemmas on escapes.
use Rattle.std.proofs.Common.{◌≡◌, ℕ, Bool, true, false, cond, List, Option, None, Some, refl, ap, sym, ◌∙◌}
use Rattle.std.specs.Prelude.{IsUtf8}
use Rattle.std.specs.Str.{is_utf8}
use Rattle.std.proofs.lemmas.Str.{IsUtf8-from_is_utf8}
use Rattle.conn_uri.specs.Escapes.{earlier}

earlier-none : (a b : Option ℕ) → earlier a b ≡ None → b ≡ None
earlier-none None b e = e
earlier-none (Some a) None e = refl
earlier-none (Some a) (Some b) e = absurd (cc)

passes : (t : Bool) (k : ℕ) → cond t None (Some k) ≡ None → t ≡ true
passes true k e = refl
passes false k e = absurd (cc)

-- where neither fault is found the bytes are UTF-8
pub is_whole : (bytes : List ℕ) (cut broken found : Option ℕ) (k : ℕ) → broken ≡ cond (is_utf8 bytes) None (Some k) → found ≡ earlier cut broken → found ≡ None → IsUtf8 bytes
is_whole bytes cut broken found k test first none = IsUtf8-from_is_utf8 bytes (passes (is_utf8 bytes) k (sym test ∙ earlier-none cut broken (sym first ∙ none)))
