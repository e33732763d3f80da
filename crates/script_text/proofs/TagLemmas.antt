-- A loop that has read the items at the front, and has the rest before it.
use Rattle.std.proofs.Common.{◌≡◌, Bool, true, false, ◌&&◌, List, [], ◌∷◌, ◌++◌, Option, None, Some, refl, sym, ap, append_assoc}
use Rattle.std.specs.Option.{option_map}
use Rattle.script_text.specs.Reads.{with_first}

-- what is read at the front, and then what the rest gives
abbrev pub behind : {A : Type 0} → List A → Option (List A) → Option (List A)
behind front rest = option_map (λ ys. front ++ ys) rest

-- one more is read
pub behind-with_first : {A : Type 0} (front : List A) (y : A) (rest : Option (List A)) → behind front (with_first (Some y) rest) ≡ behind (front ++ y ∷ []) rest
behind-with_first front y None = refl
behind-with_first front y (Some ys) = ap Some (sym (append_assoc front (y ∷ []) ys))

-- before the first
pub behind-nil : {A : Type 0} (rest : Option (List A)) → behind [] rest ≡ rest
behind-nil None = refl
behind-nil (Some ys) = refl

pub and_false : (b : Bool) → (b && false) ≡ false
and_false true = refl
and_false false = refl

pub ruleset tag_lemmas = (behind-with_first, behind-nil, and_false)
