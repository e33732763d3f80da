-- Two tests that say the same.
use Rattle.std.proofs.Common.{◌≡◌, Bool, true, false, refl, sym}

pub same_bool : (a b : Bool) → (a ≡ true → b ≡ true) → (b ≡ true → a ≡ true) → a ≡ b
same_bool true true f g = refl
same_bool true false f g = sym (f refl)
same_bool false true f g = g refl
same_bool false false f g = refl
