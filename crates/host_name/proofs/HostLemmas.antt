-- Lemmas on what every host keeps.
use Rattle.std.proofs.Common.{◌≡◌, ◌≤◌, ◌<◌, ℕ, List, [], ◌∷◌, length, refl, sym, subst, arith}
use Rattle.std.specs.Char.{to_ascii_lowercase}
use Rattle.std.specs.Str.{str_to_ascii_lowercase}
use Rattle.std.proofs.lemmas.Bool.Decides.{nat_tests}
use Rattle.host_name.specs.Addresses.{IsHost}

-- a letter in lower case stays as it is
lower_twice : (c : ℕ) → to_ascii_lowercase (to_ascii_lowercase c) ≡ to_ascii_lowercase c
lower_twice c = grind (arith, nat_tests)

-- so does a text
all_lower_twice : (text : List ℕ) → str_to_ascii_lowercase (str_to_ascii_lowercase text) ≡ str_to_ascii_lowercase text
all_lower_twice [] = refl
all_lower_twice (c ∷ text) = rw (lower_twice c, all_lower_twice text) refl

length-lower : (text : List ℕ) → length (str_to_ascii_lowercase text) ≡ length text
length-lower [] = refl
length-lower (c ∷ text) = rw (length-lower text) refl

-- a text that is not empty, in lower case, and a port are a host
pub IsHost-lower : (text name : List ℕ) (port : ℕ) → name ≡ str_to_ascii_lowercase text → 0 < length text → 1 ≤ port
    → IsHost (record { name = name; port = port })
IsHost-lower text name port lower some has_port =
    let P : List ℕ → Type 0 = λ n. IsHost (record { name = n; port = port }) in
    subst P (sym lower) (record {
      named = rw (length-lower text) some;
      lower_case = all_lower_twice text;
      has_port = has_port;
    })
