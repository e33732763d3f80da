-- A loop that has read the items at the front of a list, and has the rest before it.
use Rattle.std.proofs.Common.{◌≡◌, ℕ, ◌+◌, ◌<◌, List, [], ◌∷◌, ◌++◌, Option, None, Some, length, drop, get_or, refl, sym, ap, ◌∙◌, append_assoc}
use Rattle.std.specs.Option.{option_map}
use Rattle.std.proofs.lemmas.List.{at_drop_more}
use Rattle.hello_reply.specs.Each.{each_or_none}

-- what is read at the front, and then what the rest gives
abbrev pub behind : {B : Type 0} → List B → Option (List B) → Option (List B)
behind front rest = option_map (λ ys. front ++ ys) rest

behind-one_more : {B : Type 0} (front : List B) (y : B) (rest : Option (List B))
    → behind front (option_map (λ ys. y ∷ ys) rest) ≡ behind (front ++ y ∷ []) rest
behind-one_more front y None = refl
behind-one_more front y (Some ys) = ap Some (sym (append_assoc front (y ∷ []) ys))

each_or_none-cons : {A B : Type 0} (f : A → Option B) (x : A) (xs : List A) (y : B)
    → f x ≡ Some y → each_or_none f (x ∷ xs) ≡ option_map (λ ys. y ∷ ys) (each_or_none f xs)
each_or_none-cons f x xs y read = rw read refl

-- one more item is read
pub each_or_none-drop : {A B : Type 0} (f : A → Option B) (xs : List A) (front : List B) (n : ℕ) (x : A) (y : B)
    → n < length xs → x ≡ get_or xs n x → f x ≡ Some y
    → behind (front ++ y ∷ []) (each_or_none f (drop (n + 1) xs)) ≡ behind front (each_or_none f (drop n xs))
each_or_none-drop f xs front n x y n_in is read =
    let one = at_drop_more (λ s. behind front (each_or_none f s)) xs n x n_in in
    let item = ap (λ i. behind front (each_or_none f (i ∷ drop (n + 1) xs))) (sym is) in
    let step = ap (behind front) (each_or_none-cons f x (drop (n + 1) xs) y read) in
    sym (one ∙ item ∙ step ∙ behind-one_more front y (each_or_none f (drop (n + 1) xs)))
