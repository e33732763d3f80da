-- A list of which each item has a meaning, or none at all (own).
use Rattle.std.specs.Prelude.{List, [], ◌∷◌, Option, Some}
use Rattle.std.specs.Option.{option_map, option_and_then}

-- What the items mean, in order, where each has a meaning; none where one has none.
abbrev pub each_or_none : {A B : Type 0} → (A → Option B) → List A → Option (List B)
each_or_none f [] = Some []
each_or_none f (x ∷ xs) = option_and_then (λ y. option_map (λ ys. y ∷ ys) (each_or_none f xs)) (f x)
