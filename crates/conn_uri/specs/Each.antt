-- What is read of each item of a list.
use Rattle.std.specs.Prelude.{List, [], ◌∷◌, Option, None, Some, Result, Ok, Err}
use Rattle.std.specs.Option.{option_map, option_and_then}
use Rattle.bson_doc.specs.Steps.{◌>>=◌}

-- Each item is read, in order, up to the first fault.
abbrev pub read_each : {E A B : Type 0} → (A → Result B E) → List A → Result (List B) E
read_each f [] = Ok []
read_each f (x ∷ xs) = f x >>= (λ y. read_each f xs >>= (λ ys. Ok (y ∷ ys)))

-- What each item gives; none where some item gives nothing.
abbrev pub each_or_none : {A B : Type 0} → (A → Option B) → List A → Option (List B)
each_or_none f [] = Some []
each_or_none f (x ∷ xs) = option_and_then (λ y. option_map (λ ys. y ∷ ys) (each_or_none f xs)) (f x)
