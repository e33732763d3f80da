-- Items whose numbers rise.
use Rattle.std.specs.Prelude.{ℕ, ◌+◌, ◌<◌, ◌≤◌, List, [], ◌∷◌}

-- The items' numbers rise, from a least one on, and stay below a bound (own: numbers are given in order, so a line of
-- them rises, and who leaves changes nothing of that).
abbrev pub Rises : {X : Type 0} → (X → ℕ) → ℕ → List X → ℕ → Type 0
Rises number least [] bound = Unit {0}
Rises number least (x ∷ xs) bound = (least ≤ number x) × (number x < bound) × Rises number (number x + 1) xs bound
