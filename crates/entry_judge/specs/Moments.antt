-- Moments that never fall.
use Rattle.std.specs.Prelude.{ℕ, ◌≤◌, List}
use Rattle.entry_judge.specs.declared.timed.Timed.{Timed}
use Rattle.entry_judge.specs.Judge.{Legal}

-- No entry's moment is below that of the entry ahead of it, and the first one's not below a given one (own: a trail is
-- written as time goes on).
abbrev pub NeverFalls : {E : Type 0} → ℕ → List (Timed E) → Type 0
NeverFalls last ts = Legal (λ n t. n ≤ t.at) (λ n t. t.at) last ts
