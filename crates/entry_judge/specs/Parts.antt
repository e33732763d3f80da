-- One trail of several parts, each judged by itself: the pools of several hosts, say.
use Rattle.std.specs.Prelude.{◌≡◌, ℕ, ◌≤◌, ◌==◌, Some, List, [], ◌∷◌, length, map, slice_get, if◌then◌else◌}
use Rattle.entry_judge.specs.declared.timed.Timed.{Timed}
use Rattle.entry_judge.specs.Groups.{Judge, LeadsTo}

-- An entry of the part of this number (own).
pub record OfPart (E : Type 0) : Type 0 where
  pub part : ℕ
  pub step : Timed E

-- One part's entries of a trail (own).
abbrev pub part_of : {E : Type 0} → ℕ → List (OfPart E) → List (Timed E)
part_of k [] = []
part_of k (t ∷ ts) = if t.part == k then t.step ∷ part_of k ts else part_of k ts

-- Entries as those of a part (own).
abbrev pub at_part : {E : Type 0} → ℕ → List (Timed E) → List (OfPart E)
at_part k ts = map (λ t. record { part = k; step = t }) ts

-- Each state is where its part of the trail leads, and no entry is of a part that did not begin yet (own).
pub record EachLeads {S E : Type 0} (j : Judge S E) (s : S) (ts : List (OfPart E)) (states : List S) : Type 0 where
  pub each : (k : ℕ) (q : S) → slice_get states k ≡ Some q → LeadsTo j s (part_of k ts) q
  pub later : (k : ℕ) → length states ≤ k → part_of k ts ≡ []
