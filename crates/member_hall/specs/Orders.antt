-- The acts of a plan that have not happened, as they are kept.
-- own: so that a turn looks only at the acts whose turn has come.
use Rattle.std.specs.Prelude.{◌≡◌, ◌≤◌, ℕ, Bool, true, List, [], ◌∷◌, length, drop}
use Rattle.member_hall.specs.declared.act.Planned.{Planned}

-- Each act is of that turn or a later one.
abbrev pub ActsFrom : ℕ → List Planned → Type 0
ActsFrom turn [] = Unit {0}
ActsFrom turn (planned ∷ plan) = (turn ≤ planned.turn) × ActsFrom turn plan

-- The acts stand in the order of their turns.
abbrev pub IsInOrder : List Planned → Type 0
IsInOrder [] = Unit {0}
IsInOrder (planned ∷ plan) = ActsFrom planned.turn plan × IsInOrder plan

-- So many at the front have happened; the others are in order where that is said.
pub record IsPlan (gone : ℕ) (is_in_order : Bool) (acts : List Planned) : Type 0 where
  pub within : gone ≤ length acts
  pub order : is_in_order ≡ true → IsInOrder (drop gone acts)
