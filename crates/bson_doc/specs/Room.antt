-- A list with the room that was reserved behind it (own).
use Rattle.std.specs.Prelude.{ℕ, List}

-- What a buffer shows: its items, and how many more find room without taking memory.
pub record Roomy (T : Type 0) : Type 0 where
  pub items : List T
  pub room : ℕ
