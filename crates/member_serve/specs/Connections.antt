-- What contracts see of the connection of one client.
use Rattle.std.specs.Prelude.{ℕ, []}
use Rattle.desk_wire.specs.State.{State, opened}

-- Its stream's wire, and how many requests were answered on it.
-- own: what a member keeps of one client.
pub record ConnectionState : Type 0 where
  pub wire : State
  pub answered : ℕ

-- On a stream on which nothing was done.
abbrev pub begun : ℕ → ConnectionState
begun stream = record { wire = opened stream; answered = 0 }
