-- What contracts see of a desk.
use Rattle.std.specs.Prelude.{◌^◌, ℕ, Bool, List, All, max, min}
use Rattle.cmd_build.specs.Sizes.{IsWithin}
use Rattle.cmd_build.specs.declared.command.Command.{Command}
use Rattle.legal_trail.specs.Recorded.{Recorded}
use Rattle.wired_trail.specs.Lines.{Lines}

-- A desk: its net, its trail and where that leads, its picker, the moment of its last step, and whether it stopped for want of
-- memory.
pub record Desk (N P : Type 0) : Type 0 where
  pub net : N
  pub trail : Recorded
  pub picker : P
  pub last : ℕ
  pub is_stopped : Bool

-- The moment of a step, by the one before and the one that was given: moments never fall, and are at most 2^62 (own).
abbrev pub now_of : (last given : ℕ) → ℕ
now_of last given = max last (min given (2 ^ 62))

-- The documents of each of these commands have at most 90 levels (own: so that each of its messages can be written).
abbrev pub AreShallow : List Command → Type 0
AreShallow commands = All (λ c. IsWithin 90 c.act) commands

-- A desk while a step is made, with the streams that are in use, and how many entries closing the pools takes (own).
pub record Core (N : Type 0) : Type 0 where
  pub net : N
  pub lines : Lines
  pub trail : Recorded
  pub closings : ℕ
  pub last : ℕ
  pub is_stopped : Bool
