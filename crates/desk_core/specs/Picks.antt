-- How a step of a command asks the picker (Server Selection, serverSelector).
use Rattle.std.specs.Prelude.{◌≡◌, ◌⊎◌, ℕ, Bool, List, ◌∷◌, ◌++◌, All, Some, slice_get}
use Rattle.cmd_build.specs.declared.command.Command.{Command}
use Rattle.entry_judge.specs.declared.timed.Timed.{Timed}
use Rattle.server_pick.specs.declared.candidate.Candidate.{Candidate}
use Rattle.server_look.specs.Inputs.{IsRunBy}
use Rattle.desk_trail.specs.declared.entry.LookedHow.{LookedHow}
use Rattle.desk_trail.specs.Clients.{Client}
use Rattle.desk_trail.specs.Facts.{Fact}
use Rattle.desk_trail.specs.Facts as fact
use Rattle.desk_trail.specs.Legal.{point_behind}
use Rattle.desk_trail.specs.States.{ClientState, CommandState}
use Rattle.legal_trail.specs.Recorded.{Recorded, told_in}
use Rattle.desk_core.specs.Appends.{Tells}

-- The servers that were kept are those that the picker allowed, asked of each candidate for the client's command of that number
-- (Server Selection, serverSelector).
pub record IsPicked {P : Type 0} (allows : P → Candidate → Bool) (follows : P → Candidate → P → Type 0)
    (client : Client) (w : ClientState) (op : ℕ) (c : CommandState) (old : P) (kept : List ℕ) (new : P) : Type 0 where
  pub command : Command
  pub given : slice_get client.commands op ≡ Some command
  pub run : IsRunBy allows follows client w command.act c old kept new

-- A fact is no look.
abbrev pub IsNoLook : Fact → Type 0
IsNoLook (fact.Looked op a b kept how) = ⊥
IsNoLook f = Unit {0}

-- One look was appended, of this command: ahead of it came no other (`ahead`, `before`), and behind it came none (`rest`, `behind`). What
-- it kept is what the picker allowed, asked of each candidate for the command, by the client there (`picked`).
pub record LooksOnce {P : Type 0} (allows : P → Candidate → Bool) (follows : P → Candidate → P → Type 0) (moment op : ℕ) (old new : Recorded) (p q : P) : Type 0 where
  pub ahead : List (Timed Fact)
  pub before : Tells IsNoLook (told_in old) ahead
  pub a : ℕ
  pub b : ℕ
  pub kept : List ℕ
  pub how : LookedHow
  pub rest : List (Timed Fact)
  pub told : told_in new ≡ ahead ++ (record { at = moment; what = fact.Looked op a b kept how }) ∷ rest
  pub behind : All (λ (t : Timed Fact). IsNoLook t.what) rest
  pub command : CommandState
  pub there : slice_get (point_behind old.client ahead).state.commands op ≡ Some command
  pub picked : IsPicked allows follows old.client (point_behind old.client ahead).state op command p kept q

-- A step of a command looked once, and asked the picker for that; or it did not look, and left the picker alone.
abbrev pub AsksPicker : {P : Type 0} → (P → Candidate → Bool) → (P → Candidate → P → Type 0) → (moment op : ℕ) → (old new : Recorded) → (p q : P) → Type 0
AsksPicker allows follows moment op old new p q =
    LooksOnce allows follows moment op old new p q ⊎ ((q ≡ p) × Tells IsNoLook (told_in old) (told_in new))
