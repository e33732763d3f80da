-- Which commands were answered.
use Rattle.std.specs.Prelude.{◌≡◌, ℕ, ◌==◌, Bool, true, false, List, All, Some, slice_get}
use Rattle.entry_judge.specs.declared.timed.Timed.{Timed}
use Rattle.desk_trail.specs.Facts.{Fact}
use Rattle.desk_trail.specs.Facts as fact
use Rattle.desk_trail.specs.States.{ClientState, CommandState}

-- A command is answered there.
abbrev pub answers : ℕ → Fact → Bool
answers op (fact.Finished k outcome) = k == op
answers op f = false

-- It is answered nowhere.
abbrev pub IsUnanswered : ℕ → List (Timed Fact) → Type 0
IsUnanswered op ts = All (λ (t : Timed Fact). answers op t.what ≡ false) ts

-- A command, where there is one of that number, is finished.
abbrev pub IsFinishedAt : ClientState → ℕ → Type 0
IsFinishedAt w op = (c : CommandState) → slice_get w.commands op ≡ Some c → c.is_finished ≡ true
