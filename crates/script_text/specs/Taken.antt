-- What reading a script takes from its source, and what it answers (own).
use Rattle.std.specs.Prelude.{◌≡◌, ℕ, ◌+◌, ◌≤◌, List, [], ◌++◌, length, Result, Ok, Err}
use Rattle.cmd_build.specs.declared.command.Command.{Command}
use Rattle.script_text.specs.declared.fault.ScriptRead.{ScriptRead}
use Rattle.script_text.specs.declared.fault.ScriptRead.TheVariants as stop
use Rattle.script_text.specs.Scripts.{most_bytes, script_reading}

-- The bytes were taken from the front of what was left of the source, where it tells that; at most one too many.
pub record Takes (tells : Type 0) (old new bytes : List ℕ) : Type 0 where
  pub size : length bytes ≤ most_bytes + 1
  pub front : tells → old ≡ bytes ++ new

-- Nothing is left behind bytes that are not too many.
abbrev pub IsWhole : List ℕ → List ℕ → Type 0
IsWhole bytes new = length bytes ≤ most_bytes → new ≡ []

-- The answer is what the bytes say; a failed read and want of memory say nothing of them.
abbrev pub Answers : Result (List Command) ScriptRead → List ℕ → Type 0
Answers (Ok commands) bytes = script_reading bytes ≡ Ok commands
Answers (Err (stop.Fault fault)) bytes = script_reading bytes ≡ Err fault
Answers (Err stop.ReadFault) bytes = Unit {0}
Answers (Err stop.Memory) bytes = Unit {0}

-- The answer is one that reads the whole script.
abbrev pub IsAnswer : Result (List Command) ScriptRead → Type 0
IsAnswer (Ok commands) = Unit {0}
IsAnswer (Err (stop.Fault fault)) = Unit {0}
IsAnswer (Err stop.ReadFault) = ⊥
IsAnswer (Err stop.Memory) = ⊥

-- Some bytes were taken from the source, all that was left unless those are too many, and the answer is what they say.
pub record Reads (tells : Type 0) (old new : List ℕ) (result : Result (List Command) ScriptRead) : Type 0 where
  pub bytes : List ℕ
  pub taken : Takes tells old new bytes
  pub whole : tells → IsAnswer result → IsWhole bytes new
  pub says : Answers result bytes

-- The taking stopped early, and the script was not looked at.
abbrev pub IsCut : ScriptRead → Type 0
IsCut (stop.Fault fault) = ⊥
IsCut stop.ReadFault = Unit {0}
IsCut stop.Memory = Unit {0}
