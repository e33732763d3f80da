-- What a whole script says (own): the commands of its lines in order, or the first fault with its line.
use Rattle.std.specs.Prelude.{◌≡◌, ℕ, ◌+◌, List, [], ◌∷◌, ◌++◌, length, take, Result, Ok, Err, nat_lt, if◌then◌else◌}
use Rattle.cmd_build.specs.declared.command.Command.{Command}
use Rattle.script_text.specs.declared.fault.ScriptFault.{ScriptFault}
use Rattle.script_text.specs.declared.fault.ScriptKind.{ScriptKind}
use Rattle.script_text.specs.declared.fault.ScriptKind.TheVariants as kind
use Rattle.script_text.specs.declared.fault.ScriptRead.{ScriptRead}
use Rattle.script_text.specs.declared.fault.ScriptRead.TheVariants as stop
use Rattle.script_text.specs.Commands.{line_reading}
use Rattle.script_text.specs.Lines.{lines_of, is_blank, line_behind}

-- The most bytes of a script, and the most commands.
abbrev pub most_bytes : ℕ
most_bytes = 16777216

abbrev pub most_commands : ℕ
most_commands = 100000

-- A line's number, from 1, and what it says.
pub record Reading : Type 0 where
  pub number : ℕ
  pub says : Result Command ScriptKind

-- A blank line says nothing, and any other one thing.
abbrev pub read_line : ℕ → List ℕ → List Reading
read_line number line = if is_blank line then [] else record { number = number; says = line_reading line } ∷ []

-- What the lines say, in order, from a number on; a blank line counts.
abbrev pub readings : ℕ → List (List ℕ) → List Reading
readings number [] = []
readings number (line ∷ lines) = read_line number line ++ readings (number + 1) lines

abbrev pub command_in : Result Command ScriptKind → List Command
command_in (Ok command) = command ∷ []
command_in (Err kind) = []

-- The commands among them.
abbrev pub commands_of : List Reading → List Command
commands_of [] = []
commands_of (r ∷ rs) = command_in r.says ++ commands_of rs

abbrev pub fault_at : ℕ → ScriptKind → ScriptFault
fault_at number kind = record { line = number; kind = kind }

-- A line's fault is its own, or that enough commands stand before it.
abbrev pub line_faults : ℕ → ℕ → Result Command ScriptKind → List ScriptFault
line_faults before number (Err kind) = fault_at number kind ∷ []
line_faults before number (Ok command) = if nat_lt before most_commands then [] else fault_at number kind.Long ∷ []

-- The faults in order, where so many commands stand before.
abbrev pub faults_of : ℕ → List Reading → List ScriptFault
faults_of before [] = []
faults_of before (r ∷ rs) = line_faults before r.number r.says ++ faults_of (before + length (command_in r.says)) rs

-- The commands where there is no fault, else the first one.
abbrev pub unless_faulty : List Command → List ScriptFault → Result (List Command) ScriptFault
unless_faulty commands [] = Ok commands
unless_faulty commands (first ∷ others) = Err first

abbrev pub lines_reading : List (List ℕ) → Result (List Command) ScriptFault
lines_reading lines = unless_faulty (commands_of (readings 1 lines)) (faults_of 0 (readings 1 lines))

-- Behind a line the readings go on as before it, with its command among those that stand before.
abbrev pub AddsLine : ℕ → List ℕ → List Command → List Command → Type 0
AddsLine number line old new =
    (rs : List Reading) → (faults_of (length old) (read_line number line ++ rs) ≡ faults_of (length new) rs)
    × (old ++ commands_of (read_line number line ++ rs) ≡ new ++ commands_of rs)

-- The reading stopped at the first of the faults, or memory ran out.
abbrev pub StopsAt : ScriptRead → List ScriptFault → Type 0
StopsAt stop.Memory found = Unit {0}
StopsAt stop.ReadFault found = ⊥
StopsAt (stop.Fault told) [] = ⊥
StopsAt (stop.Fault told) (first ∷ others) = first ≡ told

-- What a script says. One that is too long is so at the line of its first byte too many, before any line is read.
unfoldable pub script_reading : List ℕ → Result (List Command) ScriptFault
script_reading text = if nat_lt most_bytes (length text) then Err (fault_at (line_behind (take most_bytes text)) kind.Long) else lines_reading (lines_of text)
