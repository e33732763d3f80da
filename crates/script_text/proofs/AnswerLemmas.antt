-- What the reading of lines says of the whole text.
use Rattle.std.proofs.Common.{◌≡◌, ◌≤◌, ℕ, List, [], ◌∷◌, length, Result, Ok, Err, IfOk, IfErr, false, ltb, ap, ◌∙◌, arith}
use Rattle.cmd_build.specs.declared.command.Command.{Command}
use Rattle.script_text.specs.declared.fault.ScriptFault.{ScriptFault}
use Rattle.script_text.specs.declared.fault.ScriptRead.{ScriptRead}
use Rattle.script_text.specs.declared.fault.ScriptRead.TheVariants as stop
use Rattle.script_text.specs.Lines.{lines_of}
use Rattle.script_text.specs.Scripts.{StopsAt, faults_of, readings, commands_of, unless_faulty, lines_reading, script_reading}
use Rattle.script_text.specs.Taken.{Answers}

-- a text that is not too long says what its lines say
script_reading-short : (text : List ℕ) → length text ≤ 16777216 → script_reading text ≡ lines_reading (lines_of text)
unfolding script_reading
script_reading-short text h = let t : ltb 16777216 (length text) ≡ false = grind arith in rw t

unless_faulty-first : (commands : List Command) (faults : List ScriptFault) (f : ScriptFault) → StopsAt (stop.Fault f) faults → unless_faulty commands faults ≡ Err f
unless_faulty-first commands [] f h = absurd h
unless_faulty-first commands (first ∷ others) f h = ap Err h

pub Answers-lines : (r : Result (List Command) ScriptRead) (text : List ℕ) → length text ≤ 16777216 → IfOk r (λ c. lines_reading (lines_of text) ≡ Ok c)
    → IfErr r (λ s. StopsAt s (faults_of 0 (readings 1 (lines_of text)))) → Answers r text
Answers-lines (Ok commands) text short ok err = script_reading-short text short ∙ ok
Answers-lines (Err (stop.Fault f)) text short ok err =
    script_reading-short text short ∙ unless_faulty-first (commands_of (readings 1 (lines_of text))) (faults_of 0 (readings 1 (lines_of text))) f err
Answers-lines (Err stop.ReadFault) text short ok err = tt
Answers-lines (Err stop.Memory) text short ok err = tt
