use Rattle.std.proofs.Common.{◌≡◌, ◌≤◌, ◌+◌, ◌++◌, length}
use Rattle.script_text.specs.Lines.{lines_of}
use Rattle.script_text.specs.Scripts.{readings, commands_of, faults_of}
use Rattle.script_text.proofs.script.read_lines.Given as goal

abbrev pub invariant-lines : goal.invariant-lines
invariant-lines l = record {
  counted : l.number + length l.rest ≤ length l.text + 1;
  sound : faults_of (length l.commands) (readings l.number (lines_of l.rest)) ≡ faults_of 0 (readings 1 (lines_of l.text));
  made : l.commands ++ commands_of (readings l.number (lines_of l.rest)) ≡ commands_of (readings 1 (lines_of l.text));
}

abbrev pub decreases-lines : goal.decreases-lines
decreases-lines l = length l.rest
