use Rattle.std.proofs.Common.{◌≡◌, ◌+◌, ◌++◌, drop, string_bytes}
use Rattle.shell_top.specs.Report.{lines}
use Rattle.shell_top.proofs.report.push_lines.Given as goal

abbrev pub invariant-lines : goal.invariant-lines
invariant-lines l = string_bytes l.text ++ lines l.names (l.place + 1) (drop l.place l.tallies) ≡ string_bytes l.fn.text ++ lines l.names 1 l.tallies
