use Rattle.std.proofs.Common.{◌≡◌, ◌++◌, drop, string_bytes}
use Rattle.shell_top.specs.Report.{ignored_lines}
use Rattle.shell_top.proofs.report.push_ignored.Given as goal

abbrev pub invariant-ignored : goal.invariant-ignored
invariant-ignored l = string_bytes l.text ++ ignored_lines (drop l.name-index l.ignored) ≡ string_bytes l.fn.text ++ ignored_lines l.ignored
