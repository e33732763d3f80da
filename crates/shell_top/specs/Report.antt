-- The report of a run: the options that were ignored, a line a command in order, and a last line that counts them.
use Rattle.std.specs.Prelude.{ℕ, ◌+◌, Bool, false, List, [], ◌∷◌, ◌++◌, Option, None, Some, length, count_by}
use Rattle.host_name.specs.Addresses.{Address}
use Rattle.report_text.specs.Lines.{ignored_line, last_line, line}
use Rattle.write_retry.specs.Outcomes.{is_ok}
use Rattle.write_retry.specs.declared.outcome.Outcome.{Outcome}
use Rattle.desk_trail.specs.declared.trail.Trail.{Trail}
use Rattle.desk_trail.specs.Clients.{Client}
use Rattle.trail_tally.specs.Tallies.{tallies_of}
use Rattle.trail_tally.specs.declared.tally.Tally.{Tally}

-- The options that were ignored, a line each.
abbrev pub ignored_lines : List (List ℕ) → List ℕ
ignored_lines [] = []
ignored_lines (name ∷ rest) = ignored_line name ++ ignored_lines rest

-- A command's line: its answer, and how many of its attempts ended; none where it was not answered.
abbrev pub line_by : List Address → ℕ → Option Outcome → ℕ → List ℕ
line_by names number None attempts = []
line_by names number (Some o) attempts = line names number o attempts

abbrev pub line_of : List Address → ℕ → Tally → List ℕ
line_of names number t = line_by names number t.answer t.attempts

-- The commands' lines, with numbers that count from this one.
abbrev pub lines : List Address → ℕ → List Tally → List ℕ
lines names number [] = []
lines names number (t ∷ ts) = line_of names number t ++ lines names (number + 1) ts

-- A command was carried out.
abbrev pub is_ok_by : Option Outcome → Bool
is_ok_by None = false
is_ok_by (Some o) = is_ok o

abbrev pub is_ok_tally : Tally → Bool
is_ok_tally t = is_ok_by t.answer

abbrev pub ok_count : List Tally → ℕ
ok_count ts = count_by is_ok_tally ts

-- The whole report of what tallies say.
abbrev pub report_by : List (List ℕ) → List Address → List Tally → List ℕ
report_by ignored names ts = ignored_lines ignored ++ (lines names 1 ts ++ last_line (length ts) (ok_count ts))

-- The report of a client's trail.
abbrev pub report : Client → Trail → List ℕ
report client trail = report_by client.settings.warnings trail.names (tallies_of client.commands trail.steps)
