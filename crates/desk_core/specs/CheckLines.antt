-- What private functions say of the lines of streams beside those of connections.
use Rattle.std.specs.Prelude.{◌≡◌, ℕ, Some}
use Rattle.wired_trail.specs.Lines.{Lines, line_at}
use Rattle.wired_trail.specs.declared.lines.Line.{Line}
use Rattle.wired_trail.specs.declared.stream_use.StreamUse.TheVariants as for_use

-- The line of each stream that is in use for checks is as it was.
abbrev pub KeepsCheckLines : Lines → Lines → Type 0
KeepsCheckLines old new = (stream : ℕ) (line : Line) (x : ℕ) → line_at old stream ≡ Some line → line.is_for ≡ for_use.Check x → line_at new stream ≡ Some line
