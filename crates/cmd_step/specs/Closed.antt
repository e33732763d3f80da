-- Which streams a call closes (CMAP, Closing a Connection).
use Rattle.std.specs.Prelude.{◌≡◌, ◌≢◌, ◌⊎◌, ℕ, None, Some}
use Rattle.wired_trail.specs.Lines.{Lines, line_at}
use Rattle.wired_trail.specs.declared.lines.Line.{Line}
use Rattle.wired_trail.specs.declared.stream_use.StreamUse.{StreamUse}

-- A stream that was for such a use is not in use any more.
pub record IsClosed (Of : StreamUse → Type 0) (old new : Lines) (stream : ℕ) : Type 0 where
  pub line : Line
  pub there : line_at old stream ≡ Some line
  pub was_for : Of line.is_for
  pub gone : line_at new stream ≡ None

-- Each stream's line is as it was, or it was for such a use and is gone.
abbrev pub ClosesOnly : (StreamUse → Type 0) → Lines → Lines → Type 0
ClosesOnly Of old new = (stream : ℕ) → (line_at new stream ≡ line_at old stream) ⊎ IsClosed Of old new stream

-- The stream is in use for something else, or not at all.
abbrev pub IsUnused : Lines → ℕ → StreamUse → Type 0
IsUnused lines stream is_for = (line : Line) → line_at lines stream ≡ Some line → line.is_for ≢ is_for

-- Each stream's line is as it was.
abbrev pub AreSame : Lines → Lines → Type 0
AreSame old new = (stream : ℕ) → line_at new stream ≡ line_at old stream
