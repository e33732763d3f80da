-- What becomes of the stream of a check that is driven (own).
use Rattle.std.specs.Prelude.{◌≡◌, ℕ, [], Some}
use Rattle.wired_trail.specs.Lines.{Lines, line_at}
use Rattle.wired_trail.specs.declared.lines.Line.{Line}

-- A stream is in use for what it was in use for.
pub record IsStillUsed (old new : Lines) (stream : ℕ) : Type 0 where
  pub before : Line
  pub was : line_at old stream ≡ Some before
  pub now : Line
  pub there : line_at new stream ≡ Some now
  pub is_for : now.is_for ≡ before.is_for

-- So it is, and all that was queued on it is sent.
pub record IsKeptIdle (old new : Lines) (stream : ℕ) : Type 0 where
  pub still : IsStillUsed old new stream
  pub sent : still.now.wire.unsent ≡ []
