-- What contracts see of a legal trail with its net and lines.
use Rattle.std.specs.Prelude.{◌≡◌, ◌<◌, ℕ, false, List, Option, None, Some, All}
use Rattle.desk_trail.specs.Facts.{Fact}
use Rattle.desk_trail.specs.Facts as fact
use Rattle.legal_trail.specs.Recorded.{Recorded}
use Rattle.wired_trail.specs.Lines.{IsThere, Lines, line_at}
use Rattle.wired_trail.specs.declared.lines.Line.{Line}

-- A client's trail so far, with the net and the streams of it that are in use (own).
pub record Standing (N : Type 0) : Type 0 where
  pub net : N
  pub lines : Lines
  pub trail : Recorded

-- A line is that of its stream, which is open, and on which nothing failed yet.
pub record IsLine (live : ℕ → Type 0) (stream : ℕ) (line : Line) : Type 0 where
  pub is_open : live stream
  pub own : line.wire.stream ≡ stream
  pub going : line.wire.is_shut ≡ false

-- Each line is; and each stream that the trail dialled has a number below the net's mark (own: the invariant, by which a stream
-- that is dialled is a new one of the trail too).
pub record HasLines (live : ℕ → Type 0) (next : ℕ) (lines : Lines) (streams : List ℕ) : Type 0 where
  pub each : (stream : ℕ) (line : Line) → line_at lines stream ≡ Some line → IsLine live stream line
  pub given : All (λ stream. stream < next) streams

-- The streams that an entry begins to use are there: that of a check, and that of a new connection.
abbrev pub UsesGiven : Lines → Fact → Type 0
UsesGiven lines (fact.CheckBegan host stream) = IsThere lines stream
UsesGiven lines (fact.Dialled op host conn (Some stream)) = IsThere lines stream
UsesGiven lines f = Unit {0}
