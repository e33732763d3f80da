-- The streams that are in use, with their wires.
use Rattle.std.specs.Prelude.{◌≡◌, ◌≢◌, ℕ, List, [], Option, None, Some}
use Rattle.std.specs.BTreeMap.{is_at}
use Rattle.std.specs.Map.{lookup}
use Rattle.std.specs.Ordering.{nat_cmp}
use Rattle.net_link.specs.declared.net.Dialed.{Dialed}
use Rattle.net_link.specs.declared.net.Dialed.TheVariants as dialed
use Rattle.desk_wire.specs.State.{opened}
use Rattle.wired_trail.specs.declared.lines.Line.{Line}
use Rattle.wired_trail.specs.declared.stream_use.StreamUse.{StreamUse}

-- The lines by the numbers of their streams; a line is a stream's wire, and what the stream is for (own).
abbrev pub Lines : Type 0
Lines = List (ℕ × Line)

-- The line of a stream.
abbrev pub line_at : Lines → ℕ → Option Line
line_at lines stream = lookup (is_at (nat_cmp stream)) lines

-- A stream is in use.
pub record IsThere (lines : Lines) (stream : ℕ) : Type 0 where
  pub line : Line
  pub there : line_at lines stream ≡ Some line

-- A stream is in use, and all that was queued on it is sent.
pub record IsIdle (lines : Lines) (stream : ℕ) : Type 0 where
  pub line : Line
  pub there : line_at lines stream ≡ Some line
  pub sent : line.wire.unsent ≡ []

-- The other streams' lines are as they were.
abbrev pub KeepsOthers : ℕ → Lines → Lines → Type 0
KeepsOthers stream old new = (other : ℕ) → other ≢ stream → line_at new other ≡ line_at old other

-- A line with these bytes to send.
abbrev pub with_unsent : List ℕ → Line → Line
with_unsent bytes line = record line { wire = record line.wire { unsent = bytes } }

-- A stream that was not in use is now, for that; nothing was done on it.
pub record Begins (is_for : StreamUse) (old new : Lines) (stream : ℕ) : Type 0 where
  pub before : line_at old stream ≡ None
  pub now : line_at new stream ≡ Some (record { wire = opened stream; is_for = is_for })
  pub others : KeepsOthers stream old new

-- By the answer of a dial: its stream is in use now; where it gave none, all lines are as they were.
abbrev pub BeginsBy : Dialed → StreamUse → Lines → Lines → Type 0
BeginsBy (dialed.Stream s) is_for old new = Begins is_for old new s
BeginsBy dialed.Failed is_for old new = new ≡ old
BeginsBy dialed.Memory is_for old new = new ≡ old
