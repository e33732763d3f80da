-- What a hall keeps, and what it shows of it.
-- own: the refinement.
use Rattle.std.specs.Prelude.{◌≡◌, ◌+◌, ◌^◌, ◌<◌, ◌≤◌, ℕ, Bool, false, List, [], ◌∷◌, All, Contains, Option, Some, None, IsSome, length, nat_le, if◌then◌else◌}
use Rattle.member_hall.specs.declared.act.Planned.{Planned}
use Rattle.member_hall.specs.declared.late.LateRequest.{LateRequest}
use Rattle.member_hall.specs.declared.hall_core.HallCore.TheInside.{Inside}
use Rattle.member_hall.specs.Acts.{host_of}
use Rattle.member_hall.specs.Halls.{HallState, line_at}
use Rattle.member_hall.specs.Lines.{LineState}
use Rattle.member_hall.specs.Shared.{HaveShares}

-- The hall that the fields stand for.
abbrev pub hall_of : Inside → HallState
hall_of c = record {
  peers = c.peers.items;
  last = c.last;
  elections = c.elections;
  plan = c.plan;
  turn = c.turn;
  lines = c.lines.items;
  unserved = c.unserved;
  events = c.log.events;
  faults = c.faults;
}

-- How many streams are open.
unfoldable pub live_count : List LineState → ℕ
live_count [] = 0
live_count (line ∷ lines) = (if line.live then 1 else 0) + live_count lines

-- A u32 numbers the members. Each number of a member or a stream is that of one; memory is kept for the close of each open stream.
pub record IsFit (h : HallState) (room : ℕ) : Type 0 where
  pub few : length h.peers < 2 ^ 32
  pub last : h.last < length h.peers
  pub members : (s : ℕ) → s < length h.lines → (line_at h.lines s).member < length h.peers
  pub hosts : All (λ (p : Planned). host_of p.act < length h.peers) h.plan
  pub unserved : (s : ℕ) → h.unserved ≡ Some s → s < length h.lines
  pub kept : live_count h.lines ≤ room

-- A late request that is to be handled at a turn.
abbrev pub is_late : ℕ → Option LateRequest → Bool
is_late turn None = false
is_late turn (Some late) = nat_le late.due turn

-- Of these streams, from one up to another, none has one.
abbrev pub NoneLate : HallState → ℕ → ℕ → Type 0
NoneLate h from to = (s : ℕ) → from ≤ s → s < to → is_late h.turn (line_at h.lines s).late ≡ false

-- Each stream that holds a late request stands in the list.
abbrev pub HaveLate : List ℕ → List LineState → Type 0
HaveLate streams lines = (s : ℕ) → IsSome (line_at lines s).late → Contains streams s

-- All of it.
pub record IsKept (c : Inside) : Type 0 where
  pub fit : IsFit (hall_of c) c.log.kept
  pub shares : HaveShares c.shares c.peers.items c.last
  pub late : HaveLate c.late.items c.lines.items
