-- A hall as contracts see it: the members, the streams to them, the plan, and the history.
-- own: a net in memory that plays a replica set.
use Rattle.std.specs.Prelude.{◌≡◌, ℕ, Bool, true, false, List, [], Option, None, slice_index_or, slice_set}
use Rattle.member_core.specs.Members.{MemberState}
use Rattle.net_link.specs.declared.event.NetEvent.{NetEvent}
use Rattle.member_hall.specs.declared.act.Planned.{Planned}
use Rattle.member_hall.specs.declared.act.Act.TheVariants as act
use Rattle.member_hall.specs.declared.rule.Rule.{Rule}
use Rattle.member_hall.specs.Lines.{LineState, inbox_at}

-- A member; the host as it is dialled; whether dials, reads and writes there fail; the most that a read gives; what its next
-- write requests meet, and how many turns later its next answers come, both in order.
pub record PeerState : Type 0 where
  pub address : List ℕ
  pub member : MemberState
  pub dead : Bool
  pub split : Option ℕ
  pub rules : List Rule
  pub holds : List ℕ

-- The members by their places; the last elected one; how many elections there were; the acts that have not happened; the
-- turn; the streams by their numbers; a stream whose requests wait for memory; the history; how often a call failed.
pub record HallState : Type 0 where
  pub peers : List PeerState
  pub last : ℕ
  pub elections : ℕ
  pub plan : List Planned
  pub turn : ℕ
  pub lines : List LineState
  pub unserved : Option ℕ
  pub events : List NetEvent
  pub faults : ℕ

-- Where no member is, and where no stream is.
abbrev pub no_member : MemberState
no_member = record { set = []; hosts = []; place = 0; log = []; election = None; changes = 0 }

abbrev pub no_peer : PeerState
no_peer = record { address = []; member = no_member; dead = false; split = None; rules = []; holds = [] }

abbrev pub no_line : LineState
no_line = record { member = 0; count = 0; rest = []; answers = []; late = None; ended = false; live = false }

-- The member at a place.
abbrev pub peer_at : List PeerState → ℕ → PeerState
peer_at peers m = slice_index_or peers m no_peer

-- The act at a place of a plan.
abbrev pub no_act : Planned
no_act = record { turn = 0; act = act.Alive 0 }

abbrev pub plan_at : List Planned → ℕ → Planned
plan_at plan place = slice_index_or plan place no_act

-- The stream of a number.
abbrev pub line_at : List LineState → ℕ → LineState
line_at lines s = slice_index_or lines s no_line

-- With another member there, or another stream.
abbrev pub with_peer : ℕ → PeerState → HallState → HallState
with_peer m peer h = record h { peers = slice_set h.peers m peer }

abbrev pub with_line : ℕ → LineState → HallState → HallState
with_line s line h = record h { lines = slice_set h.lines s line }

-- The stream is open.
unfoldable pub IsLive : List LineState → ℕ → Type 0
IsLive lines s = (line_at lines s).live ≡ true

-- The member ended the stream.
unfoldable pub HasEnded : List LineState → ℕ → Type 0
HasEnded lines s = (line_at lines s).ended ≡ true

-- What has come on the stream and no read has had.
unfoldable pub inbox_of : HallState → ℕ → List ℕ
inbox_of h s = inbox_at h.turn (line_at h.lines s)
