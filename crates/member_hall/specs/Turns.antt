-- The start of a turn, and what is done with the bytes that a stream got.
-- own: when members that are played do what they do.
use Rattle.std.specs.Prelude.{◌≡◌, ℕ, zero, suc, ◌==◌, Bool, true, false, not, ◌&&◌, length, filter, fold, Option, None, Some, nat_le, if◌then◌else◌}
use Rattle.net_link.specs.Causes.{next_count}
use Rattle.msg_wire.specs.Messages.{messages}
use Rattle.msg_wire.specs.Reading.{flaw}
use Rattle.msg_wire.specs.declared.fault.MsgFault.{MsgFault}
use Rattle.msg_wire.specs.declared.fault.MsgFault.TheVariants as fault
use Rattle.msg_wire.specs.declared.message.Message.{Message}
use Rattle.member_hall.specs.declared.act.Planned.{Planned}
use Rattle.member_hall.specs.declared.place.Place.{Place}
use Rattle.member_hall.specs.Acts.{happened}
use Rattle.member_hall.specs.Halls.{HallState, line_at, peer_at, with_line, with_peer}
use Rattle.member_hall.specs.Lines.{end_line}
use Rattle.member_hall.specs.Requests.{Scene, late_scene, request}

-- ---- The requests of a stream

-- Where a stream's next request stands, now.
abbrev pub place_in : HallState → ℕ → Place
place_in h stream = record {
  stream = stream;
  nth = (line_at h.lines stream).count;
  member = (line_at h.lines stream).member;
  turn = h.turn;
  lead = h.last == (line_at h.lines stream).member;
}

-- What it concerns, and the hall behind what was done with it.
abbrev pub scene_in : HallState → ℕ → Scene
scene_in h stream = record {
  peer = peer_at h.peers (line_at h.lines stream).member;
  line = line_at h.lines stream;
  events = h.events;
}

abbrev pub put_scene : ℕ → Scene → HallState → HallState
put_scene stream scene h = record (with_line stream scene.line (with_peer (line_at h.lines stream).member scene.peer h)) { events = scene.events }

-- A request of the stream comes to its member.
unfoldable pub request_on : ℕ → HallState → Message → HallState
request_on stream h message = put_scene stream (request (place_in h stream) message (scene_in h stream)) h

-- The next of the stream's requests, where the member has not ended it.
unfoldable pub next_on : ℕ → HallState → Message → HallState
next_on stream h message = if (line_at h.lines stream).ended then h else request_on stream h message

-- The bytes begin with no message, and with no front of one.
abbrev pub is_fault : Option MsgFault → Bool
is_fault None = false
is_fault (Some (fault.Short need)) = false
is_fault (Some _) = true

-- The member ends a stream.
unfoldable pub end_on : ℕ → HallState → HallState
end_on stream h = with_line stream (end_line h.turn (line_at h.lines stream)) h

-- Bytes with a flaw end their stream, if the member has not, and get no answer.
unfoldable pub checked_on : ℕ → HallState → HallState
checked_on stream h = if not (line_at h.lines stream).ended && is_fault (flaw (line_at h.lines stream).rest) then end_on stream h else h

-- All whole requests that a stream got come to its member, one after another, until the member ends the stream.
unfoldable pub served : ℕ → HallState → HallState
served stream h = checked_on stream (fold (next_on stream) h (messages (line_at h.lines stream).rest))

-- How many bytes a stream got behind the requests that came to its member.
abbrev pub rest_length : HallState → ℕ → ℕ
rest_length h stream = length (line_at h.lines stream).rest

-- Behind a part of it: what is left to do is the same, or nothing is.
abbrev pub ServesOn : (more : Bool) → ℕ → HallState → HallState → Type 0
ServesOn true stream old new = served stream new ≡ served stream old
ServesOn false stream old new = new ≡ served stream old

-- ---- The start of a turn

-- What was left of a write for want of memory is served.
abbrev pub resumed_by : Option ℕ → HallState → HallState
resumed_by None h = h
resumed_by (Some stream) h = record (served stream h) { unserved = None }

unfoldable pub resumed : HallState → HallState
resumed h = resumed_by h.unserved h

-- The turn of an act has come.
abbrev pub is_due : ℕ → Planned → Bool
is_due turn planned = nat_le planned.turn turn

-- The acts whose turn has come leave the plan and happen, in the plan's order.
unfoldable pub acted : HallState → HallState
acted h = fold (λ g planned. happened planned.act g) (record h { plan = filter (λ planned. not (is_due h.turn planned)) h.plan }) (filter (is_due h.turn) h.plan)

-- A stream's late request is handled if its turn has come.
unfoldable pub late_on : ℕ → HallState → HallState
late_on stream h = put_scene stream (late_scene (line_at h.lines stream).late (place_in h stream) (scene_in h stream)) h

-- The same of the first so many streams, in the order of their numbers.
unfoldable pub late_among : ℕ → HallState → HallState
late_among zero h = h
late_among (suc stream) h = late_on stream (late_among stream h)

unfoldable pub come_late : HallState → HallState
come_late h = late_among (length h.lines) h

-- The next turn.
abbrev pub ticked : HallState → HallState
ticked h = record h { turn = next_count h.turn }

-- The hall behind the start of a turn.
unfoldable pub begun : HallState → HallState
begun h = come_late (acted (resumed (ticked h)))
