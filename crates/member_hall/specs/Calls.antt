-- What a call on a hall answers and leaves, behind the start of its turn.
-- own: members that are played.
use Rattle.std.specs.Prelude.{◌≡◌, ◌<◌, ◌≤◌, ℕ, Bool, true, false, not, ◌&&◌, ◌||◌, nat_eq, nat_lt, min, max, List, [], ◌∷◌, ◌++◌, length, take, position, slice_set, Option, None, Some, Result, Ok, Err, if◌then◌else◌}
use Rattle.std.specs.Option.{option_map, option_map_or}
use Rattle.std.specs.Cmp.Lexicographic.{pointwise}
use Rattle.net_link.specs.Causes.{next_count}
use Rattle.net_link.specs.declared.event.NetEvent.{NetEvent}
use Rattle.net_link.specs.declared.event.NetEvent.TheVariants as event
use Rattle.net_link.specs.declared.net.Dialed.{Dialed}
use Rattle.net_link.specs.declared.net.Dialed.TheVariants as dialed
use Rattle.net_link.specs.declared.net.Wrote.{Wrote}
use Rattle.net_link.specs.declared.net.Wrote.TheVariants as wrote
use Rattle.net_link.specs.declared.net.Came.{Came}
use Rattle.net_link.specs.declared.net.Came.TheVariants as came
use Rattle.member_hall.specs.Halls.{HallState, PeerState, line_at, peer_at, with_line}
use Rattle.member_hall.specs.Lines.{front_at, give_line, new_line, shut_line}

-- With one more event, and with one of a call that failed.
abbrev pub noted : NetEvent → HallState → HallState
noted e h = record h { events = h.events ++ e ∷ [] }

abbrev pub faulted : NetEvent → HallState → HallState
faulted e h = record h { events = h.events ++ e ∷ []; faults = next_count h.faults }

-- The member of a stream is dead.
abbrev pub is_dead : HallState → ℕ → Bool
is_dead h stream = (peer_at h.peers (line_at h.lines stream).member).dead

-- ---- A dial

-- A dial of the address reaches the member: it has it, and is not dead.
abbrev pub takes_dials : List ℕ → PeerState → Bool
takes_dials address peer = not peer.dead && pointwise nat_eq peer.address address

-- The place of the member that a dial reaches.
abbrev pub reached : List PeerState → List ℕ → Option ℕ
reached peers address = position (takes_dials address) peers

-- The stream that a dial begins: the next number, where it reaches a member.
abbrev pub dial_stream : List ℕ → HallState → Option ℕ
dial_stream address h = option_map (λ m. length h.lines) (reached h.peers address)

abbrev pub dial_answer : List ℕ → HallState → Dialed
dial_answer address h = option_map_or dialed.Stream (dial_stream address h) dialed.Failed

-- What a call of the core answers, as the trait of nets says it: want of memory where the core wants it.
abbrev pub dialed_of : {E : Type 0} → Result (Option ℕ) E → Dialed
dialed_of (Ok (Some stream)) = dialed.Stream stream
dialed_of (Ok None) = dialed.Failed
dialed_of (Err e) = dialed.Memory

-- A stream to the member.
abbrev pub opened : ℕ → List ℕ → HallState → HallState
opened m address h = record h { lines = h.lines ++ new_line m ∷ []; events = h.events ++ event.Dialled (length h.lines) address ∷ [] }

-- A dial that reaches no member fails.
abbrev pub dial_by : Option ℕ → List ℕ → HallState → HallState
dial_by (Some m) address h = opened m address h
dial_by None address h = faulted (event.NoDial address) h

abbrev pub dial_state : List ℕ → HallState → HallState
dial_state address h = dial_by (reached h.peers address) address h

-- ---- A write

-- It fails where the member is dead, or ended the stream.
abbrev pub write_fails : HallState → ℕ → Bool
write_fails h stream = is_dead h stream || (line_at h.lines stream).ended

-- A write that does not fail takes the whole piece.
abbrev pub write_answer : ℕ → List ℕ → HallState → Wrote
write_answer stream bytes h = if write_fails h stream then wrote.Failed else wrote.Took (length bytes)

abbrev pub wrote_of : {E : Type 0} → ℕ → Result Bool E → Wrote
wrote_of size (Ok true) = wrote.Took size
wrote_of size (Ok false) = wrote.Failed
wrote_of size (Err e) = wrote.Memory

abbrev pub taken : ℕ → List ℕ → HallState → HallState
taken stream bytes h = record h {
  lines = slice_set h.lines stream (record (line_at h.lines stream) { rest = (line_at h.lines stream).rest ++ bytes });
  events = h.events ++ event.Out stream bytes ∷ [];
}

abbrev pub write_state : ℕ → List ℕ → HallState → HallState
write_state stream bytes h = if write_fails h stream then faulted (event.Fault stream) h else taken stream bytes h

-- ---- A read

-- How much it gives: what the piece holds, the first answer that can be read has left, and the member's bound allows, which is
-- one byte at least.
abbrev pub read_size : ℕ → ℕ → HallState → ℕ
read_size stream room h =
    min room (min (option_map_or (λ most. max most 1) (peer_at h.peers (line_at h.lines stream).member).split room) (length (front_at h.turn (line_at h.lines stream))))

-- It fails where the member is dead; else it gives bytes where some can be read, and says that the stream ended where none can
-- and its member ended it.
abbrev pub read_answer : ℕ → ℕ → HallState → Came
read_answer stream room h =
    if is_dead h stream
    then came.Failed
    else if nat_lt 0 (read_size stream room h)
    then came.Got (read_size stream room h)
    else if (line_at h.lines stream).ended
    then came.End
    else came.NotYet

abbrev pub came_of : {E : Type 0} → Result Came E → Came
came_of (Ok answer) = answer
came_of (Err e) = came.Memory

abbrev pub read_state : ℕ → List ℕ → Came → HallState → HallState
read_state stream into (came.Got n) h = record (with_line stream (give_line n (line_at h.lines stream)) h) { events = h.events ++ event.Came stream (take n into) ∷ [] }
read_state stream into came.NotYet h = noted (event.Dry stream) h
read_state stream into came.End h = noted (event.Ended stream) h
read_state stream into came.Failed h = faulted (event.Fault stream) h
read_state stream into came.Memory h = h

-- What it gives stands at the front of what can be read.
abbrev pub IsGiven : ℕ → List ℕ → Came → HallState → Type 0
IsGiven stream into (came.Got n) h = (0 < n) × (n ≤ length (front_at h.turn (line_at h.lines stream))) × (take n into ≡ take n (front_at h.turn (line_at h.lines stream)))
IsGiven stream into came.NotYet h = (length (front_at h.turn (line_at h.lines stream)) ≡ 0) × ((line_at h.lines stream).ended ≡ false)
IsGiven stream into came.End h = (length (front_at h.turn (line_at h.lines stream)) ≡ 0) × ((line_at h.lines stream).ended ≡ true)
IsGiven stream into came.Failed h = Unit {0}
IsGiven stream into came.Memory h = Unit {0}

-- ---- A close

abbrev pub close_state : ℕ → HallState → HallState
close_state stream h = record (with_line stream (shut_line (line_at h.lines stream)) h) { events = h.events ++ event.Closed stream ∷ [] }
