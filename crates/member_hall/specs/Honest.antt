-- What a hall promises of its history.
-- own: the invariant by which a hall's history is honest.
use Rattle.std.specs.Prelude.{◌≡◌, ◌<◌, ◌≤◌, ℕ, Bool, true, false, List, [], ◌++◌, length, Some, Contains, filter, slice_get}
use Rattle.msg_wire.specs.Messages.{behind_messages, messages}
use Rattle.msg_wire.specs.declared.message.Message.{Message}
use Rattle.net_link.specs.Events.{IsFresh}
use Rattle.net_link.specs.declared.event.Effect.{Effect}
use Rattle.net_link.specs.declared.event.NetEvent.{NetEvent}
use Rattle.net_link.specs.declared.event.NetEvent.TheVariants as event
use Rattle.member_core.specs.Honest.{IsAnswer, IsDialled, IsHonest}
use Rattle.member_core.specs.Logs.{set_after}
use Rattle.member_core.specs.Members.{MemberState}
use Rattle.member_core.specs.Standing.{StandAs}
use Rattle.member_hall.specs.declared.late.LateRequest.{LateRequest}
use Rattle.member_hall.specs.Halls.{HallState, PeerState, line_at, peer_at}
use Rattle.member_hall.specs.Lines.{LineState, bytes_of}

-- The members, by their places.
abbrev pub members_of : List PeerState → ℕ → MemberState
members_of peers m = (peer_at peers m).member

-- What has come on a stream and what will: the bytes that reads had, and those of all answers.
abbrev pub answers_on : List NetEvent → ℕ → LineState → List ℕ
answers_on events s line = (set_after events).came s ++ bytes_of line.answers

-- A stream that its member has not ended, of which these bytes went out, and those of all its answers: so many requests were
-- handled, each is answered, and what is left of the bytes that went out stands behind them.
pub record IsOpenLine (out replies : List ℕ) (line : LineState) : Type 0 where
  pub done : List Message
  pub count : length done ≡ line.count
  pub requests : messages out ≡ done ++ messages line.rest
  pub behind : behind_messages out ≡ behind_messages line.rest
  pub answered : length (messages replies) ≡ line.count
  pub whole : behind_messages replies ≡ []

-- A stream: it was dialled; only its member handled requests of it, and only as many as it counts; whatever comes on it are
-- answers; a request that is handled later is the next one, and the stream ended.
pub record IsSoundLine (events : List NetEvent) (s : ℕ) (line : LineState) : Type 0 where
  pub dialled : IsDialled events s
  pub handled : (m n : ℕ) (effect : Effect) → Contains events (event.Handled m s n effect) → (m ≡ line.member) × (n < line.count)
  pub answers : (n : ℕ) (reply : Message) → slice_get (messages (answers_on events s line)) n ≡ Some reply → IsAnswer events s n reply
  pub going : line.ended ≡ false → IsOpenLine ((set_after events).out s) (answers_on events s line) line
  pub late : (request : LateRequest) → line.late ≡ Some request → (line.ended ≡ true) × (slice_get (messages ((set_after events).out s)) line.count ≡ Some request.message)

-- How many elections a history tells.
abbrev pub is_elected : NetEvent → Bool
is_elected (event.Elected m) = true
is_elected _ = false

abbrev pub elections_in : List NetEvent → ℕ
elections_in events = length (filter is_elected events)

-- The history is honest; the members, the last elected one and the count of elections are those that it tells; each stream is
-- sound, and no event names any other.
pub record IsSound (h : HallState) : Type 0 where
  pub honest : IsHonest h.events
  pub stand : StandAs (members_of h.peers) (set_after h.events)
  pub last : (set_after h.events).last ≡ h.last
  pub elections : elections_in h.events ≡ h.elections
  pub lines : (s : ℕ) → s < length h.lines → IsSoundLine h.events s (line_at h.lines s)
  pub fresh : (s : ℕ) → length h.lines ≤ s → IsFresh s h.events
