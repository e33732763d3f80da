-- What a history leaves of the members' logs: one log for each member, who takes writes, who was elected last, and which writes
-- were acknowledged.
-- own: members that stand for a replica set, so that it can be said how often a write takes effect.
use Rattle.std.specs.Prelude.{◌+◌, ◌==◌, ◌&&◌, ◌||◌, ℕ, Bool, true, false, List, [], ◌∷◌, ◌++◌, Option, None, Some, filter, fold, slice_get, if◌then◌else◌}
use Rattle.msg_wire.specs.Messages.{messages}
use Rattle.msg_wire.specs.declared.message.Message.{Message}
use Rattle.net_link.specs.declared.event.Effect.{Effect}
use Rattle.net_link.specs.declared.event.Effect.TheVariants.{Added, Known, Refused, Nothing}
use Rattle.net_link.specs.declared.event.NetEvent.{NetEvent}
use Rattle.net_link.specs.declared.event.NetEvent.TheVariants as event
use Rattle.member_core.specs.Keys.{key_of, same_key}
use Rattle.member_core.specs.declared.key.Key.{Key}
use Rattle.member_core.specs.declared.key.Key.TheVariants.{Placed}
use Rattle.member_core.specs.declared.log.LogEntry.{LogEntry}

-- How many entries of a log have a key.
abbrev pub times : Key → List LogEntry → ℕ
times key [] = 0
times key (entry ∷ log) = (if same_key entry.key key then 1 else 0) + times key log

-- All that the members are, and what went over each stream so far. A member and a stream are numbers.
pub record SetState : Type 0 where
  -- the bytes out of each stream
  pub out : ℕ → List ℕ
  -- the bytes that came on it
  pub came : ℕ → List ℕ
  -- the log of each member
  pub log : ℕ → List LogEntry
  -- whether it takes writes
  pub takes : ℕ → Bool
  -- the member that was elected last
  pub last : ℕ
  -- whether a write of that key was acknowledged
  pub acked : Key → Bool

-- At the start all logs are empty, and member 0 is elected and takes writes.
abbrev pub start : SetState
start = record { out = λ _. []; came = λ _. []; log = λ _. []; takes = λ m. m == 0; last = 0; acked = λ _. false }

-- The same but at one place.
abbrev pub update_at : {A : Type 0} → (ℕ → A) → ℕ → A → ℕ → A
update_at f place v n = if n == place then v else f n

-- The key of the request of that number among the whole requests that went out so far; its place where there is none.
abbrev pub key_in : Option Message → ℕ → ℕ → Key
key_in (Some request) stream nth = key_of request.body stream nth
key_in None stream nth = Placed stream nth

abbrev pub key_at : SetState → ℕ → ℕ → Key
key_at w stream nth = key_in (slice_get (messages (w.out stream)) nth) stream nth

-- The entry of that request.
abbrev pub entry_at : SetState → ℕ → ℕ → LogEntry
entry_at w stream nth = record { key = key_at w stream nth; stream = stream; nth = nth }

-- The acknowledged keys behind a plain answer of a member to a write: the last elected one acknowledges.
abbrev pub acks : SetState → ℕ → Key → Key → Bool
acks w member key other = ((w.last == member) && same_key key other) || w.acked other

-- Behind what a member did with a write.
abbrev pub handled : SetState → ℕ → LogEntry → Effect → SetState
handled w member entry Added = record w { log = update_at w.log member (w.log member ++ entry ∷ []); acked = acks w member entry.key }
handled w member entry Known = record w { acked = acks w member entry.key }
handled w member entry Refused = w
handled w member entry Nothing = w

-- What an election gives a member: the entries of the last elected one whose keys are acknowledged and that its own log lacks.
abbrev pub gained : SetState → ℕ → List LogEntry
gained w member = filter (λ entry. w.acked entry.key && (times entry.key (w.log member) == 0)) (w.log w.last)

-- Behind the election of a member: what it gains stands behind its own entries.
abbrev pub elected : SetState → ℕ → SetState
elected w member = record w { log = update_at w.log member (w.log member ++ gained w member); takes = update_at w.takes member true; last = member }

-- A member copied the log of the last elected one, and takes no writes.
abbrev pub followed : SetState → ℕ → SetState
followed w member = record w { log = update_at w.log member (w.log w.last); takes = update_at w.takes member false }

-- What one event does.
abbrev pub after_event : SetState → NetEvent → SetState
after_event w (event.Out stream bytes) = record w { out = update_at w.out stream (w.out stream ++ bytes) }
after_event w (event.Came stream bytes) = record w { came = update_at w.came stream (w.came stream ++ bytes) }
after_event w (event.Handled member stream nth effect) = handled w member (entry_at w stream nth) effect
after_event w (event.Elected member) = elected w member
after_event w (event.Followed member) = if w.last == member then w else followed w member
after_event w _ = w

-- What a history leaves.
unfoldable pub set_after : List NetEvent → SetState
set_after history = fold after_event start history
