-- One stream's part of a history.
use Rattle.std.specs.Prelude.{◌≡◌, ℕ, Bool, true, false, List, [], ◌++◌, ◌||◌, drop, fold, length, if◌then◌else◌}
use Rattle.net_link.specs.Events.{is_at}
use Rattle.net_link.specs.Prefix.{IsPrefixOf}
use Rattle.net_link.specs.declared.event.NetEvent.{NetEvent}
use Rattle.net_link.specs.declared.event.NetEvent.TheVariants.{Out, Came, Ended, Fault, Dry, Full}

-- What a history says of a stream.
pub record Seen : Type 0 where
  -- the bytes that writes took
  pub out : List ℕ
  -- the bytes that reads gave
  pub came : List ℕ
  -- a read said that the peer ended
  pub ended : Bool
  -- a call on it failed
  pub fault : Bool
  -- the last of its events Out, Came, Dry and Full is Dry or Full
  pub waits : Bool

-- Of a stream without events.
abbrev pub unseen : Seen
unseen = record { out = []; came = []; ended = false; fault = false; waits = false }

-- With one more event of the stream.
abbrev pub with_event : Seen → NetEvent → Seen
with_event v (Out _ bytes) = record v { out = v.out ++ bytes; waits = false }
with_event v (Came _ bytes) = record v { came = v.came ++ bytes; waits = false }
with_event v (Ended _) = record v { ended = true }
with_event v (Fault _) = record v { fault = true }
with_event v (Dry _) = record v { waits = true }
with_event v (Full _) = record v { waits = true }
with_event v _ = v

-- With one more event of the net: one that names another stream, or none, says nothing.
abbrev pub after : ℕ → Seen → NetEvent → Seen
after stream v e = if is_at e stream then with_event v e else v

-- What a history says of a stream: its events, one after another.
-- own: each stream's view is a fold of the one history, so that a call owes only what it adds to that.
unfoldable pub seen : ℕ → List NetEvent → Seen
seen stream history = fold (after stream) unseen history

-- What a stream's view gained between two histories: what the events behind the older one say of it.
unfoldable pub gained : ℕ → List NetEvent → List NetEvent → Seen
gained stream old new = seen stream (drop (length old) new)

-- A view with what it gained is the later one: the bytes of both, one behind the other, and what either says; where the
-- last that was gained had to wait, so had the last of all.
pub record Joins (before gain now : Seen) : Type 0 where
  pub out : now.out ≡ before.out ++ gain.out
  pub came : now.came ≡ before.came ++ gain.came
  pub ended : now.ended ≡ (before.ended || gain.ended)
  pub fault : now.fault ≡ (before.fault || gain.fault)
  pub waits : gain.waits ≡ true → now.waits ≡ true

-- Between two histories the net said that there is nothing yet, last of all that it gave, took or refused on the stream.
-- own: the cause that a wait, or a time that is up, has in a call.
pub record SaidNotYet (stream : ℕ) (old new : List NetEvent) : Type 0 where
  pub grows : IsPrefixOf old new
  pub last : (gained stream old new).waits ≡ true
