-- What the answers of a net's calls say: the events that each stands for, and how much it took or gave.
-- own: what a net tells, one event an answer.
use Rattle.std.specs.Prelude.{ℕ, ◌<◌, ◌≤◌, List, [], ◌∷◌, length, take}
use Rattle.net_link.specs.declared.event.NetEvent.{NetEvent}
use Rattle.net_link.specs.declared.event.NetEvent.TheVariants as event
use Rattle.net_link.specs.declared.net.Dialed.{Dialed}
use Rattle.net_link.specs.declared.net.Dialed.TheVariants as dialed
use Rattle.net_link.specs.declared.net.Wrote.{Wrote}
use Rattle.net_link.specs.declared.net.Wrote.TheVariants as wrote
use Rattle.net_link.specs.declared.net.Came.{Came}
use Rattle.net_link.specs.declared.net.Came.TheVariants as came

-- A dial's events: the stream with its address, or that there was none; want of memory adds nothing.
abbrev pub dial_events : List ℕ → Dialed → List NetEvent
dial_events address (dialed.Stream s) = event.Dialled s address ∷ []
dial_events address dialed.Failed = event.NoDial address ∷ []
dial_events address dialed.Memory = []

-- A write's events: the bytes that it took, that the out-buffer was full, or its failure.
abbrev pub write_events : ℕ → List ℕ → Wrote → List NetEvent
write_events stream bytes (wrote.Took n) = event.Out stream (take n bytes) ∷ []
write_events stream bytes wrote.NotYet = event.Full stream ∷ []
write_events stream bytes wrote.Failed = event.Fault stream ∷ []
write_events stream bytes wrote.Memory = []

-- A read's events: the bytes that it gave, that there were none yet, that the peer ended, or its failure.
abbrev pub read_events : ℕ → List ℕ → Came → List NetEvent
read_events stream into (came.Got n) = event.Came stream (take n into) ∷ []
read_events stream into came.NotYet = event.Dry stream ∷ []
read_events stream into came.End = event.Ended stream ∷ []
read_events stream into came.Failed = event.Fault stream ∷ []
read_events stream into came.Memory = []

-- A close's events.
abbrev pub close_events : ℕ → List NetEvent
close_events stream = event.Closed stream ∷ []

-- The fact for the stream that a dial gave.
abbrev pub IfStream : Dialed → (ℕ → Type 0) → Type 0
IfStream (dialed.Stream s) P = P s
IfStream _ P = Unit {0}

-- A dial's number was never given before: it lies from the old mark up to the new one, and its stream is open.
abbrev pub IsNewStream : ℕ → ℕ → (ℕ → Type 0) → ℕ → Type 0
IsNewStream mark_before mark_now live stream = (mark_before ≤ stream) × (stream < mark_now) × live stream

-- A write takes from one byte to the whole piece.
abbrev pub TakesWithin : List ℕ → Wrote → Type 0
TakesWithin bytes (wrote.Took n) = (0 < n) × (n ≤ length bytes)
TakesWithin bytes _ = Unit {0}

-- A read gives from one byte to the whole piece.
abbrev pub GotWithin : List ℕ → Came → Type 0
GotWithin into (came.Got n) = (0 < n) × (n ≤ length into)
GotWithin into _ = Unit {0}
