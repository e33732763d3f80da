-- The events of a net's history, and what a call adds to it.
use Rattle.std.specs.Prelude.{◌≡◌, ◌==◌, ℕ, Bool, true, false, List, [], ◌∷◌, ◌++◌, All, filter}
use Rattle.net_link.specs.Prefix.{IsPrefixOf}
use Rattle.net_link.specs.declared.event.NetEvent.{NetEvent}
use Rattle.net_link.specs.declared.event.NetEvent.TheVariants.{Dialled, NoDial, Out, Came, Ended, Fault, Closed, Dry, Full, Handled, Elected, Followed}

-- The event is a call's own: no member noted it.
-- own: a net that plays its members notes what they do in the same history.
abbrev pub is_call : NetEvent → Bool
is_call (Handled _ _ _ _) = false
is_call (Elected _) = false
is_call (Followed _) = false
is_call _ = true

-- The event names this stream.
abbrev pub is_at : NetEvent → ℕ → Bool
is_at (Dialled s _) t = s == t
is_at (Out s _) t = s == t
is_at (Came s _) t = s == t
is_at (Ended s) t = s == t
is_at (Fault s) t = s == t
is_at (Closed s) t = s == t
is_at (Dry s) t = s == t
is_at (Full s) t = s == t
is_at (Handled _ s _ _) t = s == t
is_at (NoDial _) t = false
is_at (Elected _) t = false
is_at (Followed _) t = false

-- No event names this stream.
abbrev pub IsFresh : ℕ → List NetEvent → Type 0
IsFresh stream history = All (λ e. is_at e stream ≡ false) history

-- A call kept the history, and added exactly these events of its own; members' events may stand between.
-- own: a net may let its members act before and behind what the call itself does.
pub record Adds (events old new : List NetEvent) : Type 0 where
  pub grows : IsPrefixOf old new
  pub own : filter is_call new ≡ filter is_call old ++ events

-- All that was asked of the net between two histories concerned this stream.
pub record OnlyAt (stream : ℕ) (old new : List NetEvent) : Type 0 where
  pub events : List NetEvent
  pub adds : Adds events old new
  pub here : All (λ e. is_at e stream ≡ true) events

-- Histories one after another, between any two of which only this stream was concerned.
abbrev pub StayAt : ℕ → List NetEvent → List (List NetEvent) → List NetEvent → Type 0
StayAt stream old [] new = old ≡ new
StayAt stream old (between ∷ later) new = OnlyAt stream old between × StayAt stream between later new
