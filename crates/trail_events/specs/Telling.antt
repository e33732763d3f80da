-- What private functions keep while they go through a trail.
use Rattle.std.specs.Prelude.{◌≡◌, ℕ, Bool, false, List, [], ◌∷◌, slice_index_or}
use Rattle.drv_events.specs.declared.event.Event.{Event}
use Rattle.drv_events.specs.declared.event.Event.TheVariants as event
use Rattle.entry_judge.specs.declared.timed.Timed.{Timed}
use Rattle.desk_trail.specs.declared.entry.Entry.{Entry}
use Rattle.desk_trail.specs.declared.entry.Entry.TheVariants as entry
use Rattle.desk_trail.specs.Facts.{Fact}
use Rattle.trail_events.specs.Told.{is_ready, ready_by, told}
use Rattle.trail_events.specs.declared.telling.Telling.{Telling}

-- Whether the host's pool is ready, kept at the host's number; it is not where nothing is kept there.
abbrev pub ready_at : List Bool → ℕ → Bool
ready_at ready host = slice_index_or ready host false

-- The same of the pool that an entry clears.
abbrev pub ready_there : List Bool → Entry → Bool
ready_there ready (entry.PoolClear host) = ready_at ready host
ready_there ready e = false

-- What is kept of the pools is as the entry leaves it.
abbrev pub NotesPool : Fact → (old new : List Bool) → Type 0
NotesPool f old new = (host : ℕ) → ready_at new host ≡ ready_by host (ready_at old host) f

-- The events ahead of those of a further entry: the first entry is told behind the beginning.
abbrev pub begun : List Event → List Event
begun [] = event.TopologyOpened ∷ []
begun (e ∷ es) = e ∷ es

-- The events that these entries tell, and which pools are ready behind them.
pub record IsTelling (ts : List (Timed Fact)) (t : Telling) : Type 0 where
  pub events : t.events ≡ told ts
  pub ready : (host : ℕ) → ready_at t.ready.items host ≡ is_ready host ts
