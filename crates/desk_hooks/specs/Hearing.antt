-- What listeners hear of a client's trail.
use Rattle.std.specs.Prelude.{◌≡◌, Bool, List, ◌++◌, map}
use Rattle.entry_judge.specs.declared.timed.Timed.{Timed}
use Rattle.desk_trail.specs.Facts.{Fact}
use Rattle.drv_events.specs.declared.event.Event.{Event}
use Rattle.drv_events.specs.declared.hooks.HooksOf.{HooksOf}
use Rattle.drv_events.specs.Runs.{Leads, Tells}
use Rattle.trail_events.specs.Told.{told}

module _ {L : Type 0} (heard : L → List Event) (leaves : L → Bool) where
  -- All listeners were told these events, in order, each of them once; those that leave are dropped and counted (SDAM Monitoring,
  -- Event API; own: the leaving).
  abbrev pub AreTold : List Event → (old new : HooksOf L) → Type 0
  AreTold events old new = Leads heard leaves (map (λ e. Tells e) events) old.listeners.items old.left new.listeners.items new.left

  -- They were told exactly what entries tell that were appended to others: what the trail tells now, behind what it told before.
  pub record HearMore (before after : List (Timed Fact)) (old new : HooksOf L) : Type 0 where
    pub events : List Event
    pub told_is : told after ≡ told before ++ events
    pub heard_all : AreTold events old new
