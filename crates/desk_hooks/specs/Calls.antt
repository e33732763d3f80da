-- What listeners hear of a client from its beginning to its end.
use Rattle.std.specs.Prelude.{◌≡◌, ◌+◌, Bool, List, [], ◌∷◌, ◌++◌, length, map}
use Rattle.entry_judge.specs.declared.timed.Timed.{Timed}
use Rattle.desk_trail.specs.Facts.{Fact}
use Rattle.drv_events.specs.declared.event.Event.{Event}
use Rattle.drv_events.specs.declared.hooks.HooksOf.{HooksOf}
use Rattle.drv_events.specs.Runs.{AreAmong}
use Rattle.desk_hooks.specs.Hearing.{HearMore}

-- What a client's entries tell at the end of a call, and its listeners then.
pub record Stage (L : Type 0) : Type 0 where
  pub facts : List (Timed Fact)
  pub hooks : HooksOf L

module _ {L : Type 0} (heard : L → List Event) (leaves : L → Bool) where
  -- Calls that lead from a stage through these stages: each tells what it appended.
  abbrev pub AreCalls : Stage L → List (Stage L) → Type 0
  AreCalls s [] = Unit {0}
  AreCalls s (t ∷ ts) = HearMore heard leaves s.facts t.facts s.hooks t.hooks × AreCalls t ts

-- Of the listeners that were there, in order, those that are still there heard just these events since, each of them once and in
-- order; those that are not there left, and are counted. So where none left each heard just these.
pub record HeardWhole {L : Type 0} (heard : L → List Event) (events : List Event) (old new : HooksOf L) : Type 0 where
  pub heard_all : AreAmong (map heard new.listeners.items) (map (λ x. heard x ++ events) old.listeners.items)
  pub counted : new.left + length new.listeners.items ≡ old.left + length old.listeners.items
  pub all_stayed : new.left ≡ old.left → map heard new.listeners.items ≡ map (λ x. heard x ++ events) old.listeners.items
