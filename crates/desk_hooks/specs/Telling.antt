-- What private functions cite.
use Rattle.std.specs.Prelude.{◌≡◌, ℕ, ◌==◌, Bool, List, ◌++◌, length, Option, None, Some, if◌then◌else◌}
use Rattle.std.specs.Option.{option_map_or}
use Rattle.entry_judge.specs.declared.timed.Timed.{Timed}
use Rattle.desk_trail.specs.declared.entry.Entry.{Entry}
use Rattle.desk_trail.specs.declared.step.Step.{Step}
use Rattle.desk_trail.specs.Facts.{Fact, Lists, fact_of, facts_of}
use Rattle.drv_events.specs.declared.event.Event.{Event}
use Rattle.drv_events.specs.declared.event.Event.TheVariants as event
use Rattle.trail_events.specs.Told.{ready_by}

-- Whether a host's pool is ready behind an entry, by whether it was ready ahead of it.
abbrev pub ready_behind : Lists → (host : ℕ) → (was : Bool) → Entry → Bool
ready_behind l host was e = option_map_or (λ f. ready_by host was f) (fact_of l e) was

-- What is told ahead of what the entry at that place tells: of the first entry, that the client began to watch its topology.
abbrev pub opening : (place : ℕ) → Option Event
opening place = if place == 0 then Some event.TopologyOpened else None

-- So many entries stood ahead of those that were appended, and by the lists as they are now they tell what they told (own).
pub record IsFront (ts : List (Timed Fact)) (behind : ℕ) (lists : Lists) (steps : List Step) : Type 0 where
  pub was : List Step
  pub added : List Step
  pub grown : steps ≡ was ++ added
  pub count : length was ≡ behind
  pub tells : facts_of lists was ≡ ts
