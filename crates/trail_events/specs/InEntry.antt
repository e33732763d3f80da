-- The events of one entry, two at most.
use Rattle.std.specs.Prelude.{List, ◌++◌, option_to_list}
use Rattle.drv_events.specs.declared.event.Event.{Event}
use Rattle.trail_events.specs.declared.entry_events.EntryEvents.{EntryEvents}

-- They stand in that order (own: an entry tells two events at most, which so take no memory).
abbrev pub events_in : EntryEvents → List Event
events_in es = option_to_list es.ahead ++ option_to_list es.last
