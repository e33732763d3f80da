-- What one entry alone shows of the events that it tells.
use Rattle.std.specs.Prelude.{List, [], ◌∷◌, Option, None, Some}
use Rattle.drv_events.specs.declared.event.Event.{Event}
use Rattle.drv_events.specs.declared.event.Event.TheVariants as event
use Rattle.desk_trail.specs.declared.entry.Entry.{Entry}
use Rattle.desk_trail.specs.declared.entry.Entry.TheVariants as entry
use Rattle.trail_events.specs.Told.{check_tells, end_tells, offer_tells, settled_tells, why_of}

-- The last of some events.
abbrev pub last_of : List Event → Option Event
last_of [] = None
last_of (e ∷ []) = Some e
last_of (e ∷ es) = last_of es

-- The last event that an entry tells, whatever stands ahead of it and at the place that it names; of a server that is named, that it
-- came into the topology. Of a pool that is cleared and of a request it is none: whether the pool was ready and for what the request
-- was asked stands elsewhere in the trail (own).
abbrev pub event_alone : Entry → Option Event
event_alone (entry.Named host) = Some (event.ServerOpened host)
event_alone (entry.Dropped host) = Some (event.ServerClosed host)
event_alone (entry.Offered place taken) = last_of (offer_tells taken)
event_alone (entry.PoolReady host) = Some (event.PoolReady host)
event_alone (entry.PoolClear host) = None
event_alone (entry.PoolShut host) = Some (event.PoolClosed host)
event_alone (entry.CheckBegan host stream) = Some (event.BeatStarted host)
event_alone (entry.CheckEnded host how) = last_of (check_tells host how)
event_alone (entry.Entered op host ticket) = Some (event.OutStarted host op)
event_alone (entry.Lent op host conn) = Some (event.CheckedOut host conn op)
event_alone (entry.Dialled op host conn stream) = Some (event.ConnCreated host conn)
event_alone (entry.Settled op host conn stale) = last_of (settled_tells host conn stale)
event_alone (entry.NotLent op host u) = Some (event.OutFailed host op (why_of u))
event_alone (entry.CheckedIn op host conn errored) = Some (event.CheckedIn host conn op)
event_alone (entry.ConnShut host conn reason) = Some (event.ConnClosed host conn reason)
event_alone (entry.Asked place) = None
event_alone (entry.Ended op end) = last_of (end_tells op end)
event_alone e = None
