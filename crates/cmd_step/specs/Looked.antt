-- What a look does to the command that looked, and to the servers (Server Selection).
use Rattle.std.specs.Prelude.{ℕ, List, Option, None, Some, map}
use Rattle.write_retry.specs.declared.events.OpEvent.{OpEvent}
use Rattle.desk_trail.specs.declared.entry.LookedHow.{LookedHow}
use Rattle.desk_trail.specs.declared.entry.LookedHow.TheVariants as looked
use Rattle.desk_trail.specs.Attempts.{look_event, with_event}
use Rattle.desk_trail.specs.Checks.{asked}
use Rattle.desk_trail.specs.Clients.{Client}
use Rattle.desk_trail.specs.Looks.{look_by}
use Rattle.desk_trail.specs.States.{ClientState, CommandState, ServerState}

-- The command once it was told an event, where there is one.
abbrev pub told_by : Option OpEvent → CommandState → CommandState
told_by None c = c
told_by (Some e) c = with_event e c

-- The command behind its look.
abbrev pub looked_by : Client → ClientState → ℕ → LookedHow → CommandState → CommandState
looked_by client w moment how c = told_by (look_event client w how) (look_by w moment how c)

-- The servers behind it: behind a look that found none a check of each is asked for.
abbrev pub servers_behind : ℕ → LookedHow → List ServerState → List ServerState
servers_behind moment looked.NoneFits servers = map (asked moment) servers
servers_behind moment how servers = servers
