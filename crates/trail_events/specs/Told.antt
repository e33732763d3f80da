-- What a client tells its listeners of its trail (SDAM Monitoring, Events; CMAP, Events; Command Monitoring, Events).
use Rattle.std.specs.Prelude.{ℕ, ◌==◌, Bool, true, false, List, [], ◌∷◌, ◌++◌, fold, if◌then◌else◌}
use Rattle.cmd_outcome.specs.declared.reading.ReplyResult.{ReplyResult}
use Rattle.cmd_outcome.specs.declared.reading.ReplyResult.TheVariants as reply
use Rattle.drv_events.specs.declared.event.Event.{Event}
use Rattle.drv_events.specs.declared.event.Event.TheVariants as event
use Rattle.drv_events.specs.declared.event.OutWhy.{OutWhy}
use Rattle.drv_events.specs.declared.event.OutWhy.TheVariants as why
use Rattle.entry_judge.specs.declared.timed.Timed.{Timed}
use Rattle.write_retry.specs.declared.attempt_end.AttemptEnd.{AttemptEnd}
use Rattle.write_retry.specs.declared.attempt_end.AttemptEnd.TheVariants as attempt
use Rattle.write_retry.specs.declared.events.Unsent.{Unsent}
use Rattle.write_retry.specs.declared.events.Unsent.TheVariants as unsent
use Rattle.desk_trail.specs.declared.entry.CheckHow.{CheckHow}
use Rattle.desk_trail.specs.declared.entry.CheckHow.TheVariants as check
use Rattle.desk_trail.specs.declared.entry.OfferedHow.{OfferedHow}
use Rattle.desk_trail.specs.declared.entry.OfferedHow.TheVariants as offered
use Rattle.desk_trail.specs.declared.request.Purpose.{Purpose}
use Rattle.desk_trail.specs.declared.request.Purpose.TheVariants as purpose
use Rattle.desk_trail.specs.Facts.{Fact}
use Rattle.desk_trail.specs.Facts as fact

-- ---- One entry

-- The description of the topology changed where an event was taken in that changed it.
abbrev pub offer_tells : OfferedHow → List Event
offer_tells (offered.Accepted true) = event.TopologyChanged ∷ []
offer_tells h = []

-- A check that ended: it was answered, after that round trip, or it failed. One for which no stream could be dialled began with that
-- dial (SDAM Monitoring, ServerHeartbeatStartedEvent: ahead of the attempt to make a socket).
abbrev pub check_tells : ℕ → CheckHow → List Event
check_tells host (check.Reply sample) = event.BeatSucceeded host sample ∷ []
check_tells host check.NoDial = event.BeatStarted host ∷ event.BeatFailed host ∷ []
check_tells host h = event.BeatFailed host ∷ []

-- A connection is established, unless its pool was cleared or closed meanwhile.
abbrev pub settled_tells : (host conn : ℕ) → (stale : Bool) → List Event
settled_tells host conn true = []
settled_tells host conn false = event.ConnReady host conn ∷ []

-- Why a command got no connection (CMAP, ConnectionCheckOutFailedEvent, reason).
abbrev pub why_of : Unsent → OutWhy
why_of (unsent.PoolClosed host) = why.Closed
why_of (unsent.PoolCleared generation) = why.Cleared
why_of unsent.PoolLate = why.Late
why_of u = why.Connection

-- A request of a command is a command that was started; a hello and a farewell are told by no event of commands (own).
abbrev pub asked_tells : Purpose → List Event
asked_tells (purpose.Command op) = event.CommandStarted op ∷ []
asked_tells p = []

-- A reply says that the command failed where it is an error (Command Monitoring: a reply whose ok is 1 is a success, with write
-- errors in it also).
abbrev pub reply_tells : ℕ → ReplyResult → Event
reply_tells op (reply.Error code) = event.CommandFailed op
reply_tells op r = event.CommandSucceeded op

-- An attempt that ended; one whose request was not sent is told by no event of commands.
abbrev pub end_tells : ℕ → AttemptEnd → List Event
end_tells op (attempt.Replied reading) = reply_tells op reading.result ∷ []
end_tells op (attempt.Unsent u) = []
end_tells op end = event.CommandFailed op ∷ []

-- What an entry tells. A pool that is cleared tells it where it was ready (CMAP, PoolClearedEvent).
abbrev pub tells : (was_ready : Bool) → Fact → List Event
tells was_ready (fact.Named host address) = event.ServerOpened host ∷ event.PoolCreated host ∷ []
tells was_ready (fact.Dropped host) = event.ServerClosed host ∷ []
tells was_ready (fact.Offered place e taken) = offer_tells taken
tells was_ready (fact.PoolReady host) = event.PoolReady host ∷ []
tells was_ready (fact.PoolClear host) = if was_ready then event.PoolCleared host ∷ [] else []
tells was_ready (fact.PoolShut host) = event.PoolClosed host ∷ []
tells was_ready (fact.CheckBegan host stream) = event.BeatStarted host ∷ []
tells was_ready (fact.CheckEnded host how) = check_tells host how
tells was_ready (fact.Entered op host ticket) = event.OutStarted host op ∷ []
tells was_ready (fact.Lent op host conn) = event.CheckedOut host conn op ∷ []
tells was_ready (fact.Dialled op host conn stream) = event.ConnCreated host conn ∷ []
tells was_ready (fact.Settled op host conn stale) = settled_tells host conn stale
tells was_ready (fact.NotLent op host u) = event.OutFailed host op (why_of u) ∷ []
tells was_ready (fact.CheckedIn op host conn errored) = event.CheckedIn host conn op ∷ []
tells was_ready (fact.ConnShut host conn reason) = event.ConnClosed host conn reason ∷ []
tells was_ready (fact.Asked place request) = asked_tells request.purpose
tells was_ready (fact.Ended op end) = end_tells op end
tells was_ready f = []

-- ---- A trail

-- Whether a host's pool is ready behind an entry: the last that made it ready, cleared or closed it made it ready (CMAP, Pool
-- state).
abbrev pub ready_by : ℕ → Bool → Fact → Bool
ready_by host ready (fact.PoolReady x) = if x == host then true else ready
ready_by host ready (fact.PoolClear x) = if x == host then false else ready
ready_by host ready (fact.PoolShut x) = if x == host then false else ready
ready_by host ready f = ready

abbrev pub is_ready : ℕ → List (Timed Fact) → Bool
is_ready host ts = fold (λ ready (t : Timed Fact). ready_by host ready t.what) false ts

-- Whether the pool that an entry clears was ready behind those ahead of it.
abbrev pub was_ready : List (Timed Fact) → Fact → Bool
was_ready ahead (fact.PoolClear host) = is_ready host ahead
was_ready ahead f = false

-- What entries tell, behind those ahead of them.
abbrev pub told_behind : (ahead ts : List (Timed Fact)) → List Event
told_behind ahead [] = []
told_behind ahead (t ∷ ts) = tells (was_ready ahead t.what) t.what ++ told_behind (ahead ++ t ∷ []) ts

-- What a client tells of its trail: that it began to watch its topology, and what each entry tells, in order; nothing where there is
-- no entry, since a client begins with one.
abbrev pub told : List (Timed Fact) → List Event
told [] = []
told (t ∷ ts) = event.TopologyOpened ∷ told_behind [] (t ∷ ts)
