-- Which trails are legal: when each entry may stand, what the client is behind it, and what must follow it at once.
use Rattle.std.specs.Prelude.{◌≡◌, ◌≤◌, ◌<◌, ℕ, ◌+◌, Bool, true, false, not, List, [], ◌∷◌, ◌++◌, Option, None, Some, map, length, is_some, slice_get, if◌then◌else◌}
use Rattle.entry_judge.specs.declared.timed.Timed.{Timed}
use Rattle.entry_judge.specs.Judge.{Legal, state_after}
use Rattle.write_retry.specs.declared.attempt_end.AttemptEnd.{AttemptEnd}
use Rattle.write_retry.specs.declared.attempt_end.AttemptEnd.TheVariants as attempt
use Rattle.write_retry.specs.declared.events.Unsent.{Unsent}
use Rattle.write_retry.specs.declared.events.Unsent.TheVariants as unsent
use Rattle.desk_trail.specs.declared.entry.CheckHow.{CheckHow}
use Rattle.desk_trail.specs.declared.entry.CheckHow.TheVariants as how
use Rattle.desk_trail.specs.declared.request.Purpose.TheVariants as purpose
use Rattle.desk_trail.specs.declared.step.Step.{Step}
use Rattle.desk_trail.specs.Attempts.{AtCommand, CommandAllows, IsAnswer, IsEnd, IsToEnter, IsToLook, asked_by, command_step, commands_after, end_by, end_owes, finish_owes, finished, not_lent_offers, endpoint_at}
use Rattle.desk_trail.specs.Checks.{AtServer, IsCheckStream, IsDue, IsNew, MayCheckEnd, Runs, check_begins, check_ends, is_known_at, kept_at, leaves, offered_of, stream_taken}
use Rattle.desk_trail.specs.Clients.{Client}
use Rattle.desk_trail.specs.States.{ClientState, ServerState, fresh_client, fresh_server, Stays, with_command, with_server}
use Rattle.desk_trail.specs.Facts.{ArePlaced, Fact, Lists, facts_of}
use Rattle.desk_trail.specs.Facts as fact
use Rattle.desk_trail.specs.Leases.{IsDraw, IsLease, IsReturn, leased_after}
use Rattle.desk_trail.specs.Looks.{IsLook, look_owes, looked_after}
use Rattle.desk_trail.specs.Owed.{InTurn, Owed, left_owed}
use Rattle.desk_trail.specs.Owed as owed
use Rattle.desk_trail.specs.Pools.{PoolAllows, check_out_after, conn_streams_after, pool_owes, pool_step, pools_after}
use Rattle.desk_trail.specs.Requests.{IsAsked, IsTooLarge, farewell_by}
use Rattle.desk_trail.specs.Topologies.{IsOffered, offered_after, offered_owes}

-- A point of a trail: the client there, what must come next, the greatest cluster time that was seen, whether the entry ahead is
-- that of a reply, and the moment of that entry.
pub record Point : Type 0 where
  pub state : ClientState
  pub owed : List Owed
  pub time : Option ℕ
  pub is_reply : Bool
  pub moment : ℕ

-- ---- When an entry may stand

-- Of its pool's entries, in the pool's words (CMAP).
abbrev pub OfPool : ClientState → ℕ → Fact → Type 0
OfPool w moment f = PoolAllows w moment (pool_step w f)

-- The stream of a new connection, where the dial did not fail.
abbrev pub IsNewStream : ClientState → Option ℕ → Type 0
IsNewStream w None = Unit {0}
IsNewStream w (Some stream) = IsNew w stream

-- How an attempt may end: by itself; as too large; or, where that is owed, since it got no connection.
abbrev pub MayEndAs : Client → Point → ℕ → ℕ → AttemptEnd → Type 0
MayEndAs client p moment op (attempt.Unsent (unsent.TooLarge size most)) = IsTooLarge client p.state p.time op size most
MayEndAs client p moment op (attempt.Unsent u) = Unit {0}
MayEndAs client p moment op end = AtCommand p.state op (IsEnd client moment end)

-- A stamp exceeds the greatest that was seen (Driver Sessions, Gossipping the cluster time).
abbrev pub Exceeds : ℕ → Option ℕ → Type 0
Exceeds stamp None = Unit {0}
Exceeds stamp (Some greatest) = greatest < stamp

-- Each kind of entry by its own rule.
abbrev pub MayStand : Client → Point → ℕ → Fact → Type 0
MayStand client p moment (fact.Named host address) = host ≡ length p.state.servers
MayStand client p moment (fact.Dropped host) = Stays p.state host
MayStand client p moment (fact.Offered place event taken) = IsOffered p.state place event taken
MayStand client p moment (fact.PoolReady host) = OfPool p.state moment (fact.PoolReady host)
MayStand client p moment (fact.PoolClear host) = OfPool p.state moment (fact.PoolClear host)
MayStand client p moment (fact.PoolShut host) = OfPool p.state moment (fact.PoolShut host)
MayStand client p moment (fact.CheckBegan host stream) =
    AtServer p.state host (λ s. IsDue moment s × IsCheckStream p.state s.check_stream stream)
MayStand client p moment (fact.CheckDry host) = AtServer p.state host (λ s. (began : ℕ) × Runs began s)
MayStand client p moment (fact.CheckEnded host how) = AtServer p.state host (MayCheckEnd client moment how)
MayStand client p moment (fact.Looked op a b kept picked) =
    AtCommand p.state op IsToLook × IsLook client p.state moment op a b kept picked
MayStand client p moment (fact.Entered op host ticket) =
    AtCommand p.state op (IsToEnter host) × OfPool p.state moment (fact.Entered op host ticket)
MayStand client p moment (fact.Lent op host conn) = OfPool p.state moment (fact.Lent op host conn)
MayStand client p moment (fact.Dialled op host conn stream) =
    IsNewStream p.state stream × OfPool p.state moment (fact.Dialled op host conn stream)
MayStand client p moment (fact.Settled op host conn stale) = OfPool p.state moment (fact.Settled op host conn stale)
MayStand client p moment (fact.NotLent op host why) = OfPool p.state moment (fact.NotLent op host why)
MayStand client p moment (fact.CheckedIn op host conn errored) = OfPool p.state moment (fact.CheckedIn op host conn errored)
MayStand client p moment (fact.ConnShut host conn reason) = OfPool p.state moment (fact.ConnShut host conn reason)
MayStand client p moment (fact.Leased op place lsid fresh) = IsLease p.state moment op place lsid fresh
MayStand client p moment (fact.Drew op number) = IsDraw p.state moment op number
MayStand client p moment (fact.Returned op dirty kept) = IsReturn p.state moment op dirty kept
MayStand client p moment (fact.Asked place request) = IsAsked client p.state moment p.time place request
MayStand client p moment (fact.Ended op end) = MayEndAs client p moment op end
MayStand client p moment (fact.Time stamp) = (p.is_reply ≡ true) × Exceeds stamp p.time
MayStand client p moment (fact.Finished op outcome) = AtCommand p.state op (IsAnswer outcome)

-- Once a client ends, only its farewells are asked, its pools closed and their connections shut; and whatever came before its end
-- may have told a cluster time (own: how a client ends).
abbrev pub IsLast : Fact → Type 0
IsLast (fact.PoolShut host) = Unit {0}
IsLast (fact.ConnShut host conn reason) = Unit {0}
IsLast (fact.Asked place request) = request.purpose ≡ purpose.Farewell
IsLast f = ⊥

abbrev pub MayGoOn : Bool → Fact → Type 0
MayGoOn false f = Unit {0}
MayGoOn true f = IsLast f

-- What must come next comes at once, at the moment of the entry ahead; other entries at no earlier moment (own: a client does
-- all that belongs together in one step).
abbrev pub InTime : List Owed → ℕ → ℕ → Type 0
InTime [] ahead moment = ahead ≤ moment
InTime (d ∷ ds) ahead moment = moment ≡ ahead

-- An entry stands at a point: in its turn, in time, by the rule of its kind, and as an answer to what was to be done next for
-- its command.
pub record StandsAt (client : Client) (p : Point) (t : Timed Fact) : Type 0 where
  pub time : InTime p.owed p.moment t.at
  pub turn : InTurn p.owed t.what
  pub going : MayGoOn p.state.is_ending t.what
  pub rule : MayStand client p t.at t.what
  pub command : CommandAllows p.state (command_step client p.state t.what)

-- ---- The client behind an entry

abbrev pub pool_after : ClientState → ℕ → Fact → ClientState
pool_after w moment f = check_out_after moment (conn_streams_after (pools_after w moment (pool_step w f)) f) f

-- A pool that is closed while its server stands in the topology is closed at the client's end.
abbrev pub stays_at : Option ServerState → Bool
stays_at None = false
stays_at (Some s) = not s.has_left

abbrev pub ends_by : ℕ → ClientState → ClientState → ClientState
ends_by host w v = if stays_at (slice_get w.servers host) then record v { is_ending = true } else v

-- Each kind of entry, its command's events aside.
abbrev pub changed_by : Client → ℕ → ClientState → Fact → ClientState
changed_by client moment w (fact.Named host address) = record w { servers = w.servers ++ fresh_server client moment address ∷ [] }
changed_by client moment w (fact.Dropped host) = with_server w host leaves
changed_by client moment w (fact.Offered place event taken) = offered_after moment event w
changed_by client moment w (fact.PoolReady host) = pool_after w moment (fact.PoolReady host)
changed_by client moment w (fact.PoolClear host) = pool_after w moment (fact.PoolClear host)
changed_by client moment w (fact.PoolShut host) = ends_by host w (pool_after w moment (fact.PoolShut host))
changed_by client moment w (fact.CheckBegan host stream) =
    with_server (stream_taken (kept_at w host) stream w) host (check_begins moment stream)
changed_by client moment w (fact.CheckDry host) = with_server w host (λ s. record s { dry = Some moment })
changed_by client moment w (fact.CheckEnded host how) = with_server w host (check_ends moment how (is_known_at w host))
changed_by client moment w (fact.Looked op a b kept picked) = looked_after moment op picked w
changed_by client moment w (fact.Entered op host ticket) = pool_after w moment (fact.Entered op host ticket)
changed_by client moment w (fact.Lent op host conn) = pool_after w moment (fact.Lent op host conn)
changed_by client moment w (fact.Dialled op host conn stream) = pool_after w moment (fact.Dialled op host conn stream)
changed_by client moment w (fact.Settled op host conn stale) = pool_after w moment (fact.Settled op host conn stale)
changed_by client moment w (fact.NotLent op host why) = pool_after w moment (fact.NotLent op host why)
changed_by client moment w (fact.CheckedIn op host conn errored) = pool_after w moment (fact.CheckedIn op host conn errored)
changed_by client moment w (fact.ConnShut host conn reason) = pool_after w moment (fact.ConnShut host conn reason)
changed_by client moment w (fact.Leased op place lsid fresh) = leased_after moment (fact.Leased op place lsid fresh) w
changed_by client moment w (fact.Drew op number) = leased_after moment (fact.Drew op number) w
changed_by client moment w (fact.Returned op dirty kept) = leased_after moment (fact.Returned op dirty kept) w
changed_by client moment w (fact.Asked place request) =
    asked_by moment request.purpose (farewell_by request.purpose request.stream (record w { requests = w.requests + 1 }))
changed_by client moment w (fact.Ended op end) = with_command w op (end_by end)
changed_by client moment w (fact.Time stamp) = w
changed_by client moment w (fact.Finished op outcome) = with_command w op finished

abbrev pub client_after : Client → ℕ → ClientState → Fact → ClientState
client_after client moment w f = commands_after (command_step client w f) (changed_by client moment w f)

-- ---- What must follow it at once

-- A new connection says hello; a dial that failed is told.
abbrev pub dial_owes : ℕ → ℕ → ℕ → Option ℕ → List Owed
dial_owes op host conn (Some stream) = owed.Hello (purpose.Greeting host conn) stream true ∷ []
dial_owes op host conn None = owed.NoDial op host ∷ []

abbrev pub owes : Client → ℕ → ClientState → Fact → List Owed
owes client moment w (fact.Dropped host) = owed.PoolShut host ∷ []
owes client moment w (fact.Offered place event taken) = offered_owes w event
owes client moment w (fact.PoolShut host) = pool_owes w (pool_step w (fact.PoolShut host))
owes client moment w (fact.CheckBegan host stream) = owed.Hello (purpose.Check host) stream (not (is_some (kept_at w host))) ∷ []
owes client moment w (fact.CheckEnded host how) = offered_of how (slice_get w.servers host)
owes client moment w (fact.Looked op a b kept picked) = look_owes moment picked w
owes client moment w (fact.Dialled op host conn stream) = dial_owes op host conn stream
owes client moment w (fact.Settled op host conn stale) = pool_owes w (pool_step w (fact.Settled op host conn stale))
owes client moment w (fact.NotLent op host why) =
    owed.Ended op why ∷ (pool_owes w (pool_step w (fact.NotLent op host why)) ++ not_lent_offers (endpoint_at w op) why)
owes client moment w (fact.CheckedIn op host conn errored) = pool_owes w (pool_step w (fact.CheckedIn op host conn errored))
owes client moment w (fact.Ended op end) = end_owes op (endpoint_at w op) end
owes client moment w (fact.Finished op outcome) = finish_owes op (slice_get w.commands op)
owes client moment w f = []

-- ---- Trails

-- An entry tells that a reply came, which may carry a cluster time (Driver Sessions, Gossipping the cluster time).
abbrev pub is_reply_end : CheckHow → Bool
is_reply_end (how.Reply sample) = true
is_reply_end (how.Refused code) = true
is_reply_end h = false

abbrev pub is_greeting : Unsent → Bool
is_greeting (unsent.Greeting code) = true
is_greeting u = false

abbrev pub is_replied : AttemptEnd → Bool
is_replied (attempt.Replied reading) = true
is_replied end = false

abbrev pub tells_reply : Fact → Bool
tells_reply (fact.CheckEnded host how) = is_reply_end how
tells_reply (fact.Settled op host conn stale) = true
tells_reply (fact.NotLent op host why) = is_greeting why
tells_reply (fact.Ended op end) = is_replied end
tells_reply f = false

abbrev pub time_by : Option ℕ → Fact → Option ℕ
time_by time (fact.Time stamp) = Some stamp
time_by time f = time

-- The point behind an entry.
abbrev pub point_after : Client → Point → Timed Fact → Point
point_after client p t = record {
  state = client_after client t.at p.state t.what;
  owed = owes client t.at p.state t.what ++ left_owed p.owed t.what;
  time = time_by p.time t.what;
  is_reply = tells_reply t.what;
  moment = t.at;
}

-- Where a trail begins: the seeds are to be named (SDAM, Initial Servers).
abbrev pub beginning : Client → Point
beginning client = record {
  state = fresh_client client;
  owed = map (λ address. owed.Named address) client.settings.hosts;
  time = None;
  is_reply = false;
  moment = client.began;
}

-- The point to which what was told leads.
abbrev pub point_behind : Client → List (Timed Fact) → Point
point_behind client ts = state_after (point_after client) (beginning client) ts

-- Each entry stands where those ahead of it lead.
abbrev pub AreLegal : Client → List (Timed Fact) → Type 0
AreLegal client ts = Legal (StandsAt client) (point_after client) (beginning client) ts

-- A trail is legal: its entries name places at which something stands, and each stands where those ahead of it lead.
pub record IsLegal (client : Client) (lists : Lists) (steps : List Step) : Type 0 where
  pub placed : ArePlaced lists steps
  pub legal : AreLegal client (facts_of lists steps)

-- A trail is complete: no entry must follow it.
pub record IsComplete (client : Client) (lists : Lists) (steps : List Step) : Type 0 where
  pub paid : (point_behind client (facts_of lists steps)).owed ≡ []
