-- What an entry leaves as it is: the topology, the sessions, the commands.
use Rattle.std.proofs.Common.{◌≡◌, ℕ, true, false, Option, None, Some, refl, ◌∙◌}
use Rattle.std.specs.Prelude.{slice_get, if◌then◌else◌}
use Rattle.std.specs.Option.{option_and_then}
use Rattle.topo_rules.specs.declared.event.TopoEvent.{TopoEvent}
use Rattle.topo_book.specs.Fresh.{is_accepted_verdict}
use Rattle.desk_trail.specs.declared.entry.LookedHow.{LookedHow}
use Rattle.desk_trail.specs.declared.entry.LookedHow.TheVariants as looked
use Rattle.desk_trail.specs.declared.request.Purpose.{Purpose}
use Rattle.desk_trail.specs.declared.request.Purpose.TheVariants as purpose
use Rattle.desk_trail.specs.Attempts.{OfCommand, asked_by, commands_after}
use Rattle.desk_trail.specs.Checks.{stream_taken}
use Rattle.desk_trail.specs.Facts.{Fact}
use Rattle.desk_trail.specs.Facts as fact
use Rattle.desk_trail.specs.Legal.{ends_by, pool_after, stays_at}
use Rattle.desk_trail.specs.Looks.{look_asks}
use Rattle.desk_trail.specs.Pools.{OfHost, check_out_after, conn_streams_after, pool_step, pools_after}
use Rattle.desk_trail.specs.Requests.{farewell_by}
use Rattle.desk_trail.specs.States.{ClientState, number_of}
use Rattle.desk_trail.specs.Topologies.{asked_at, asks_of, verdict_on, with_ask}

-- the topology and the sessions stay
pub record Rest (w v : ClientState) : Type 0 where
  pub topology : v.topology ≡ w.topology
  pub sessions : v.sessions ≡ w.sessions

-- and the commands
pub record Beside (w v : ClientState) : Type 0 where
  pub topology : v.topology ≡ w.topology
  pub sessions : v.sessions ≡ w.sessions
  pub commands : v.commands ≡ w.commands

pub Rest-behind : (w v u : ClientState) → Beside w v → Rest v u → Rest w u
Rest-behind w v u b r = record { topology = r.topology ∙ b.topology; sessions = r.sessions ∙ b.sessions }

pub Beside-behind : (w v u : ClientState) → Beside w v → Beside v u → Beside w u
Beside-behind w v u b r = record { topology = r.topology ∙ b.topology; sessions = r.sessions ∙ b.sessions; commands = r.commands ∙ b.commands }

pub Rest-refl : (w : ClientState) → Rest w w
Rest-refl w = record { topology = refl; sessions = refl }

pub Beside-refl : (w : ClientState) → Beside w w
Beside-refl w = record { topology = refl; sessions = refl; commands = refl }

-- ---- Servers and streams alone change

pub Beside-pools_after : (w : ClientState) (moment : ℕ) (o : Option OfHost) → Beside w (pools_after w moment o)
Beside-pools_after w moment None = Beside-refl w
Beside-pools_after w moment (Some e) = record { topology = refl; sessions = refl; commands = refl }

pub Beside-conn_streams : (w : ClientState) (f : Fact) → Beside w (conn_streams_after w f)
Beside-conn_streams w (fact.Dialled op host conn (Some stream)) = record { topology = refl; sessions = refl; commands = refl }
Beside-conn_streams w (fact.Dialled op host conn None) = Beside-refl w
Beside-conn_streams w f = Beside-refl w

pub Beside-ends_by : (host : ℕ) (w v : ClientState) → Beside v (ends_by host w v)
Beside-ends_by host w v =
    elim (stays_at (slice_get w.servers host)) as (λ b. Beside v (if b then record v { is_ending = true } else v)) [
      | true ↦ record { topology = refl; sessions = refl; commands = refl }
      | false ↦ Beside-refl v
    ]

pub Beside-farewell_by : (p : Purpose) (stream : ℕ) (w : ClientState) → Beside w (farewell_by p stream w)
Beside-farewell_by purpose.Farewell stream w = record { topology = refl; sessions = refl; commands = refl }
Beside-farewell_by (purpose.Check host) stream w = Beside-refl w
Beside-farewell_by (purpose.Greeting host conn) stream w = Beside-refl w
Beside-farewell_by (purpose.Command op) stream w = Beside-refl w

pub Beside-stream_taken : (kept : Option ℕ) (stream : ℕ) (w : ClientState) → Beside w (stream_taken kept stream w)
Beside-stream_taken (Some x) stream w = Beside-refl w
Beside-stream_taken None stream w = record { topology = refl; sessions = refl; commands = refl }

pub Beside-look_asks : (moment : ℕ) (h : LookedHow) (w : ClientState) → Beside w (look_asks moment h w)
Beside-look_asks moment looked.NoneFits w = record { topology = refl; sessions = refl; commands = refl }
Beside-look_asks moment (looked.Chosen x) w = Beside-refl w
Beside-look_asks moment looked.Failed w = Beside-refl w
Beside-look_asks moment (looked.Incompatible x) w = Beside-refl w

pub Beside-asked_at : (moment : ℕ) (o : Option ℕ) (w : ClientState) → Beside w (asked_at moment o w)
Beside-asked_at moment None w = Beside-refl w
Beside-asked_at moment (Some x) w = record { topology = refl; sessions = refl; commands = refl }

-- the client that an event leaves, its topology aside
pub Beside-offered : (moment : ℕ) (e : TopoEvent) (w : ClientState) →
    Beside w (if is_accepted_verdict (verdict_on w e) then with_ask moment e w else w)
Beside-offered moment e w =
    elim (is_accepted_verdict (verdict_on w e)) as (λ b. Beside w (if b then with_ask moment e w else w)) [
      | true ↦ Beside-asked_at moment (option_and_then (number_of w) (asks_of e)) w
      | false ↦ Beside-refl w
    ]

-- ---- Commands change too

pub Rest-check_out : (moment : ℕ) (w : ClientState) (f : Fact) → Rest w (check_out_after moment w f)
Rest-check_out moment w (fact.Entered op host ticket) = record { topology = refl; sessions = refl }
Rest-check_out moment w (fact.Lent op host conn) = record { topology = refl; sessions = refl }
Rest-check_out moment w (fact.Dialled op host conn stream) = record { topology = refl; sessions = refl }
Rest-check_out moment w (fact.NotLent op host why) = record { topology = refl; sessions = refl }
Rest-check_out moment w (fact.CheckedIn op host conn errored) = record { topology = refl; sessions = refl }
Rest-check_out moment w f = Rest-refl w

pub Rest-asked_by : (moment : ℕ) (p : Purpose) (w : ClientState) → Rest w (asked_by moment p w)
Rest-asked_by moment (purpose.Command op) w = record { topology = refl; sessions = refl }
Rest-asked_by moment (purpose.Check host) w = Rest-refl w
Rest-asked_by moment (purpose.Greeting host conn) w = Rest-refl w
Rest-asked_by moment purpose.Farewell w = Rest-refl w

pub Rest-commands_after : (o : Option OfCommand) (w : ClientState) → Rest w (commands_after o w)
Rest-commands_after None w = Rest-refl w
Rest-commands_after (Some e) w = record { topology = refl; sessions = refl }

-- the client ahead of what the command holds behind an entry of a pool
pub Beside-pool : (w : ClientState) (moment : ℕ) (f : Fact) → Beside w (conn_streams_after (pools_after w moment (pool_step w f)) f)
Beside-pool w moment f =
    let v = pools_after w moment (pool_step w f) in
    Beside-behind w v (conn_streams_after v f) (Beside-pools_after w moment (pool_step w f)) (Beside-conn_streams v f)

pub Rest-pool : (w : ClientState) (moment : ℕ) (f : Fact) → Rest w (pool_after w moment f)
Rest-pool w moment f =
    let v = conn_streams_after (pools_after w moment (pool_step w f)) f in
    Rest-behind w v (check_out_after moment v f) (Beside-pool w moment f) (Rest-check_out moment v f)
