-- What a desk keeps.
use Rattle.std.specs.Prelude.{◌≡◌, ◌≤◌, ◌+◌, ◌^◌, ℕ, Bool, false, List, [], ◌∷◌, Option, map, length}
use Rattle.std.specs.Option.{option_map}
use Rattle.bson_doc.specs.declared.cluster_time.ClusterTime.{ClusterTime}
use Rattle.topo_rules.specs.declared.topology.Topology.{Topology}
use Rattle.desk_trail.specs.Legal.{Point}
use Rattle.desk_trail.specs.Owed.{Owed}
use Rattle.desk_trail.specs.Owed as owed
use Rattle.desk_trail.specs.States.{ClientState, ServerState}
use Rattle.legal_trail.specs.Recorded.{Recorded}
use Rattle.wired_trail.specs.Lines.{Lines}
use Rattle.desk_core.specs.Servers.{AreKeptServers, closings}
use Rattle.desk_core.specs.State.{Core}

-- A client with these: as many events offered and requests queued, that topology, these servers; and it is not ending.
abbrev pub with_these : ClientState → (events requests : ℕ) → Topology → List ServerState → ClientState
with_these w events requests topology servers = record w {
  topology = topology;
  events = events;
  servers = servers;
  requests = requests;
  is_ending = false;
}

-- The client at the end of the trail, as the core has it: its topology and servers are those of the core, which is not ending. Of its
-- commands and sessions the core says nothing.
abbrev pub client_of : Recorded → Topology → List ServerState → ClientState
client_of trail topology servers = with_these trail.point.state (length trail.lists.events) (length trail.lists.requests) topology servers

-- The trail leads to what the desk has.
pub record LeadsTo (trail : Recorded) (lines : Lines) (topology : Topology) (servers : List ServerState) (time : Option ClusterTime) (last : ℕ) : Type 0 where
  pub state : trail.point.state ≡ client_of trail topology servers
  pub greatest : trail.point.time ≡ option_map (λ (t : ClusterTime). t.stamp) time
  pub moment : trail.point.moment ≤ last
  pub names : trail.lists.names ≡ map (λ (s : ServerState). s.address) servers
  pub numbers : length servers ≤ 2 ^ 32
  pub room : closings servers ≤ trail.room.steps
  pub kept : AreKeptServers lines (length trail.steps) servers

-- What a desk keeps: unless it stopped, its trail leads to what it has.
pub record IsKept (trail : Recorded) (lines : Lines) (topology : Topology) (servers : List ServerState) (time : Option ClusterTime) (count last : ℕ) (stopped : Bool) : Type 0 where
  pub leads : stopped ≡ false → LeadsTo trail lines topology servers time last
  pub counted : count ≡ closings servers
  pub in_range : last ≤ 2 ^ 62

-- A desk that writes what must come next at a moment, with room for so many entries beside the closings of its pools.
pub record IsWriting {N : Type 0} (d : Core N) (moment entries : ℕ) (owed : List Owed) : Type 0 where
  pub runs : d.is_stopped ≡ false
  pub owes : d.trail.point.owed ≡ owed
  pub at : d.trail.point.moment ≡ moment
  pub now : d.last ≡ moment
  pub space : d.closings + entries ≤ d.trail.room.steps

-- A desk that may write at a moment whatever may stand next: it runs, nothing must come next, and that is the moment of its step.
pub record IsReady {N : Type 0} (d : Core N) (moment : ℕ) : Type 0 where
  pub runs : d.is_stopped ≡ false
  pub paid : d.trail.point.owed ≡ []
  pub now : d.last ≡ moment

-- A check of the host may begin there at a moment, with these entries to come next behind it: none must come next, and none behind it;
-- or the check must, at the moment of the entry ahead.
pub data MayBegin (p : Point) (moment host : ℕ) (rest : List Owed) : Type 0 where
  at_will : p.owed ≡ [] → rest ≡ [] → MayBegin p moment host rest
  in_turn : p.owed ≡ owed.Begun host ∷ rest → p.moment ≡ moment → MayBegin p moment host rest

-- A desk that may begin a check of the host: it runs, and that is the moment of its step.
pub record IsToBegin {N : Type 0} (d : Core N) (moment host : ℕ) (rest : List Owed) : Type 0 where
  pub runs : d.is_stopped ≡ false
  pub now : d.last ≡ moment
  pub turn : MayBegin d.trail.point moment host rest
