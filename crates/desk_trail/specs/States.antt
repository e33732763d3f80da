-- A client at a place of its trail.
use Rattle.std.specs.Prelude.{◌≡◌, ℕ, ℤ, ◌+◌, Bool, false, not, ◌&&◌, ◌==◌, List, [], ◌∷◌, Option, None, Some, map, slice_get, slice_set, find, if◌then◌else◌}
use Rattle.std.specs.Option.{option_map}
use Rattle.std.specs.FinMap as map
use Rattle.host_name.specs.Addresses.{Address, is_same_address}
use Rattle.hello_reply.specs.declared.server_description.ServerDescription.{ServerDescription}
use Rattle.topo_rules.specs.declared.topology.Topology.{Topology}
use Rattle.topo_rules.specs.declared.kind.TopoKind.{TopoKind}
use Rattle.topo_rules.specs.Rules.{opened}
use Rattle.entry_judge.specs.Groups.{Place, nothing_owed}
use Rattle.pool_book.specs.Pool.{Pool, fresh_pool}
use Rattle.pool_book.specs.Entries.{PoolEntry}
use Rattle.sess_book.specs.Sessions.{Sessions, no_sessions}
use Rattle.watch_step.specs.Checks.{Checks, first_check}
use Rattle.cmd_build.specs.declared.command.Command.{Command}
use Rattle.cmd_build.specs.Ops.{writes, retries}
use Rattle.write_retry.specs.Machine.{Op, new_op}
use Rattle.desk_trail.specs.Clients.{Client, beat, pool_rules}

-- ---- Servers

-- A connection of a pool, and its stream (own: a connection's number is its pool's, a stream's the net's).
pub record ConnStream : Type 0 where
  pub conn : ℕ
  pub stream : ℕ

-- One stay of a server in the topology: its address, when it was named, whether it left; its pool, with the entries of the
-- pool that must come next; its checks, the stream of the one that runs or that the next one goes on with, and when the one
-- that runs was last seen without an answer; and the streams of its connections (SDAM, Server Monitoring, CMAP).
pub record ServerState : Type 0 where
  pub address : Address
  pub named : ℕ
  pub has_left : Bool
  pub pool : Place Pool PoolEntry
  pub checks : Checks
  pub check_stream : Option ℕ
  pub dry : Option ℕ
  pub conn_streams : List ConnStream

-- A server that is named at a moment: its pool is paused and its first check due at once (CMAP, Creating a Connection Pool;
-- Server Monitoring, servers are monitored as soon as they are discovered).
abbrev pub fresh_server : Client → ℕ → Address → ServerState
fresh_server client moment address = record {
  address = address;
  named = moment;
  has_left = false;
  pool = nothing_owed (fresh_pool (pool_rules client));
  checks = first_check (beat client) moment;
  check_stream = None;
  dry = None;
  conn_streams = [];
}

-- ---- Commands

-- The server that a look chose, as the topology had it that the look read: its number, the topology's kind, the server's
-- description, and the topology's logicalSessionTimeoutMinutes.
pub record Selected : Type 0 where
  pub host : ℕ
  pub kind : TopoKind
  pub server : ServerDescription
  pub minutes : Option ℤ

-- A selection that goes on: the moment of its first look, and how many hosts had been named at its last look that found none.
pub record Selection : Type 0 where
  pub first : ℕ
  pub known : ℕ

-- Where a command is with a pool: nowhere; in the wait line, by a ticket; with a connection that it dialled; or with one that
-- is lent to it (CMAP, Checking Out a Connection).
pub data CheckOut : Type 0 where
  Nothing : CheckOut
  Waits : (host ticket : ℕ) → CheckOut
  Dials : (host ticket conn : ℕ) → CheckOut
  Has : (host ticket conn : ℕ) → CheckOut

-- A command on its way: what it came to and what is to be done next; its selection; the server that it chose, until that attempt
-- ended; the servers of the attempts that ended; where it is with a pool; when it dialled a connection, and when its request was
-- queued, each until that attempt ended; its session and number, and whether the session is dirty; whether it was answered.
pub record CommandState : Type 0 where
  pub op : Op
  pub selection : Option Selection
  pub selected : Option Selected
  pub tried : List ℕ
  pub check_out : CheckOut
  pub dialled : Option ℕ
  pub asked : Option ℕ
  pub session : Option ℕ
  pub number : Option ℤ
  pub is_dirty : Bool
  pub is_finished : Bool

-- A command that did nothing yet.
abbrev pub fresh_command : Command → CommandState
fresh_command command = record {
  op = new_op (writes command.act) (retries command.act);
  selection = None;
  selected = None;
  tried = [];
  check_out = Nothing;
  dialled = None;
  asked = None;
  session = None;
  number = None;
  is_dirty = false;
  is_finished = false;
}

-- ---- The client

-- A client: its topology and how many events were offered to it; its servers by number, those that left among them; its
-- sessions; its commands by number; how many requests were queued; the streams that were dialled; and of its end, whether it
-- began, and the connections that carry a farewell.
pub record ClientState : Type 0 where
  pub topology : Topology
  pub events : ℕ
  pub servers : List ServerState
  pub sessions : Sessions
  pub commands : List CommandState
  pub requests : ℕ
  pub streams : List ℕ
  pub is_ending : Bool
  pub farewells : List ℕ

-- A client that did nothing yet has the topology of its seeds, which are to be named (SDAM, Initial Servers).
abbrev pub fresh_client : Client → ClientState
fresh_client client = record {
  topology = opened client.settings.hosts client.settings.set_name client.settings.direct;
  events = 0;
  servers = [];
  sessions = no_sessions;
  commands = map fresh_command client.commands;
  requests = 0;
  streams = [];
  is_ending = false;
  farewells = [];
}

-- ---- Reading it

-- The item at a place, changed; a list without that place stays as it is.
abbrev pub changed_at : {A : Type 0} → List A → ℕ → Option A → (A → A) → List A
changed_at xs place None f = xs
changed_at xs place (Some x) f = slice_set xs place (f x)

abbrev pub changed : {A : Type 0} → List A → ℕ → (A → A) → List A
changed xs place f = changed_at xs place (slice_get xs place) f

abbrev pub with_server : ClientState → ℕ → (ServerState → ServerState) → ClientState
with_server w host f = record w { servers = changed w.servers host f }

abbrev pub with_command : ClientState → ℕ → (CommandState → CommandState) → ClientState
with_command w op f = record w { commands = changed w.commands op f }

-- The number of the server that stands in the topology with that address, counted from a number on (SDAM, ServerDescription:
-- address).
abbrev pub number_from : ℕ → List ServerState → Address → Option ℕ
number_from n [] address = None
number_from n (s ∷ ss) address =
    if not s.has_left && is_same_address s.address address then Some n else number_from (n + 1) ss address

abbrev pub number_of : ClientState → Address → Option ℕ
number_of w address = number_from 0 w.servers address

-- The address of a number.
abbrev pub address_of : ClientState → ℕ → Option Address
address_of w host = option_map (λ s. s.address) (slice_get w.servers host)

-- The description that the topology has of a server.
abbrev pub description_of : ClientState → ServerState → Option ServerDescription
description_of w s = map.get w.topology.servers s.address

-- The server of that number is there and did not leave.
pub record Stays (w : ClientState) (host : ℕ) : Type 0 where
  pub server : ServerState
  pub there : slice_get w.servers host ≡ Some server
  pub stays : server.has_left ≡ false

-- The stream of a connection.
abbrev pub stream_of : ServerState → ℕ → Option ℕ
stream_of s conn = option_map (λ l. l.stream) (find (λ l. l.conn == conn) s.conn_streams)

-- The server that a command holds something of.
abbrev pub host_held : CheckOut → Option ℕ
host_held Nothing = None
host_held (Waits host ticket) = Some host
host_held (Dials host ticket conn) = Some host
host_held (Has host ticket conn) = Some host
