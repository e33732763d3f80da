-- A client's requests (MongoDB wire protocol; the commands' documents).
use Rattle.std.specs.Prelude.{◌≡◌, ℕ, ℤ, pos, ◌+◌, ◌%◌, Bool, true, false, List, [], ◌∷◌, ◌++◌, Option, None, Some, length, nat_eq, slice_get, if◌then◌else◌}
use Rattle.std.specs.Option.{option_map, option_and_then, option_copied}
use Rattle.std.specs.List.{list_any}
use Rattle.std.specs.FinMap as map
use Rattle.bson_doc.specs.declared.cluster_time.ClusterTime.{ClusterTime}
use Rattle.bson_doc.specs.declared.ids.Lsid.{Lsid}
use Rattle.bson_doc.specs.declared.value.Document.{Document}
use Rattle.host_name.specs.Addresses.{is_same_address}
use Rattle.hello_reply.specs.declared.server_kind.ServerKind.{ServerKind}
use Rattle.hello_reply.specs.declared.server_kind.ServerKind.TheVariants as server_kind
use Rattle.read_pref.specs.declared.mode.Mode.{Mode}
use Rattle.read_pref.specs.declared.mode.Mode.TheVariants as mode
use Rattle.topo_rules.specs.declared.kind.TopoKind.{TopoKind}
use Rattle.topo_rules.specs.declared.kind.TopoKind.TheVariants as topo
use Rattle.topo_rules.specs.Readings.{session_minutes_of}
use Rattle.msg_wire.specs.Framing.{Framed, frame, message_of}
use Rattle.cmd_build.specs.Commands.{command_document}
use Rattle.cmd_build.specs.Handshakes.{farewell_document}
use Rattle.cmd_build.specs.Sizes.{Excess, excess}
use Rattle.cmd_build.specs.declared.command.Act.{Act}
use Rattle.cmd_build.specs.declared.command.Command.{Command}
use Rattle.cmd_build.specs.declared.extras.Extras.{Extras}
use Rattle.cmd_build.specs.declared.extras.Sizes.{Sizes}
use Rattle.pool_book.specs.Pool.{is_perished}
use Rattle.pool_book.specs.declared.connections.Available.{Available}
use Rattle.server_pick.specs.Candidates.{suitable}
use Rattle.server_pick.specs.declared.criteria.Criteria.{Criteria}
use Rattle.server_pick.specs.declared.criteria.Need.{Need}
use Rattle.server_pick.specs.declared.criteria.Need.TheVariants as need
use Rattle.sess_book.specs.Ending.{IsParted, kept_ids}
use Rattle.sess_book.specs.Sessions.{Sessions}
use Rattle.sess_book.specs.declared.session.Session.{Session}
use Rattle.desk_trail.specs.declared.request.Purpose.{Purpose}
use Rattle.desk_trail.specs.declared.request.Purpose.TheVariants as purpose
use Rattle.desk_trail.specs.declared.request.Request.{Request}
use Rattle.desk_trail.specs.Clients.{Client}
use Rattle.desk_trail.specs.States.{ClientState, ServerState, CommandState, Selected, Has, stream_of}
use Rattle.desk_trail.specs.Looks.{preference_for}

-- The id of the request at a place: requests count from 1, and behind 2,147,483,647 from 1 again (MongoDB wire protocol,
-- requestID; own: how they count).
abbrev pub id_at : ℕ → ℤ
id_at place = pos (place % 2147483647 + 1)

-- ---- A command's request

-- A server that is a member of a replica set (Server Selection, Topology type Single).
abbrev pub is_set_member : ServerKind → Bool
is_set_member server_kind.Primary = true
is_set_member server_kind.Secondary = true
is_set_member server_kind.Arbiter = true
is_set_member server_kind.Other = true
is_set_member kind = false

-- The mode that a member of a set is sent that is talked to alone: it may serve a read that asks for the primary (Server
-- Selection, Topology type Single: primaryPreferred).
abbrev pub member_mode : Mode → Mode
member_mode mode.Primary = mode.PrimaryPreferred
member_mode m = m

-- The mode that goes out to the server of a choice: a standalone is sent none (Server Selection, Passing read preference).
abbrev pub single_mode : ServerKind → Mode → Option Mode
single_mode server_kind.Standalone m = None
single_mode kind m = Some (if is_set_member kind then member_mode m else m)

abbrev pub mode_out : TopoKind → ServerKind → Mode → Option Mode
mode_out topo.Single kind m = single_mode kind m
mode_out k kind m = Some m

-- The id of a command's session.
abbrev pub lsid_of : Sessions → Option ℕ → Option Lsid
lsid_of s place = option_and_then (λ p. option_map (λ (x : Session). x.lsid) (slice_get s.made p)) place

-- What a command sends beside what it asks for: its session's id, the number that it drew, the mode that goes out, and the
-- client's preference (Driver Sessions; Retryable Writes).
pub record AreExtras (client : Client) (w : ClientState) (act : Act) (c : CommandState) (selected : Selected) (extras : Extras) : Type 0 where
  pub session : extras.lsid ≡ lsid_of w.sessions c.session
  pub number : extras.number ≡ c.number
  pub mode : extras.mode ≡ mode_out selected.kind selected.server.kind (preference_for client act).mode
  pub read : option_copied extras.read ≡ Some client.settings.read

-- A cluster time is the greatest that was seen, by its stamp; none where none was seen (Driver Sessions, Gossipping the cluster
-- time).
abbrev pub IsGreatest : Option ℕ → Option ClusterTime → Type 0
IsGreatest None None = Unit {0}
IsGreatest (Some stamp) (Some t) = t.stamp ≡ stamp
IsGreatest _ _ = ⊥

-- What the server of a choice takes (MongoDB, Limits).
abbrev pub sizes_of : Selected → Sizes
sizes_of selected = record { max_doc = selected.server.max_doc; max_message = selected.server.max_message }

-- What a command sends by a connection that is lent to it, where it asked for nothing since its choice.
pub record Sends (client : Client) (w : ClientState) (time : Option ℕ) (op : ℕ) : Type 0 where
  pub command : Command
  pub given : slice_get client.commands op ≡ Some command
  pub running : CommandState
  pub there : slice_get w.commands op ≡ Some running
  pub unasked : running.asked ≡ None
  pub selected : Selected
  pub chosen : running.selected ≡ Some selected
  pub host : ℕ
  pub ticket : ℕ
  pub conn : ℕ
  pub lent : running.check_out ≡ Has host ticket conn
  pub server : ServerState
  pub at : slice_get w.servers host ≡ Some server
  pub extras : Extras
  pub are : AreExtras client w command.act running selected extras
  pub cluster : Option ClusterTime
  pub greatest : IsGreatest time cluster

-- Its document, and what of it is too large.
abbrev pub document_sent : (client : Client) (w : ClientState) (time : Option ℕ) (op : ℕ) → Sends client w time op → Document
document_sent client w time op s = command_document s.command client.settings.db s.extras s.cluster

abbrev pub excess_of : (client : Client) (w : ClientState) (time : Option ℕ) (op : ℕ) → Sends client w time op → Option Excess
excess_of client w time op s = excess s.command client.settings.db s.extras s.cluster (sizes_of s.selected)

-- A request is the message of that document, byte by byte, and its bytes frame it (MongoDB wire protocol, OP_MSG).
pub record IsMessageOf (body : Document) (r : Request) : Type 0 where
  pub bytes : r.bytes ≡ frame r.id (pos 0) 0 body
  pub framed : Framed r.bytes (message_of r.id (pos 0) 0 body)

-- A request is a command's: on the stream of the connection that is lent to it, where nothing of it is too large.
pub record IsRequestOf (client : Client) (w : ClientState) (time : Option ℕ) (op : ℕ) (r : Request) : Type 0 where
  pub sends : Sends client w time op
  pub fits : excess_of client w time op sends ≡ None
  pub stream : stream_of sends.server sends.conn ≡ Some r.stream
  pub message : IsMessageOf (document_sent client w time op sends) r

-- A command is too large, by these sizes.
pub record IsTooLarge (client : Client) (w : ClientState) (time : Option ℕ) (op size most : ℕ) : Type 0 where
  pub sends : Sends client w time op
  pub over : excess_of client w time op sends ≡ Some (record { size = size; most = most })

-- ---- A farewell

-- A read that prefers the primary, without tags.
abbrev pub IsPrimaryPreferred : Need → Type 0
IsPrimaryPreferred need.Write = ⊥
IsPrimaryPreferred (need.Read p) = (p.now.mode ≡ mode.PrimaryPreferred) × (p.now.tag_sets ≡ [])

-- A request ends some of the kept sessions: the next list of their ids, on an available connection that has not perished, of a
-- server that a read that prefers the primary may go to, and that carries no farewell yet (Driver Sessions, endSessions; CMAP, a
-- connection is perished).
pub record IsFarewell (w : ClientState) (moment : ℕ) (r : Request) : Type 0 where
  pub minutes : ℤ
  pub has_sessions : session_minutes_of w.topology.servers ≡ Some minutes
  pub lists : List (List Lsid)
  pub parted : IsParted lists (kept_ids w.sessions)
  pub ids : List Lsid
  pub next : slice_get lists (length w.farewells) ≡ Some ids
  pub criteria : Criteria
  pub prefers : IsPrimaryPreferred criteria.need
  pub avoids : criteria.avoid ≡ None
  pub host : ℕ
  pub server : ServerState
  pub at : slice_get w.servers host ≡ Some server
  pub stays : server.has_left ≡ false
  pub selectable :
      list_any (λ d. is_same_address d.host server.address) (suitable w.topology.kind criteria (map.values w.topology.servers)) ≡ true
  pub free : Available
  pub place : ℕ
  pub available : slice_get server.pool.state.available place ≡ Some free
  pub sound : is_perished server.pool.state moment free ≡ false
  pub stream : stream_of server free.conn ≡ Some r.stream
  pub unused : list_any (nat_eq r.stream) w.farewells ≡ false
  pub message : IsMessageOf (farewell_document ids) r

-- ---- When a request may be queued, and what that does

abbrev pub IsFor : Client → ClientState → ℕ → Option ℕ → Purpose → Request → Type 0
IsFor client w moment time (purpose.Command op) r = IsRequestOf client w time op r
IsFor client w moment time purpose.Farewell r = IsFarewell w moment r
IsFor client w moment time (purpose.Check host) r = Unit {0}
IsFor client w moment time (purpose.Greeting host conn) r = Unit {0}

-- The next request, with its id, and with the bytes of what it is for. A hello's stand where it is owed.
pub record IsAsked (client : Client) (w : ClientState) (moment : ℕ) (time : Option ℕ) (place : ℕ) (r : Request) : Type 0 where
  pub next : place ≡ w.requests
  pub id : r.id ≡ id_at place
  pub is_for : IsFor client w moment time r.purpose r

abbrev pub farewell_by : Purpose → ℕ → ClientState → ClientState
farewell_by purpose.Farewell stream w = record w { is_ending = true; farewells = w.farewells ++ stream ∷ [] }
farewell_by p stream w = w
