-- What a client asks as it ends (Driver Sessions, endSessions).
use Rattle.std.specs.Prelude.{◌≡◌, ◌≤◌, ℕ, ℤ, Bool, true, false, List, [], ◌++◌, None, Some, All, length, nat_eq, slice_get}
use Rattle.std.specs.FinMap as map
use Rattle.std.specs.List.{list_any}
use Rattle.host_name.specs.Addresses.{Address, is_same_address}
use Rattle.bson_doc.specs.declared.ids.Lsid.{Lsid}
use Rattle.topo_rules.specs.Readings.{session_minutes_of}
use Rattle.topo_rules.specs.declared.topology.Topology.{Topology}
use Rattle.pool_book.specs.Pool.{is_perished}
use Rattle.pool_book.specs.declared.connections.Available.{Available}
use Rattle.server_pick.specs.Candidates.{suitable}
use Rattle.server_pick.specs.declared.criteria.Criteria.{Criteria}
use Rattle.sess_book.specs.Ending.{IsParted, kept_ids}
use Rattle.entry_judge.specs.declared.timed.Timed.{Timed}
use Rattle.desk_trail.specs.declared.entry.Entry.{Entry}
use Rattle.desk_trail.specs.declared.entry.Entry.TheVariants as entry
use Rattle.desk_trail.specs.declared.request.Purpose.TheVariants as purpose
use Rattle.desk_trail.specs.declared.request.Request.{Request}
use Rattle.desk_trail.specs.declared.step.Step.{Step}
use Rattle.desk_trail.specs.Facts.{Fact}
use Rattle.desk_trail.specs.Facts as fact
use Rattle.desk_trail.specs.Requests.{IsPrimaryPreferred}
use Rattle.desk_trail.specs.States.{ClientState, ServerState, stream_of}
use Rattle.legal_trail.specs.Recorded.{Recorded, told_in}
use Rattle.wired_trail.specs.Lines.{IsIdle, Lines}

-- A read that prefers the primary may go to the server of that address (Server Selection, primaryPreferred).
pub record IsReadable (t : Topology) (address : Address) : Type 0 where
  pub criteria : Criteria
  pub prefers : IsPrimaryPreferred criteria.need
  pub avoids : criteria.avoid ≡ None
  pub selectable : list_any (λ d. is_same_address d.host address) (suitable t.kind criteria (map.values t.servers)) ≡ true

-- A connection that is available has not perished, and nothing is unsent on its stream (CMAP, a connection is perished).
pub record IsFreeOn (s : ServerState) (free : Available) (lines : Lines) (moment stream : ℕ) : Type 0 where
  pub sound : is_perished s.pool.state moment free ≡ false
  pub on : stream_of s free.conn ≡ Some stream
  pub idle : IsIdle lines stream

-- A stream may carry a farewell: that of such a connection of a server that stands in the topology, to which a read that prefers the
-- primary may go.
pub record MayCarry (w : ClientState) (lines : Lines) (moment stream : ℕ) : Type 0 where
  pub host : ℕ
  pub server : ServerState
  pub at : slice_get w.servers host ≡ Some server
  pub stays : server.has_left ≡ false
  pub readable : IsReadable w.topology server.address
  pub place : ℕ
  pub free : Available
  pub available : slice_get server.pool.state.available place ≡ Some free
  pub is_free : IsFreeOn server free lines moment stream

-- A step queues a request.
abbrev pub asks : Entry → Bool
asks (entry.Asked place) = true
asks e = false

-- What it tells is that a farewell was queued.
abbrev pub AsksFarewell : Fact → Type 0
AsksFarewell (fact.Asked place request) = request.purpose ≡ purpose.Farewell
AsksFarewell f = ⊥

-- Only farewells were asked, all at that moment: what the trail had stands there still, and of the client nothing changed but how many
-- requests it queued, which streams carry a farewell, and that it ends.
pub record AsksFarewells (moment : ℕ) (old new : Recorded) : Type 0 where
  pub client : new.client ≡ old.client
  pub more : List Request
  pub lists : new.lists ≡ record old.lists { requests = old.lists.requests ++ more }
  pub are : All (λ (r : Request). r.purpose ≡ purpose.Farewell) more
  pub added : List Step
  pub steps : new.steps ≡ old.steps ++ added
  pub moments : All (λ (s : Step). s.moment ≡ moment) added
  pub each : All (λ (s : Step). asks s.entry ≡ true) added
  pub told : List (Timed Fact)
  pub tells : told_in new ≡ told_in old ++ told
  pub farewells : All (λ (t : Timed Fact). AsksFarewell t.what) told
  pub state : new.point.state
      ≡ record old.point.state { requests = new.point.state.requests; is_ending = new.point.state.is_ending; farewells = new.point.state.farewells }
  pub counted : new.point.state.requests ≡ length new.lists.requests
  pub paid : new.point.owed ≡ []
  pub time : new.point.moment ≤ moment

-- Where servers end sessions that are not used, each list of ids is asked, or each stream that may carry a farewell carries one.
pub record EndsSessions (w behind : ClientState) (lines : Lines) (moment : ℕ) : Type 0 where
  pub lists : List (List Lsid)
  pub parted : IsParted lists (kept_ids w.sessions)
  pub few : length behind.farewells ≤ length lists
  pub all : (length behind.farewells ≡ length lists → ⊥) → (stream : ℕ) → MayCarry w lines moment stream
      → list_any (nat_eq stream) behind.farewells ≡ true

abbrev pub EndsWhereKept : ClientState → ClientState → Lines → ℕ → Type 0
EndsWhereKept w behind lines moment = (minutes : ℤ) → session_minutes_of w.topology.servers ≡ Some minutes → EndsSessions w behind lines moment
