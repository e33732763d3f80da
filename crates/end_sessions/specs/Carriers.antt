-- The streams that carry a farewell, while farewells are asked. Only private functions cite this.
use Rattle.std.specs.Prelude.{◌≡◌, ◌≤◌, ℕ, ℤ, true, false, List, [], ◌++◌, Some, length, nat_eq, slice_get}
use Rattle.std.specs.List.{list_any}
use Rattle.bson_doc.specs.declared.ids.Lsid.{Lsid}
use Rattle.host_name.specs.Addresses.{Address, is_same_address}
use Rattle.pool_book.specs.declared.connections.Available.{Available}
use Rattle.topo_rules.specs.declared.topology.Topology.{Topology}
use Rattle.topo_rules.specs.Readings.{session_minutes_of}
use Rattle.sess_book.specs.Ending.{IsParted, kept_ids}
use Rattle.legal_trail.specs.Recorded.{Recorded}
use Rattle.wired_trail.specs.Lines.{Lines, line_at}
use Rattle.wired_trail.specs.Standing.{Standing}
use Rattle.desk_trail.specs.States.{ClientState, ServerState}
use Rattle.end_sessions.specs.Farewells.{AsksFarewells, IsFreeOn, IsReadable}

-- These are the hosts to which a read may go that prefers the primary.
pub record AreReadable (t : Topology) (hosts : List Address) : Type 0 where
  pub of : (address : Address) → list_any (λ h. is_same_address h address) hosts ≡ true → IsReadable t address
  pub all : (address : Address) → IsReadable t address → list_any (λ h. is_same_address h address) hosts ≡ true

-- Farewells may go to a server.
pub record IsToAskAt (w : ClientState) (s : ServerState) : Type 0 where
  pub host : ℕ
  pub at : slice_get w.servers host ≡ Some s
  pub stays : s.has_left ≡ false
  pub readable : IsReadable w.topology s.address

-- A client may ask a farewell at a moment: nothing must come next, these streams carry one, and the lists are those of its kept
-- sessions, which servers keep for so many minutes.
pub record IsToAsk (r : Recorded) (closings moment : ℕ) (lists : List (List Lsid)) (carriers : List ℕ) : Type 0 where
  pub paid : r.point.owed ≡ []
  pub time : r.point.moment ≤ moment
  pub counted : r.point.state.requests ≡ length r.lists.requests
  pub known : r.point.state.farewells ≡ carriers
  pub parted : IsParted lists (kept_ids r.point.state.sessions)
  pub minutes : ℤ
  pub kept : session_minutes_of r.point.state.topology.servers ≡ Some minutes
  pub room : closings ≤ r.room.steps

-- Streams that carry none are as they were.
abbrev pub KeepsFree : List ℕ → Lines → Lines → Type 0
KeepsFree carriers old new = (stream : ℕ) → list_any (nat_eq stream) carriers ≡ false → line_at new stream ≡ line_at old stream

-- Farewells were asked on more streams, which carry one now; there is room left for so many entries.
pub record Carries {N : Type 0} (moment closings : ℕ) (old new : Standing N) (carriers now : List ℕ) : Type 0 where
  pub asks : AsksFarewells moment old.trail new.trail
  pub more : List ℕ
  pub grows : now ≡ carriers ++ more
  pub known : new.trail.point.state.farewells ≡ now
  pub free : KeepsFree now old.lines new.lines
  pub room : closings ≤ new.trail.room.steps

-- A stream carries a farewell, or each list has one.
abbrev pub IsAsked : (carriers : List ℕ) (lists : List (List Lsid)) (stream : ℕ) → Type 0
IsAsked carriers lists stream = (length carriers ≡ length lists → ⊥) → list_any (nat_eq stream) carriers ≡ true
