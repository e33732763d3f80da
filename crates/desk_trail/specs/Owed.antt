-- What must come next in a trail.
use Rattle.std.specs.Prelude.{◌≡◌, ℕ, pos, Bool, true, false, List, [], ◌∷◌, drop}
use Rattle.host_name.specs.Addresses.{Address}
use Rattle.hello_reply.specs.declared.server_description.ServerDescription.{ServerDescription}
use Rattle.topo_rules.specs.declared.event.TopoEvent.{TopoEvent}
use Rattle.topo_rules.specs.declared.event.TopoEvent.TheVariants as event_of
use Rattle.msg_wire.specs.Framing.{frame}
use Rattle.cmd_build.specs.Handshakes.{hello_document}
use Rattle.write_retry.specs.Machine.{answers_send}
use Rattle.write_retry.specs.declared.attempt_end.AttemptEnd.TheVariants as attempt
use Rattle.write_retry.specs.declared.events.Unsent.{Unsent}
use Rattle.write_retry.specs.declared.events.Unsent.TheVariants as unsent
use Rattle.desk_trail.specs.declared.entry.CheckHow.TheVariants as check_how
use Rattle.desk_trail.specs.declared.request.Purpose.{Purpose}
use Rattle.desk_trail.specs.declared.request.Purpose.TheVariants as purpose
use Rattle.desk_trail.specs.declared.request.Request.{Request}
use Rattle.desk_trail.specs.Facts.{Fact}
use Rattle.desk_trail.specs.Facts as fact

-- An entry that must come next, behind one that owes it.
pub data Owed : Type 0 where
  Named : (address : Address) → Owed  -- a host that was added is named
  Dropped : (host : ℕ) → Owed  -- a host that was removed is dropped
  PoolReady : (host : ℕ) → Owed
  PoolClear : (host : ℕ) → Owed
  PoolShut : (host : ℕ) → Owed
  OfPool : (host : ℕ) → Owed  -- what the pool owes itself: a connection is shut, or lent, or its command gets none
  Offered : (event : TopoEvent) → Owed  -- that event is offered
  Reply : (address : Address) (sample : ℕ) → Owed  -- a check's reply is offered
  Begun : (host : ℕ) → Owed  -- a check begins, or no stream can be made for it
  Hello : (purpose : Purpose) (stream : ℕ) (first : Bool) → Owed  -- a check or a new connection says hello
  NoDial : (op host : ℕ) → Owed  -- a failed dial is told
  Ended : (op : ℕ) (why : Unsent) → Owed  -- the attempt that got no connection ends
  CheckedIn : (op : ℕ) (errored : Bool) → Owed  -- the attempt's connection is checked in
  Returned : (op : ℕ) → Owed  -- the session of a command that was answered is given back

-- An event is what a reply of the host says, after that round trip.
pub record IsReplyOf (address : Address) (sample : ℕ) (event : TopoEvent) : Type 0 where
  pub description : ServerDescription
  pub says : event ≡ event_of.Reply description sample
  pub of_host : description.host ≡ address

-- A request is the hello of that purpose on that stream (MongoDB Handshake; Server Monitoring).
pub record IsHello (of : Purpose) (stream : ℕ) (first : Bool) (r : Request) : Type 0 where
  pub on : r.stream ≡ stream
  pub is_for : r.purpose ≡ of
  pub bytes : r.bytes ≡ frame r.id (pos 0) 0 (hello_document first)

-- The host of whose pool an entry is.
abbrev pub IsOfPool : ℕ → Fact → Type 0
IsOfPool x (fact.Lent op host conn) = host ≡ x
IsOfPool x (fact.NotLent op host why) = host ≡ x
IsOfPool x (fact.ConnShut host conn reason) = host ≡ x
IsOfPool x _ = ⊥

-- An entry is the one that is owed.
abbrev pub IsOwed : Owed → Fact → Type 0
IsOwed (Named a) (fact.Named host address) = address ≡ a
IsOwed (Dropped x) (fact.Dropped host) = host ≡ x
IsOwed (PoolReady x) (fact.PoolReady host) = host ≡ x
IsOwed (PoolClear x) (fact.PoolClear host) = host ≡ x
IsOwed (PoolShut x) (fact.PoolShut host) = host ≡ x
IsOwed (OfPool x) f = IsOfPool x f
IsOwed (Offered e) (fact.Offered place event taken) = event ≡ e
IsOwed (Reply address sample) (fact.Offered place event taken) = IsReplyOf address sample event
IsOwed (Begun x) (fact.CheckBegan host stream) = host ≡ x
IsOwed (Begun x) (fact.CheckEnded host how) = (host ≡ x) × (how ≡ check_how.NoDial)
IsOwed (Hello of stream first) (fact.Asked place request) = IsHello of stream first request
IsOwed (NoDial o x) (fact.NotLent op host why) = (op ≡ o) × (host ≡ x) × (why ≡ unsent.Dial false)
IsOwed (Ended o u) (fact.Ended op end) = (op ≡ o) × (end ≡ attempt.Unsent u)
IsOwed (CheckedIn o e) (fact.CheckedIn op host conn errored) = (op ≡ o) × (errored ≡ e)
IsOwed (Returned o) (fact.Returned op dirty kept) = op ≡ o
IsOwed _ _ = ⊥

-- Which purposes a request may have that must not follow another entry: a command's, and a farewell.
abbrev pub MayAsk : Purpose → Type 0
MayAsk (purpose.Check host) = ⊥
MayAsk (purpose.Greeting host conn) = ⊥
MayAsk (purpose.Command op) = Unit {0}
MayAsk purpose.Farewell = Unit {0}

-- An entry that may stand where none must come next. The others stand only where they are owed; an attempt ends without a
-- request of itself only where the command is too large.
abbrev pub IsHead : Fact → Type 0
IsHead (fact.Named host address) = ⊥
IsHead (fact.Dropped host) = ⊥
IsHead (fact.Offered place event taken) = ⊥
IsHead (fact.PoolReady host) = ⊥
IsHead (fact.PoolClear host) = ⊥
IsHead (fact.CheckedIn op host conn errored) = ⊥
IsHead (fact.Returned op dirty kept) = ⊥
IsHead (fact.Asked place request) = MayAsk request.purpose
IsHead (fact.Ended op (attempt.Unsent u)) = answers_send u ≡ true
IsHead _ = Unit {0}

-- An entry comes in its turn: it is the one that must come next, or none must. A cluster time may come between.
abbrev pub InTurn : List Owed → Fact → Type 0
InTurn owed (fact.Time stamp) = Unit {0}
InTurn [] f = IsHead f
InTurn (d ∷ ds) f = IsOwed d f

-- What must come next once it came.
abbrev pub left_owed : List Owed → Fact → List Owed
left_owed owed (fact.Time stamp) = owed
left_owed owed f = drop 1 owed
