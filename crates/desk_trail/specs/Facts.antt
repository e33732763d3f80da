-- What a trail says, entry by entry, with what stands at the places that its entries name.
use Rattle.std.specs.Prelude.{◌≡◌, ℕ, ℤ, Bool, true, List, Option, Some, is_some, slice_get, filter_map}
use Rattle.std.specs.List.{list_all}
use Rattle.std.specs.Option.{option_map}
use Rattle.bson_doc.specs.declared.ids.Lsid.{Lsid}
use Rattle.host_name.specs.Addresses.{Address}
use Rattle.topo_rules.specs.declared.event.TopoEvent.{TopoEvent}
use Rattle.pool_book.specs.declared.answers.CloseReason.{CloseReason}
use Rattle.write_retry.specs.declared.attempt_end.AttemptEnd.{AttemptEnd}
use Rattle.write_retry.specs.declared.events.Unsent.{Unsent}
use Rattle.write_retry.specs.declared.outcome.Outcome.{Outcome}
use Rattle.entry_judge.specs.declared.timed.Timed.{Timed}
use Rattle.desk_trail.specs.declared.entry.CheckHow.{CheckHow}
use Rattle.desk_trail.specs.declared.entry.LookedHow.{LookedHow}
use Rattle.desk_trail.specs.declared.entry.OfferedHow.{OfferedHow}
use Rattle.desk_trail.specs.declared.entry.Entry.{Entry}
use Rattle.desk_trail.specs.declared.entry.Entry.TheVariants as entry
use Rattle.desk_trail.specs.declared.request.Request.{Request}
use Rattle.desk_trail.specs.declared.step.Step.{Step}

-- An entry with what stands at its place: the host's address, the event, the session's id, the request. The other kinds name
-- no place (own: hosts, events, sessions and requests stand in lists of their own, so that an entry is small).
pub data Fact : Type 0 where
  Named : (host : ℕ) (address : Address) → Fact
  Dropped : (host : ℕ) → Fact
  Offered : (place : ℕ) (event : TopoEvent) (taken : OfferedHow) → Fact
  PoolReady : (host : ℕ) → Fact
  PoolClear : (host : ℕ) → Fact
  PoolShut : (host : ℕ) → Fact
  CheckBegan : (host stream : ℕ) → Fact
  CheckDry : (host : ℕ) → Fact
  CheckEnded : (host : ℕ) (how : CheckHow) → Fact
  Looked : (op a b : ℕ) (kept : List ℕ) (picked : LookedHow) → Fact
  Entered : (op host ticket : ℕ) → Fact
  Lent : (op host conn : ℕ) → Fact
  Dialled : (op host conn : ℕ) (stream : Option ℕ) → Fact
  Settled : (op host conn : ℕ) (stale : Bool) → Fact
  NotLent : (op host : ℕ) (why : Unsent) → Fact
  CheckedIn : (op host conn : ℕ) (errored : Bool) → Fact
  ConnShut : (host conn : ℕ) (reason : CloseReason) → Fact
  Leased : (op place : ℕ) (lsid : Lsid) (fresh : Bool) → Fact
  Drew : (op : ℕ) (number : ℤ) → Fact
  Returned : (op : ℕ) (dirty kept : Bool) → Fact
  Asked : (place : ℕ) (request : Request) → Fact
  Ended : (op : ℕ) (end : AttemptEnd) → Fact
  Time : (stamp : ℕ) → Fact
  Finished : (op : ℕ) (outcome : Outcome) → Fact

-- The lists whose places entries name: the hosts' names by number, the events that were offered, the ids of the sessions and
-- the requests, each in order (own).
pub record Lists : Type 0 where
  pub names : List Address
  pub events : List TopoEvent
  pub sessions : List Lsid
  pub requests : List Request

-- What an entry says; nothing where its place is empty.
abbrev pub fact_of : Lists → Entry → Option Fact
fact_of l (entry.Named host) = option_map (λ address. Named host address) (slice_get l.names host)
fact_of l (entry.Dropped host) = Some (Dropped host)
fact_of l (entry.Offered event taken) = option_map (λ e. Offered event e taken) (slice_get l.events event)
fact_of l (entry.PoolReady host) = Some (PoolReady host)
fact_of l (entry.PoolClear host) = Some (PoolClear host)
fact_of l (entry.PoolShut host) = Some (PoolShut host)
fact_of l (entry.CheckBegan host stream) = Some (CheckBegan host stream)
fact_of l (entry.CheckDry host) = Some (CheckDry host)
fact_of l (entry.CheckEnded host how) = Some (CheckEnded host how)
fact_of l (entry.Looked op a b kept picked) = Some (Looked op a b kept picked)
fact_of l (entry.Entered op host ticket) = Some (Entered op host ticket)
fact_of l (entry.Lent op host conn) = Some (Lent op host conn)
fact_of l (entry.Dialled op host conn stream) = Some (Dialled op host conn stream)
fact_of l (entry.Settled op host conn stale) = Some (Settled op host conn stale)
fact_of l (entry.NotLent op host why) = Some (NotLent op host why)
fact_of l (entry.CheckedIn op host conn errored) = Some (CheckedIn op host conn errored)
fact_of l (entry.ConnShut host conn reason) = Some (ConnShut host conn reason)
fact_of l (entry.Leased op session fresh) = option_map (λ id. Leased op session id fresh) (slice_get l.sessions session)
fact_of l (entry.Drew op number) = Some (Drew op number)
fact_of l (entry.Returned op dirty kept) = Some (Returned op dirty kept)
fact_of l (entry.Asked request) = option_map (λ r. Asked request r) (slice_get l.requests request)
fact_of l (entry.Ended op end) = Some (Ended op end)
fact_of l (entry.Time stamp) = Some (Time stamp)
fact_of l (entry.Finished op outcome) = Some (Finished op outcome)

-- What a step says, and when.
abbrev pub timed_fact : Lists → Step → Option (Timed Fact)
timed_fact l s = option_map (λ f. record { at = s.moment; what = f }) (fact_of l s.entry)

-- What the steps of a trail say, in order.
abbrev pub facts_of : Lists → List Step → List (Timed Fact)
facts_of l steps = filter_map (timed_fact l) steps

-- Each step names a place at which something stands.
abbrev pub ArePlaced : Lists → List Step → Type 0
ArePlaced l steps = list_all (λ s. is_some (timed_fact l s)) steps ≡ true
