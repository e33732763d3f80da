-- What private functions say of a command that waits for a connection, and of its server.
use Rattle.std.specs.Prelude.{◌≡◌, ℕ, true, Option, None, Some, nat_lt, slice_get, if◌then◌else◌}
use Rattle.std.specs.Option.{option_map_or}
use Rattle.bson_doc.specs.declared.cluster_time.ClusterTime.{ClusterTime}
use Rattle.pool_book.specs.Answers.{MustWait}
use Rattle.time_gossip.specs.Times.{greater}
use Rattle.write_retry.specs.declared.events.Unsent.{Unsent}
use Rattle.write_retry.specs.declared.events.Unsent.TheVariants as unsent
use Rattle.cmd_step.specs.declared.got.Answer.{Answer}
use Rattle.cmd_step.specs.declared.got.Answer.TheVariants as answer
use Rattle.desk_trail.specs.Attempts.{broken_by, not_lent_offers}
use Rattle.desk_trail.specs.Checks.{AtServer}
use Rattle.desk_trail.specs.States.{ClientState, CommandState, ServerState, Waits}
use Rattle.desk_core.specs.Kept.{IsReady, IsWriting}
use Rattle.desk_core.specs.State.{Core}

-- The server of that number keeps its address.
abbrev pub KeepsAddress : ℕ → ClientState → ClientState → Type 0
KeepsAddress host old new = (s : ServerState) → slice_get old.servers host ≡ Some s → AtServer new host (λ t. t.address ≡ s.address)

-- The command waits in the line of the server's pool, which has nothing for it at that moment.
abbrev pub IsToWait : (moment host : ℕ) → CommandState → ServerState → Type 0
IsToWait moment host c s = (ticket : ℕ) × (c.check_out ≡ Waits host ticket) × MustWait s.pool.state moment ticket

-- The event that the server is broken must be offered next, with that generation of its pool, where it stands in the topology.
abbrev pub IsBroken : {N : Type 0} → Core N → (moment generation : ℕ) → ServerState → Type 0
IsBroken d moment generation s = IsWriting d moment 0 (broken_by (Some (record { server = s; generation = generation })))

-- A core behind the answer of a command that waited: where no stream could be made its server is broken; else nothing must come next.
abbrev pub IsBehindAnswer : {N : Type 0} → Core N → (moment host : ℕ) → CommandState → Answer → Type 0
IsBehindAnswer d moment host c (answer.Failed conn) = AtServer d.trail.point.state host (λ s. IsBroken d moment s.pool.state.generation s)
IsBehindAnswer d moment host c answer.Wait = IsReady d moment × AtServer d.trail.point.state host (IsToWait moment host c)
IsBehindAnswer d moment host c a = IsReady d moment

-- A pool refuses a command so that waits in its line: it came late, or the pool was cleared or closed (CMAP,
-- ConnectionCheckOutFailedEvent).
abbrev pub IsOfLine : Unsent → Type 0
IsOfLine unsent.PoolLate = Unit {0}
IsOfLine (unsent.PoolCleared generation) = Unit {0}
IsOfLine (unsent.PoolClosed host) = Unit {0}
IsOfLine u = ⊥

-- So does the answer, where it is a refusal.
abbrev pub IsPlain : Answer → Type 0
IsPlain (answer.Refused why) = IsOfLine why
IsPlain a = Unit {0}

-- A reply's cluster time, where it exceeds the greatest that was seen, and what is the greatest behind it (Driver Sessions, Gossipping
-- the cluster time).
abbrev pub news_of : Option ClusterTime → Option ClusterTime → Option ClusterTime
news_of kept None = None
news_of kept (Some t) = if option_map_or (λ (k : ClusterTime). nat_lt k.stamp t.stamp) kept true then Some t else None

abbrev pub heard : Option ClusterTime → Option ClusterTime → Option ClusterTime
heard kept None = kept
heard kept (Some t) = greater kept t

-- Behind a connection that was lost for that reason, what it tells of its server must be offered next, with that generation of its pool.
abbrev pub IsToOfferLoss : {N : Type 0} → Core N → (moment generation : ℕ) → Unsent → ServerState → Type 0
IsToOfferLoss d moment generation why s = IsWriting d moment 0 (not_lent_offers (Some (record { server = s; generation = generation })) why)
