-- Behind an entry of a command but the check-in of its connection, closing the pools takes no more than ahead of it.
use Rattle.std.proofs.Common.{◌≡◌, ◌≤◌, ◌==◌, ℕ, suc, ◌+◌, ◌-◌, Bool, true, false, not, List, [], ◌∷◌, length, Option, None, Some, refl, ap, ◌∙◌, arith}
use Rattle.std.specs.Prelude.{slice_get, if◌then◌else◌}
use Rattle.std.specs.List.{filter}
use Rattle.std.specs.Option.{option_and_then, option_map}
use Rattle.std.proofs.lemmas.List.{length-take}
use Rattle.entry_judge.specs.Groups as judge
use Rattle.pool_book.specs.Entries as pool
use Rattle.pool_book.specs.Entries.{CheckOutFailure, PoolEntry, after}
use Rattle.pool_book.specs.Judge.{pool_judge}
use Rattle.pool_book.specs.Pool.{Pool}
use Rattle.pool_book.specs.declared.answers.CloseReason.{CloseReason}
use Rattle.pool_book.specs.declared.connections.Available.{Available}
use Rattle.write_retry.specs.declared.attempt_end.AttemptEnd.{AttemptEnd}
use Rattle.write_retry.specs.declared.events.Unsent.{Unsent}
use Rattle.write_retry.specs.declared.events.Unsent.TheVariants as unsent
use Rattle.desk_trail.specs.declared.entry.Entry.{Entry}
use Rattle.desk_trail.specs.declared.entry.Entry.TheVariants as entry
use Rattle.desk_trail.specs.declared.request.Purpose.{Purpose}
use Rattle.desk_trail.specs.declared.request.Purpose.TheVariants as purpose
use Rattle.desk_trail.specs.declared.request.Request.{Request}
use Rattle.desk_trail.specs.declared.room.Room.{Room}
use Rattle.desk_trail.specs.Attempts.{asked_by, asked_event, commands_after}
use Rattle.desk_trail.specs.Facts.{Fact, Lists}
use Rattle.desk_trail.specs.Facts as fact
use Rattle.desk_trail.specs.Legal.{Point, client_after}
use Rattle.desk_trail.specs.Pools.{OfHost, at_host, check_out_of, conn_streams_after, lost_with, not_lent_with, pools_after, ticket_dialling, ticket_with, with_pool}
use Rattle.desk_trail.specs.Requests.{farewell_by}
use Rattle.desk_trail.specs.States.{CheckOut, ClientState, Dials, Has, Nothing, ServerState, Waits, changed, changed_at}
use Rattle.desk_trail.specs.Written.{an_entry}
use Rattle.legal_trail.specs.Recorded.{Adds, Recorded}
use Rattle.cmd_step.specs.Times.{TellsTime}
use Rattle.desk_core.specs.Servers.{closing_of, closings}
use Rattle.desk_core.proofs.ServerLemmas.{closings-set}

-- ---- Of one pool

-- an entry of a pool by which no connection is available again
abbrev ReturnsNone : PoolEntry → Type 0
ReturnsNone (pool.CheckedIn number conn errored) = ⊥
ReturnsNone e = Unit {0}

length-filter_le : {A : Type 0} (p : A → Bool) (xs : List A) → length (filter p xs) ≤ length xs
length-filter_le p [] = omega arith
length-filter_le p (x ∷ xs) = let k = length-filter_le p xs in elim (p x) as (λ b. length (if b then x ∷ filter p xs else filter p xs) ≤ suc (length xs)) [
  | true ↦ omega arith
  | false ↦ omega arith
]

available-after : (p : Pool) (moment : ℕ) (e : PoolEntry) → ReturnsNone e → length (after p moment e).available ≤ length p.available
available-after p moment pool.Ready h = omega arith
available-after p moment pool.Clear h = omega arith
available-after p moment pool.Shut h = omega arith
available-after p moment (pool.Entered number) h = omega arith
available-after p moment (pool.Left number) h = omega arith
available-after p moment (pool.Lent number conn) h = omega (arith, length-take (length p.available - 1) p.available)
available-after p moment (pool.Dialled number conn) h = omega arith
available-after p moment (pool.Settled number conn true) h = omega arith
available-after p moment (pool.Settled number conn false) h = omega arith
available-after p moment (pool.NotLent number pool.Closed) h = omega arith
available-after p moment (pool.NotLent number (pool.Cleared g)) h = omega arith
available-after p moment (pool.NotLent number pool.Late) h = omega arith
available-after p moment (pool.NotLent number (pool.Lost conn)) h = omega arith
available-after p moment (pool.CheckedIn number conn errored) h = absurd h
available-after p moment (pool.ConnShut conn reason) h = length-filter_le (λ (a : Available). not (a.conn == conn)) p.available

available-by : (p : Pool) (moment : ℕ) (e : PoolEntry) (os : List PoolEntry) → ReturnsNone e →
    length (judge.place_by pool_judge p os (record { at = moment; what = e })).state.available ≤ length p.available
available-by p moment e [] h = available-after p moment e h
available-by p moment e (o ∷ os) h = omega arith

closing-fewer : (left : Bool) (m n : ℕ) → m ≤ n → (if left then 0 else m + 1) ≤ (if left then 0 else n + 1)
closing-fewer true m n h = omega arith
closing-fewer false m n h = omega arith

closing-pool : (moment : ℕ) (e : PoolEntry) (s : ServerState) → ReturnsNone e → closing_of (with_pool moment e s) ≤ closing_of s
closing-pool moment e s h =
    closing-fewer s.has_left (length (with_pool moment e s).pool.state.available) (length s.pool.state.available) (available-by s.pool.state moment e s.pool.owed h)

-- ---- Of all

closings-changed_at : (ss : List ServerState) (k : ℕ) (o : Option ServerState) (f : ServerState → ServerState) → slice_get ss k ≡ o → ((s : ServerState) → closing_of (f s) ≤ closing_of s) →
    closings (changed_at ss k o f) ≤ closings ss
closings-changed_at ss k None f there h = omega arith
closings-changed_at ss k (Some s) f there h = let set = closings-set ss k s (f s) there in let fewer = h s in omega arith

closings-changed : (ss : List ServerState) (k : ℕ) (f : ServerState → ServerState) → ((s : ServerState) → closing_of (f s) ≤ closing_of s) → closings (changed ss k f) ≤ closings ss
closings-changed ss k f h = closings-changed_at ss k (slice_get ss k) f refl h

abbrev AtHost : Option OfHost → Type 0
AtHost None = Unit {0}
AtHost (Some e) = ReturnsNone e.1

closings-pools : (w : ClientState) (moment : ℕ) (o : Option OfHost) → AtHost o → closings (pools_after w moment o).servers ≤ closings w.servers
closings-pools w moment None h = omega arith
closings-pools w moment (Some e) h = closings-changed w.servers e.0 (with_pool moment e.1) (λ s. closing-pool moment e.1 s h)

-- ---- Of which entry of its pool an entry is

abbrev OfNone : Option PoolEntry → Type 0
OfNone None = Unit {0}
OfNone (Some e) = ReturnsNone e

at-host : (host : ℕ) (o : Option PoolEntry) → OfNone o → AtHost (at_host host o)
at-host host None h = tt
at-host host (Some e) h = h

by-ticket : (e : ℕ → PoolEntry) (o : Option ℕ) → ((t : ℕ) → ReturnsNone (e t)) → OfNone (option_map e o)
by-ticket e None h = tt
by-ticket e (Some t) h = h t

by-lost : (x : ℕ) (h : CheckOut) → OfNone (lost_with x h)
by-lost x Nothing = tt
by-lost x (Waits host ticket) = tt
by-lost x (Dials host ticket conn) = elim (host == x) as (λ b. OfNone (if b then Some (pool.NotLent ticket (pool.Lost conn)) else None)) [ true ↦ tt | false ↦ tt ]
by-lost x (Has host ticket conn) = tt

by-why : (x : ℕ) (why : Unsent) (h : CheckOut) → OfNone (not_lent_with x why h)
by-why x unsent.PoolLate h = by-ticket (λ t. pool.NotLent t pool.Late) (ticket_with x h) (λ t. tt)
by-why x (unsent.PoolCleared g) h = by-ticket (λ t. pool.NotLent t (pool.Cleared g)) (ticket_with x h) (λ t. tt)
by-why x (unsent.PoolClosed host) h = elim (host == x) as (λ b. OfNone (if b then option_map (λ t. pool.NotLent t pool.Closed) (ticket_with x h) else None)) [
  | true ↦ by-ticket (λ t. pool.NotLent t pool.Closed) (ticket_with x h) (λ t. tt)
  | false ↦ tt
]
by-why x (unsent.Dial bad) h = by-lost x h
by-why x (unsent.Greeting code) h = by-lost x h
by-why x (unsent.TooLarge size most) h = tt

by-command : (x : ℕ) (why : Unsent) (o : Option CheckOut) → OfNone (option_and_then (not_lent_with x why) o)
by-command x why None = tt
by-command x why (Some h) = by-why x why h

-- ---- Behind an entry

-- behind another trail closing the pools takes no more
abbrev pub ClosesNoMore : Recorded → Recorded → Type 0
ClosesNoMore old new = closings new.point.state.servers ≤ closings old.point.state.servers

pub fewer-trans : (old between new : Recorded) → ClosesNoMore old between → ClosesNoMore between new → ClosesNoMore old new
fewer-trans old between new a b = omega arith

pub fewer-same : (old new : Recorded) → new.point.state.servers ≡ old.point.state.servers → ClosesNoMore old new
fewer-same old new e = let k = ap closings e in omega arith

fewer-by : (used : Room) (lists : Lists) (moment : ℕ) (e : Entry) (told : Fact) (old new : Recorded) → Adds used lists moment e told old new →
    closings (client_after old.client moment old.point.state told).servers ≤ closings old.point.state.servers → ClosesNoMore old new
fewer-by used lists moment e told old new a h = let k = ap (λ (p : Point). closings p.state.servers) a.point_now in omega arith

pub fewer-entered : (used : Room) (lists : Lists) (moment op host ticket : ℕ) (e : Entry) (old new : Recorded) → Adds used lists moment e (fact.Entered op host ticket) old new →
    ClosesNoMore old new
fewer-entered used lists moment op host ticket e old new a =
    fewer-by used lists moment e (fact.Entered op host ticket) old new a (closings-pools old.point.state moment (Some (host, pool.Entered ticket)) tt)

pub fewer-lent : (used : Room) (lists : Lists) (moment op host conn : ℕ) (e : Entry) (old new : Recorded) → Adds used lists moment e (fact.Lent op host conn) old new → ClosesNoMore old new
fewer-lent used lists moment op host conn e old new a =
    let o : Option ℕ = option_and_then (ticket_with host) (check_out_of old.point.state op) in
    fewer-by used lists moment e (fact.Lent op host conn) old new a
    (closings-pools old.point.state moment (at_host host (option_map (λ t. pool.Lent t conn) o))
    (at-host host (option_map (λ t. pool.Lent t conn) o) (by-ticket (λ t. pool.Lent t conn) o (λ t. tt))))

settled-none : (conn : ℕ) (stale : Bool) (t : ℕ) → ReturnsNone (pool.Settled t conn stale)
settled-none conn stale t = tt

pub fewer-settled : (used : Room) (lists : Lists) (moment op host conn : ℕ) (stale : Bool) (e : Entry) (old new : Recorded) →
    Adds used lists moment e (fact.Settled op host conn stale) old new → ClosesNoMore old new
fewer-settled used lists moment op host conn stale e old new a =
    let o : Option ℕ = option_and_then (ticket_dialling host conn) (check_out_of old.point.state op) in
    fewer-by used lists moment e (fact.Settled op host conn stale) old new a
    (closings-pools old.point.state moment (at_host host (option_map (λ t. pool.Settled t conn stale) o))
    (at-host host (option_map (λ t. pool.Settled t conn stale) o) (by-ticket (λ t. pool.Settled t conn stale) o (settled-none conn stale))))

closings-streams : (w : ClientState) (op host conn : ℕ) (stream : Option ℕ) → closings (conn_streams_after w (fact.Dialled op host conn stream)).servers ≤ closings w.servers
closings-streams w op host conn None = omega arith
closings-streams w op host conn (Some stream) =
    closings-changed w.servers host (λ (s : ServerState). record s { conn_streams = record { conn = conn; stream = stream } ∷ s.conn_streams }) (λ s. omega arith)

pub fewer-dialled : (used : Room) (lists : Lists) (moment op host conn : ℕ) (stream : Option ℕ) (e : Entry) (old new : Recorded) →
    Adds used lists moment e (fact.Dialled op host conn stream) old new → ClosesNoMore old new
fewer-dialled used lists moment op host conn stream e old new a =
    let o : Option ℕ = option_and_then (ticket_with host) (check_out_of old.point.state op) in
    let p : Option OfHost = at_host host (option_map (λ t. pool.Dialled t conn) o) in
    let first = closings-pools old.point.state moment p (at-host host (option_map (λ t. pool.Dialled t conn) o) (by-ticket (λ t. pool.Dialled t conn) o (λ t. tt))) in
    let second = closings-streams (pools_after old.point.state moment p) op host conn stream in
    fewer-by used lists moment e (fact.Dialled op host conn stream) old new a (omega (arith, first, second))

pub fewer-not_lent : (used : Room) (lists : Lists) (moment op host : ℕ) (why : Unsent) (e : Entry) (old new : Recorded) → Adds used lists moment e (fact.NotLent op host why) old new →
    ClosesNoMore old new
fewer-not_lent used lists moment op host why e old new a =
    let o : Option CheckOut = check_out_of old.point.state op in
    fewer-by used lists moment e (fact.NotLent op host why) old new a
    (closings-pools old.point.state moment (at_host host (option_and_then (not_lent_with host why) o)) (at-host host (option_and_then (not_lent_with host why) o) (by-command host why o)))

pub fewer-shut : (used : Room) (lists : Lists) (moment host conn : ℕ) (reason : CloseReason) (e : Entry) (old new : Recorded) →
    Adds used lists moment e (fact.ConnShut host conn reason) old new → ClosesNoMore old new
fewer-shut used lists moment host conn reason e old new a =
    fewer-by used lists moment e (fact.ConnShut host conn reason) old new a (closings-pools old.point.state moment (Some (host, pool.ConnShut conn reason)) tt)

pub fewer-ended : (used : Room) (lists : Lists) (moment op : ℕ) (end : AttemptEnd) (e : Entry) (old new : Recorded) → Adds used lists moment e (fact.Ended op end) old new →
    ClosesNoMore old new
fewer-ended used lists moment op end e old new a = fewer-by used lists moment e (fact.Ended op end) old new a (omega arith)

pub fewer-time : (used : Room) (lists : Lists) (moment stamp : ℕ) (e : Entry) (old new : Recorded) → Adds used lists moment e (fact.Time stamp) old new → ClosesNoMore old new
fewer-time used lists moment stamp e old new a = fewer-by used lists moment e (fact.Time stamp) old new a (omega arith)

pub fewer-news : (moment : ℕ) (news : Option ℕ) (old new : Recorded) → TellsTime moment news old new → ClosesNoMore old new
fewer-news moment None old new told = fewer-same old new (ap (λ (r : Recorded). r.point.state.servers) told)
fewer-news moment (Some stamp) old new told = fewer-time an_entry old.lists moment stamp (entry.Time stamp) old new told

pub fewer-greeting : (used : Room) (lists : Lists) (moment place host conn : ℕ) (r : Request) (e : Entry) (old new : Recorded) → r.purpose ≡ purpose.Greeting host conn →
    Adds used lists moment e (fact.Asked place r) old new → ClosesNoMore old new
fewer-greeting used lists moment place host conn r e old new for a =
    let w : ClientState = old.point.state in
    let same : client_after old.client moment w (fact.Asked place r) ≡ record w { requests = w.requests + 1 } =
    ap (λ (p : Purpose). commands_after (asked_event p) (asked_by moment p (farewell_by p r.stream (record w { requests = w.requests + 1 })))) for in
    fewer-same old new (ap (λ (p : Point). p.state.servers) a.point_now ∙ ap (λ (v : ClientState). v.servers) same)
