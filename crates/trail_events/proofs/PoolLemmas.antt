-- Of a legal trail, a host's pool is ready where its entries say so.
use Rattle.std.proofs.Common.{◌≡◌, ℕ, ◌==◌, Bool, true, false, List, [], ◌∷◌, Option, None, Some, map, refl, sym, ap, ◌∙◌}
use Rattle.std.specs.Prelude.{fold, if◌then◌else◌}
use Rattle.std.specs.Option.{option_and_then, option_map}
use Rattle.std.proofs.lemmas.List.Sums.{fold-append}
use Rattle.entry_judge.specs.declared.timed.Timed.{Timed}
use Rattle.entry_judge.specs.Judge.{Legal, state_after}
use Rattle.entry_judge.specs.Groups.{Place, Stands, next_place, nothing_owed}
use Rattle.pool_book.specs.declared.state.PoolState.{PoolState}
use Rattle.pool_book.specs.declared.state.PoolState.TheVariants as state_of
use Rattle.pool_book.specs.declared.answers.CloseReason.TheVariants.{PoolClosed}
use Rattle.pool_book.specs.declared.connections.Available.{Available}
use Rattle.pool_book.specs.declared.connections.Held.{Held}
use Rattle.pool_book.specs.Entries as entry
use Rattle.pool_book.specs.Entries.{PoolEntry, after, cleared_state, owes, owes_shut}
use Rattle.pool_book.specs.Judge.{IsTrail, place_behind, pool_judge}
use Rattle.pool_book.specs.Pool as pool
use Rattle.pool_book.specs.Pool.{Pool, fresh_pool, is_kept}
use Rattle.write_retry.specs.declared.events.Unsent.{Unsent}
use Rattle.write_retry.specs.declared.events.Unsent.TheVariants as unsent
use Rattle.desk_trail.specs.Clients.{Client, pool_rules}
use Rattle.desk_trail.specs.Facts.{Fact}
use Rattle.desk_trail.specs.Facts as fact
use Rattle.desk_trail.specs.Legal.{Point, beginning, point_after}
use Rattle.desk_trail.specs.Parts.{of_pool, pool_part, pool_tells, told_from}
use Rattle.desk_trail.specs.Pools.{at_host, check_out_of, lost_with, not_lent_with, pool_step, ticket_dialling, ticket_having, ticket_with}
use Rattle.desk_trail.specs.States.{CheckOut, ClientState, Dials, Has, Nothing, Waits}
use Rattle.trail_events.specs.Told.{is_ready, ready_by}

-- ---- A pool's own entries

-- Whether a pool is ready behind an entry of it.
abbrev ready_of : Bool → PoolEntry → Bool
ready_of ready entry.Ready = true
ready_of ready entry.Clear = false
ready_of ready entry.Shut = false
ready_of ready e = ready

abbrev ready_behind : Bool → List (Timed PoolEntry) → Bool
ready_behind ready es = fold (λ r (e : Timed PoolEntry). ready_of r e.what) ready es

-- An entry that leaves it.
abbrev IsPlain : PoolEntry → Type 0
IsPlain e = (ready : Bool) → ready_of ready e ≡ ready

abbrev ArePlain : List PoolEntry → Type 0
ArePlain [] = Unit {0}
ArePlain (e ∷ es) = IsPlain e × ArePlain es

-- Only such entries are owed.
shuts-plain : (xs : List Available) → ArePlain (map (λ (a : Available). entry.ConnShut a.conn PoolClosed) xs)
shuts-plain [] = tt
shuts-plain (x ∷ xs) = (λ r. refl, shuts-plain xs)

shut-plain : (p : Pool) (errored : Bool) (o : Option Held) → ArePlain (owes_shut p errored o)
shut-plain p errored None = tt
shut-plain p errored (Some h) = by (is_kept p errored h)
  where
    by : (b : Bool) → ArePlain (if b then [] else entry.ConnShut h.conn (pool.shut_reason p.state errored) ∷ [])
    by true = tt
    by false = (λ r. refl, tt)

owes-plain : (p : Pool) (e : PoolEntry) → ArePlain (owes p e)
owes-plain p entry.Shut = shuts-plain p.available
owes-plain p (entry.Settled number conn true) = (λ r. refl, (λ r. refl, tt))
owes-plain p (entry.Settled number conn false) = (λ r. refl, tt)
owes-plain p (entry.NotLent number (entry.Lost conn)) = (λ r. refl, tt)
owes-plain p (entry.NotLent number entry.Closed) = tt
owes-plain p (entry.NotLent number (entry.Cleared g)) = tt
owes-plain p (entry.NotLent number entry.Late) = tt
owes-plain p (entry.CheckedIn number conn errored) = shut-plain p errored (pool.held_of conn p.lent)
owes-plain p e = tt

cleared-not : (s : PoolState) → pool.is_ready (cleared_state s) ≡ false
cleared-not state_of.Paused = refl
cleared-not state_of.Ready = refl
cleared-not state_of.Closed = refl

after-ready : (p : Pool) (moment : ℕ) (e : PoolEntry) → pool.is_ready (after p moment e).state ≡ ready_of (pool.is_ready p.state) e
after-ready p moment entry.Ready = refl
after-ready p moment entry.Clear = cleared-not p.state
after-ready p moment entry.Shut = refl
after-ready p moment (entry.Settled number conn true) = refl
after-ready p moment (entry.Settled number conn false) = refl
after-ready p moment (entry.NotLent number (entry.Lost conn)) = refl
after-ready p moment (entry.NotLent number entry.Closed) = refl
after-ready p moment (entry.NotLent number (entry.Cleared g)) = refl
after-ready p moment (entry.NotLent number entry.Late) = refl
after-ready p moment e = refl

-- A pool's place, and whether it is ready there.
record IsSo (ready : Bool) (p : Place Pool PoolEntry) : Type 0 where
  state : pool.is_ready p.state.state ≡ ready
  plain : ArePlain p.owed

so-next : (ready : Bool) (p : Pool) (ds : List PoolEntry) (t : Timed PoolEntry) → Stands pool_judge (record { state = p; owed = ds }) t → IsSo ready (record { state = p; owed = ds }) →
    IsSo (ready_of ready t.what) (next_place pool_judge (record { state = p; owed = ds }) t)
so-next ready p [] t stands so = record { state = after-ready p t.at t.what ∙ ap (λ r. ready_of r t.what) so.state; plain = owes-plain p t.what }
so-next ready p (d ∷ ds) t stands so = record {
  state = so.state ∙ sym (so.plain.0 ready) ∙ ap (λ (e : PoolEntry). ready_of ready e) (sym stands);
  plain = so.plain.1;
}

so-behind : (ready : Bool) (p : Place Pool PoolEntry) (es : List (Timed PoolEntry)) → Legal (Stands pool_judge) (next_place pool_judge) p es → IsSo ready p →
    IsSo (ready_behind ready es) (state_after (next_place pool_judge) p es)
so-behind ready p [] l so = so
so-behind ready p (e ∷ es) l so = so-behind (ready_of ready e.what) (next_place pool_judge p e) es l.1 (so-next ready p.state p.owed e l.0 so)

-- ---- The entries of its pool that a host's entries are

-- One entry of a pool, where it is this host's.
one-plain : (host x moment : ℕ) (e : PoolEntry) → IsPlain e → (ready : Bool) → ready ≡ ready_behind ready (of_pool host moment (Some (x, e)))
one-plain host x moment e plain ready = by (x == host)
  where
    by : (b : Bool) → ready ≡ ready_behind ready (if b then record { at = moment; what = e } ∷ [] else [])
    by true = sym (plain ready)
    by false = refl

abbrev IsNoneOrPlain : Option PoolEntry → Type 0
IsNoneOrPlain None = Unit {0}
IsNoneOrPlain (Some e) = IsPlain e

at-plain : (host x moment : ℕ) (o : Option PoolEntry) → IsNoneOrPlain o → (ready : Bool) → ready ≡ ready_behind ready (of_pool host moment (at_host x o))
at-plain host x moment None plain ready = refl
at-plain host x moment (Some e) plain ready = one-plain host x moment e plain ready

map-plain : {A : Type 0} (make : A → PoolEntry) → ((a : A) → IsPlain (make a)) → (o : Option A) → IsNoneOrPlain (option_map make o)
map-plain make plain None = tt
map-plain make plain (Some a) = plain a

if-plain : (b : Bool) (o : Option PoolEntry) → IsNoneOrPlain o → IsNoneOrPlain (if b then o else None)
if-plain true o plain = plain
if-plain false o plain = tt

lost-plain : (x : ℕ) (h : CheckOut) → IsNoneOrPlain (lost_with x h)
lost-plain x Nothing = tt
lost-plain x (Waits host ticket) = tt
lost-plain x (Dials host ticket conn) = if-plain (host == x) (Some (entry.NotLent ticket (entry.Lost conn))) (λ r. refl)
lost-plain x (Has host ticket conn) = tt

not_lent-plain : (x : ℕ) (why : Unsent) (h : CheckOut) → IsNoneOrPlain (not_lent_with x why h)
not_lent-plain x unsent.PoolLate h = map-plain (λ t. entry.NotLent t entry.Late) (λ t r. refl) (ticket_with x h)
not_lent-plain x (unsent.PoolCleared generation) h = map-plain (λ t. entry.NotLent t (entry.Cleared generation)) (λ t r. refl) (ticket_with x h)
not_lent-plain x (unsent.PoolClosed host) h =
    if-plain (host == x) (option_map (λ t. entry.NotLent t entry.Closed) (ticket_with x h)) (map-plain (λ t. entry.NotLent t entry.Closed) (λ t r. refl) (ticket_with x h))
not_lent-plain x (unsent.Dial bad) h = lost-plain x h
not_lent-plain x (unsent.Greeting code) h = lost-plain x h
not_lent-plain x (unsent.TooLarge size most) h = tt

then-plain : (f : CheckOut → Option PoolEntry) → ((h : CheckOut) → IsNoneOrPlain (f h)) → (o : Option CheckOut) → IsNoneOrPlain (option_and_then f o)
then-plain f plain None = tt
then-plain f plain (Some h) = plain h

-- An entry that makes a pool ready, clears or closes it.
made-so : (host x moment : ℕ) (e : PoolEntry) (so ready : Bool) → ready_of ready e ≡ so → (if x == host then so else ready) ≡ ready_behind ready (of_pool host moment (Some (x, e)))
made-so host x moment e so ready is = by (x == host)
  where
    by : (b : Bool) → (if b then so else ready) ≡ ready_behind ready (if b then record { at = moment; what = e } ∷ [] else [])
    by true = sym is
    by false = refl

fact-ready : (host : ℕ) (w : ClientState) (moment : ℕ) (ready : Bool) (f : Fact) → ready_by host ready f ≡ ready_behind ready (of_pool host moment (pool_step w f))
fact-ready host w moment ready (fact.PoolReady x) = made-so host x moment entry.Ready true ready refl
fact-ready host w moment ready (fact.PoolClear x) = made-so host x moment entry.Clear false ready refl
fact-ready host w moment ready (fact.PoolShut x) = made-so host x moment entry.Shut false ready refl
fact-ready host w moment ready (fact.Entered op x ticket) = one-plain host x moment (entry.Entered ticket) (λ r. refl) ready
fact-ready host w moment ready (fact.ConnShut x conn reason) = one-plain host x moment (entry.ConnShut conn reason) (λ r. refl) ready
fact-ready host w moment ready (fact.Lent op x conn) =
    let o = option_and_then (ticket_with x) (check_out_of w op) in
    at-plain host x moment (option_map (λ t. entry.Lent t conn) o) (map-plain (λ t. entry.Lent t conn) (λ t r. refl) o) ready
fact-ready host w moment ready (fact.Dialled op x conn stream) =
    let o = option_and_then (ticket_with x) (check_out_of w op) in
    at-plain host x moment (option_map (λ t. entry.Dialled t conn) o) (map-plain (λ t. entry.Dialled t conn) (λ t r. refl) o) ready
fact-ready host w moment ready (fact.Settled op x conn stale) =
    let o = option_and_then (ticket_dialling x conn) (check_out_of w op) in
    at-plain host x moment (option_map (λ t. entry.Settled t conn stale) o) (map-plain (λ t. entry.Settled t conn stale) (λ t r. refl) o) ready
fact-ready host w moment ready (fact.CheckedIn op x conn errored) =
    let o = option_and_then (ticket_having x conn) (check_out_of w op) in
    at-plain host x moment (option_map (λ t. entry.CheckedIn t conn errored) o) (map-plain (λ t. entry.CheckedIn t conn errored) (λ t r. refl) o) ready
fact-ready host w moment ready (fact.NotLent op x why) =
    let o = option_and_then (not_lent_with x why) (check_out_of w op) in
    at-plain host x moment o (then-plain (not_lent_with x why) (not_lent-plain x why) (check_out_of w op)) ready
fact-ready host w moment ready f = refl

ready-from : (client : Client) (host : ℕ) (ready : Bool) (p : Point) (ts : List (Timed Fact)) →
    fold (λ r (t : Timed Fact). ready_by host r t.what) ready ts ≡ ready_behind ready (told_from client (pool_tells host) p ts)
ready-from client host ready p [] = refl
ready-from client host ready p (t ∷ ts) =
    let here = pool_tells host p t in
    let rest = told_from client (pool_tells host) (point_after client p t) ts in
    ready-from client host (ready_by host ready t.what) (point_after client p t) ts
    ∙ ap (λ (r : Bool). ready_behind r rest) (fact-ready host p.state t.at ready t.what)
    ∙ sym (fold-append (λ (r : Bool) (e : Timed PoolEntry). ready_of r e.what) ready here rest)

-- ---- Both

pub ready-said : (client : Client) (ts : List (Timed Fact)) (host : ℕ) (p : Place Pool PoolEntry) → IsTrail (pool_rules client) (pool_part client host ts) →
    p ≡ place_behind (pool_rules client) (pool_part client host ts) → is_ready host ts ≡ pool.is_ready p.state.state
ready-said client ts host p trail place =
    let fresh : Place Pool PoolEntry = nothing_owed (fresh_pool (pool_rules client)) in
    let so = so-behind false fresh (pool_part client host ts) trail (record { state = refl; plain = tt }) in
    ready-from client host false (beginning client) ts ∙ sym (ap (λ (q : Place Pool PoolEntry). pool.is_ready q.state.state) place ∙ so.state)
