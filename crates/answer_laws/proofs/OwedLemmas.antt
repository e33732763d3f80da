-- A hello is owed by a check that begins and by a connection that is dialled alone, and comes next.
use Rattle.std.proofs.Common.{◌≡◌, ℕ, ◌+◌, Bool, true, false, List, [], ◌∷◌, ◌++◌, map, drop, Option, None, Some, refl, sym, ap, ◌∙◌, subst}
use Rattle.std.specs.Prelude.{filter_map, is_some, option_to_list, slice_get, if◌then◌else◌}
use Rattle.std.specs.Option.{option_and_then}
use Rattle.cmd_outcome.specs.declared.reading.Reading.{Reading}
use Rattle.cmd_outcome.specs.declared.reading.StateChange.{StateChange}
use Rattle.host_name.specs.Addresses.{Address}
use Rattle.pool_book.specs.Entries.{PoolEntry, owes as pool_entry_owes}
use Rattle.pool_book.specs.Pool.{Pool}
use Rattle.write_retry.specs.declared.attempt_end.AttemptEnd.{AttemptEnd}
use Rattle.write_retry.specs.declared.attempt_end.AttemptEnd.TheVariants as attempt
use Rattle.write_retry.specs.declared.events.Unsent.{Unsent}
use Rattle.write_retry.specs.declared.events.Unsent.TheVariants as unsent
use Rattle.topo_rules.specs.Changes.{cleared_after, hosts_beyond, ready_after}
use Rattle.topo_rules.specs.declared.event.TopoEvent.{TopoEvent}
use Rattle.topo_rules.specs.declared.topology.Topology.{Topology}
use Rattle.desk_trail.specs.declared.entry.CheckHow.{CheckHow}
use Rattle.desk_trail.specs.declared.entry.CheckHow.TheVariants as how
use Rattle.desk_trail.specs.declared.entry.LookedHow.{LookedHow}
use Rattle.desk_trail.specs.declared.entry.LookedHow.TheVariants as looked
use Rattle.desk_trail.specs.declared.request.Purpose.{Purpose}
use Rattle.desk_trail.specs.declared.request.Purpose.TheVariants as purpose
use Rattle.desk_trail.specs.declared.request.Request.{Request}
use Rattle.desk_trail.specs.Attempts.{Endpoint, broken_by, end_owes, endpoint_at, finish_owes, not_lent_offers, offer_where, refused_by, refused_with}
use Rattle.desk_trail.specs.Checks.{all_asked, due_from, is_due, offered_of}
use Rattle.desk_trail.specs.Clients.{Client}
use Rattle.desk_trail.specs.Facts.{Fact}
use Rattle.desk_trail.specs.Facts as fact
use Rattle.desk_trail.specs.Legal.{owes}
use Rattle.desk_trail.specs.Looks.{look_owes}
use Rattle.desk_trail.specs.Owed.{InTurn, IsOwed, Owed, left_owed}
use Rattle.desk_trail.specs.Owed as owed
use Rattle.desk_trail.specs.Pools.{OfHost, owed_in, owed_of, pool_owes, pool_step}
use Rattle.desk_trail.specs.States.{ClientState, CommandState, ServerState, number_of}
use Rattle.desk_trail.specs.Topologies.{offered_owes, owed_by_change, readied}

-- ---- None of these is a hello

abbrev pub is_hello : Owed → Bool
is_hello (owed.Hello of stream first) = true
is_hello d = false

abbrev pub NoHello : List Owed → Type 0
NoHello [] = Unit {0}
NoHello (d ∷ ds) = (is_hello d ≡ false) × NoHello ds

pub none-append : (xs ys : List Owed) → NoHello xs → NoHello ys → NoHello (xs ++ ys)
none-append [] ys a b = b
none-append (x ∷ xs) ys a b = (a.0, none-append xs ys a.1 b)

none-map : {A : Type 0} (f : A → Owed) (xs : List A) → ((x : A) → is_hello (f x) ≡ false) → NoHello (map f xs)
none-map f [] h = tt
none-map f (x ∷ xs) h = (h x, none-map f xs h)

-- ---- What the entries owe

none-pool_in : (host : ℕ) (ds : List PoolEntry) (p : Pool) (e : PoolEntry) → NoHello (owed_in host ds p e)
none-pool_in host [] p e = none-map (λ (d : PoolEntry). owed.OfPool host) (pool_entry_owes p e) (λ d. refl)
none-pool_in host (d ∷ ds) p e = tt

none-owed_of : (host : ℕ) (o : Option ServerState) (e : PoolEntry) → NoHello (owed_of host o e)
none-owed_of host None e = tt
none-owed_of host (Some s) e = none-pool_in host s.pool.owed s.pool.state e

none-pool : (w : ClientState) (o : Option OfHost) → NoHello (pool_owes w o)
none-pool w None = tt
none-pool w (Some e) = none-owed_of e.0 (slice_get w.servers e.0) e.1

none-check : (h : CheckHow) (o : Option ServerState) → NoHello (offered_of h o)
none-check h None = tt
none-check (how.Reply sample) (Some s) = (refl, tt)
none-check h (Some s) = (refl, tt)

none-due : (n moment : ℕ) (ss : List ServerState) → NoHello (due_from n moment ss)
none-due n moment [] = tt
none-due n moment (s ∷ ss) = by (is_due moment s) (none-due (n + 1) moment ss)
  where
    by : (b : Bool) → NoHello (due_from (n + 1) moment ss) → NoHello (if b then owed.Begun n ∷ due_from (n + 1) moment ss else due_from (n + 1) moment ss)
    by true rest = (refl, rest)
    by false rest = rest

none-look : (moment : ℕ) (h : LookedHow) (w : ClientState) → NoHello (look_owes moment h w)
none-look moment looked.NoneFits w = none-due 0 moment (all_asked moment w).servers
none-look moment (looked.Chosen host) w = tt
none-look moment looked.Failed w = tt
none-look moment (looked.Incompatible host) w = tt

none-where : (s : Endpoint) (e : TopoEvent) → NoHello (offer_where s e)
none-where s e = by s.server.has_left
  where
    by : (b : Bool) → NoHello (if b then [] else owed.Offered e ∷ [])
    by true = tt
    by false = (refl, tt)

none-broken : (o : Option Endpoint) → NoHello (broken_by o)
none-broken None = tt
none-broken (Some s) = none-where s _

none-with : (reading : Reading) (o : Option StateChange) (s : Endpoint) → NoHello (refused_with reading o s)
none-with reading None s = tt
none-with reading (Some change) s = none-where s _

none-refused : (reading : Reading) (o : Option Endpoint) → NoHello (refused_by reading o)
none-refused reading None = tt
none-refused reading (Some s) = none-with reading reading.state s

none-not_lent : (o : Option Endpoint) (u : Unsent) → NoHello (not_lent_offers o u)
none-not_lent o (unsent.Dial false) = none-broken o
none-not_lent o (unsent.Dial true) = tt
none-not_lent o (unsent.Greeting code) = none-broken o
none-not_lent o u = tt

none-end : (op : ℕ) (s : Option Endpoint) (end : AttemptEnd) → NoHello (end_owes op s end)
none-end op s (attempt.Replied reading) = none-append (refused_by reading s) (owed.CheckedIn op false ∷ []) (none-refused reading s) (refl, tt)
none-end op s attempt.Cut = none-append (broken_by s) (owed.CheckedIn op true ∷ []) (none-broken s) (refl, tt)
none-end op s attempt.Fault = none-append (broken_by s) (owed.CheckedIn op true ∷ []) (none-broken s) (refl, tt)
none-end op s attempt.TimedOut = (refl, tt)
none-end op s (attempt.Bad at) = (refl, tt)
none-end op s (attempt.Unsent (unsent.TooLarge size most)) = (refl, tt)
none-end op s (attempt.Unsent u) = tt

none-finish : (op : ℕ) (o : Option CommandState) → NoHello (finish_owes op o)
none-finish op None = tt
none-finish op (Some c) = by (is_some c.session)
  where
    by : (b : Bool) → NoHello (if b then owed.Returned op ∷ [] else [])
    by true = (refl, tt)
    by false = tt

none-readied : (w : ClientState) (o : Option ℕ) → NoHello (readied w o)
none-readied w None = tt
none-readied w (Some host) = by _
  where
    by : (b : Bool) → NoHello (if b then owed.PoolReady host ∷ [] else [])
    by true = (refl, tt)
    by false = tt

none-parts : (ns : List Address) (hs cs : List ℕ) (r : List Owed) → NoHello r →
    NoHello (map (λ a. owed.Named a) ns ++ (map (λ x. owed.Dropped x) hs ++ (r ++ map (λ x. owed.PoolClear x) cs)))
none-parts ns hs cs r n =
    let c = map (λ (x : ℕ). owed.PoolClear x) cs in
    let d = map (λ (x : ℕ). owed.Dropped x) hs in
    none-append (map (λ (a : Address). owed.Named a) ns) (d ++ (r ++ c)) (none-map (λ (a : Address). owed.Named a) ns (λ a. refl))
    (none-append d (r ++ c) (none-map (λ (x : ℕ). owed.Dropped x) hs (λ x. refl)) (none-append r c n (none-map (λ (x : ℕ). owed.PoolClear x) cs (λ x. refl))))

none-change : (w : ClientState) (e : TopoEvent) (new : Topology) → NoHello (owed_by_change w e new)
none-change w e new =
    none-parts (hosts_beyond new.servers w.topology.servers) (filter_map (number_of w) (hosts_beyond w.topology.servers new.servers))
    (option_to_list (option_and_then (number_of w) (cleared_after e new))) (readied w (option_and_then (number_of w) (ready_after e new)))
    (none-readied w (option_and_then (number_of w) (ready_after e new)))

none-if : (b : Bool) (xs : List Owed) → NoHello xs → NoHello (if b then xs else [])
none-if true xs h = h
none-if false xs h = tt

none-offered : (w : ClientState) (e : TopoEvent) → NoHello (offered_owes w e)
none-offered w e = none-if _ _ (none-change w e _)

-- those that owe one
abbrev pub owes_hello : Fact → Bool
owes_hello (fact.CheckBegan host stream) = true
owes_hello (fact.Dialled op host conn (Some stream)) = true
owes_hello f = false

pub none-owes : (client : Client) (moment : ℕ) (w : ClientState) (f : Fact) → owes_hello f ≡ false → NoHello (owes client moment w f)
none-owes client moment w (fact.CheckBegan host stream) q = absurd (cc)
none-owes client moment w (fact.Dialled op host conn (Some stream)) q = absurd (cc)
none-owes client moment w (fact.Dialled op host conn None) q = (refl, tt)
none-owes client moment w (fact.Dropped host) q = (refl, tt)
none-owes client moment w (fact.Offered place event taken) q = none-offered w event
none-owes client moment w (fact.PoolShut host) q = none-pool w (pool_step w (fact.PoolShut host))
none-owes client moment w (fact.CheckEnded host h) q = none-check h (slice_get w.servers host)
none-owes client moment w (fact.Looked op a b kept picked) q = none-look moment picked w
none-owes client moment w (fact.Settled op host conn stale) q = none-pool w (pool_step w (fact.Settled op host conn stale))
none-owes client moment w (fact.NotLent op host why) q = (
  refl,
  none-append (pool_owes w (pool_step w (fact.NotLent op host why))) (not_lent_offers (endpoint_at w op) why) (none-pool w (pool_step w (fact.NotLent op host why)))
      (none-not_lent (endpoint_at w op) why),
)
none-owes client moment w (fact.CheckedIn op host conn errored) q = none-pool w (pool_step w (fact.CheckedIn op host conn errored))
none-owes client moment w (fact.Ended op end) q = none-end op (endpoint_at w op) end
none-owes client moment w (fact.Finished op outcome) q = none-finish op (slice_get w.commands op)
none-owes client moment w f q = tt

-- ---- What must come next

-- where a hello must come next, its stream is so, and no other hello must come
pub record Greets (P : ℕ → Type 0) (ds : List Owed) : Type 0 where
  pub free : (of : Purpose) (stream : ℕ) (first : Bool) (rest : List Owed) → ds ≡ owed.Hello of stream first ∷ rest → P stream
  pub rest : NoHello (drop 1 ds)

pub greets-none : (P : ℕ → Type 0) (ds : List Owed) → NoHello ds → Greets P ds
greets-none P [] n = record { free = λ of stream first rest e. absurd (cc); rest = tt }
greets-none P (d ∷ ds) n = record {
  free = λ of stream first rest e.
      let same : d ≡ owed.Hello of stream first = (cc) in
      let no : false ≡ true = sym n.0 ∙ ap is_hello same in
      absurd (cc);
  rest = n.1;
}

pub greets-first : (P : ℕ → Type 0) (of : Purpose) (stream : ℕ) (first : Bool) (ds : List Owed) → P stream → NoHello ds → Greets P (owed.Hello of stream first ∷ ds)
greets-first P of stream first ds p n = record {
  free = λ o s f rest e. let same : stream ≡ s = (cc) in subst P same p;
  rest = n;
}

-- behind an entry that owes no hello
pub greets-behind : (P : ℕ → Type 0) (ds more : List Owed) → NoHello (drop 1 ds) → NoHello more → Greets P (more ++ drop 1 ds)
greets-behind P ds more n m = greets-none P (more ++ drop 1 ds) (none-append more (drop 1 ds) m n)

-- a hello is on the stream of the one that must come next
abbrev pub is_greeting_for : Purpose → Bool
is_greeting_for (purpose.Check host) = true
is_greeting_for (purpose.Greeting host conn) = true
is_greeting_for p = false

unasked : (place : ℕ) (r : Request) (p : Purpose) → r.purpose ≡ p → is_greeting_for p ≡ true → InTurn [] (fact.Asked place r) → ⊥
unasked place r (purpose.Check host) e q t = subst owed.MayAsk e t
unasked place r (purpose.Greeting host conn) e q t = subst owed.MayAsk e t
unasked place r (purpose.Command op) e q t = absurd (cc)
unasked place r purpose.Farewell e q t = absurd (cc)

pub hello-stream : (P : ℕ → Type 0) (ds : List Owed) (place : ℕ) (r : Request) → is_greeting_for r.purpose ≡ true → InTurn ds (fact.Asked place r) → Greets P ds → P r.stream
hello-stream P [] place r q t g = absurd (unasked place r r.purpose refl q t)
hello-stream P (owed.Hello of stream first ∷ ds) place r q t g = subst P (sym t.on) (g.free of stream first ds refl)
hello-stream P (owed.Named a ∷ ds) place r q t g = absurd t
hello-stream P (owed.Dropped x ∷ ds) place r q t g = absurd t
hello-stream P (owed.PoolReady x ∷ ds) place r q t g = absurd t
hello-stream P (owed.PoolClear x ∷ ds) place r q t g = absurd t
hello-stream P (owed.PoolShut x ∷ ds) place r q t g = absurd t
hello-stream P (owed.OfPool x ∷ ds) place r q t g = absurd t
hello-stream P (owed.Offered e ∷ ds) place r q t g = absurd t
hello-stream P (owed.Reply a s ∷ ds) place r q t g = absurd t
hello-stream P (owed.Begun x ∷ ds) place r q t g = absurd t
hello-stream P (owed.NoDial o x ∷ ds) place r q t g = absurd t
hello-stream P (owed.Ended o u ∷ ds) place r q t g = absurd t
hello-stream P (owed.CheckedIn o e ∷ ds) place r q t g = absurd t
hello-stream P (owed.Returned o ∷ ds) place r q t g = absurd t
