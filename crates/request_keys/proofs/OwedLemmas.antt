-- The session that must be given back is of a command that was answered.
use Rattle.std.proofs.Common.{◌≡◌, ℕ, ◌+◌, Bool, true, false, List, [], ◌∷◌, ◌++◌, map, Option, None, Some, is_some, refl, sym, ap, ◌∙◌, subst, inl, inr}
use Rattle.std.specs.Prelude.{filter_map, slice_get, if◌then◌else◌}
use Rattle.std.specs.List.{AllByRecursion}
use Rattle.std.specs.Option.{option_and_then, option_to_list}
use Rattle.entry_judge.specs.declared.timed.Timed.{Timed}
use Rattle.cmd_outcome.specs.declared.reading.Reading.{Reading}
use Rattle.cmd_outcome.specs.declared.reading.StateChange.{StateChange}
use Rattle.host_name.specs.Addresses.{Address}
use Rattle.pool_book.specs.Entries.{PoolEntry, owes as pool_entry_owes}
use Rattle.pool_book.specs.Pool.{Pool}
use Rattle.topo_book.specs.Fresh.{is_accepted_verdict}
use Rattle.topo_rules.specs.Changes.{cleared_after, hosts_beyond, ready_after}
use Rattle.topo_rules.specs.Rules as rules
use Rattle.topo_rules.specs.declared.event.TopoEvent.{TopoEvent}
use Rattle.topo_rules.specs.declared.topology.Topology.{Topology}
use Rattle.write_retry.specs.declared.attempt_end.AttemptEnd.{AttemptEnd}
use Rattle.write_retry.specs.declared.attempt_end.AttemptEnd.TheVariants as attempt
use Rattle.write_retry.specs.declared.events.Unsent.{Unsent}
use Rattle.write_retry.specs.declared.events.Unsent.TheVariants as unsent
use Rattle.desk_trail.specs.declared.entry.CheckHow.{CheckHow}
use Rattle.desk_trail.specs.declared.entry.CheckHow.TheVariants as how
use Rattle.desk_trail.specs.declared.entry.LookedHow.{LookedHow}
use Rattle.desk_trail.specs.declared.entry.LookedHow.TheVariants as looked
use Rattle.desk_trail.specs.Attempts.{Endpoint, broken_by, end_owes, endpoint_at, finish_owes, not_lent_offers, offer_where, refused_by, refused_with}
use Rattle.desk_trail.specs.Checks.{all_asked, due_from, is_due, offered_of}
use Rattle.desk_trail.specs.Clients.{Client}
use Rattle.desk_trail.specs.Facts.{Fact}
use Rattle.desk_trail.specs.Facts as fact
use Rattle.desk_trail.specs.Legal.{MayStand, Point, dial_owes, owes, point_behind}
use Rattle.desk_trail.specs.Looks.{look_owes}
use Rattle.desk_trail.specs.Owed.{InTurn, IsOwed, Owed, left_owed}
use Rattle.desk_trail.specs.Owed as owed
use Rattle.desk_trail.specs.Pools.{OfHost, owed_in, owed_of, pool_owes, pool_step}
use Rattle.desk_trail.specs.States.{ClientState, CommandState, ServerState, number_of}
use Rattle.desk_trail.specs.Topologies.{cleared, is_paused_at, offered_owes, owed_by_change, readied, verdict_on}
use Rattle.request_keys.proofs.ListLemmas.{all-drop, all-each, all-more}
use Rattle.request_keys.proofs.MachineLemmas.{goes-on, is_answer}
use Rattle.request_keys.proofs.StepLemmas.{moves-op, same-command}
use Rattle.request_keys.proofs.TrailLemmas.{Further, was}

-- ---- What is owed, the returns of sessions aside

-- a session is to be given back only where its command is so
abbrev pub Well : (ℕ → Type 0) → Owed → Type 0
Well A (owed.Returned op) = A op
Well A d = Unit {0}

abbrev pub AreWell : (ℕ → Type 0) → List Owed → Type 0
AreWell A ds = AllByRecursion (Well A) ds

well-more : (A : ℕ → Type 0) (xs ys : List Owed) → AreWell A xs → AreWell A ys → AreWell A (xs ++ ys)
well-more A xs ys h k = all-more (Well A) xs ys h k

well-pools : (A : ℕ → Type 0) (host : ℕ) (es : List PoolEntry) → AreWell A (map (λ (e : PoolEntry). owed.OfPool host) es)
well-pools A host [] = tt
well-pools A host (e ∷ es) = (tt, well-pools A host es)

well-owed_in : (A : ℕ → Type 0) (host : ℕ) (ds : List PoolEntry) (p : Pool) (e : PoolEntry) → AreWell A (owed_in host ds p e)
well-owed_in A host [] p e = well-pools A host (pool_entry_owes p e)
well-owed_in A host (d ∷ ds) p e = tt

well-owed_of : (A : ℕ → Type 0) (host : ℕ) (o : Option ServerState) (e : PoolEntry) → AreWell A (owed_of host o e)
well-owed_of A host None e = tt
well-owed_of A host (Some s) e = well-owed_in A host s.pool.owed s.pool.state e

well-pool : (A : ℕ → Type 0) (w : ClientState) (o : Option OfHost) → AreWell A (pool_owes w o)
well-pool A w None = tt
well-pool A w (Some e) = well-owed_of A e.0 (slice_get w.servers e.0) e.1

well-check : (A : ℕ → Type 0) (h : CheckHow) (o : Option ServerState) → AreWell A (offered_of h o)
well-check A h None = tt
well-check A (how.Reply sample) (Some s) = (tt, tt)
well-check A h (Some s) = (tt, tt)

well-due : (A : ℕ → Type 0) (n moment : ℕ) (ss : List ServerState) → AreWell A (due_from n moment ss)
well-due A n moment [] = tt
well-due A n moment (s ∷ ss) = by (is_due moment s) (well-due A (n + 1) moment ss)
  where
    by : (b : Bool) → AreWell A (due_from (n + 1) moment ss) → AreWell A (if b then owed.Begun n ∷ due_from (n + 1) moment ss else due_from (n + 1) moment ss)
    by true rest = (tt, rest)
    by false rest = rest

well-look : (A : ℕ → Type 0) (moment : ℕ) (h : LookedHow) (w : ClientState) → AreWell A (look_owes moment h w)
well-look A moment looked.NoneFits w = well-due A 0 moment (all_asked moment w).servers
well-look A moment (looked.Chosen host) w = tt
well-look A moment looked.Failed w = tt
well-look A moment (looked.Incompatible host) w = tt

well-dial : (A : ℕ → Type 0) (op host conn : ℕ) (o : Option ℕ) → AreWell A (dial_owes op host conn o)
well-dial A op host conn None = (tt, tt)
well-dial A op host conn (Some stream) = (tt, tt)

well-where : (A : ℕ → Type 0) (s : Endpoint) (e : TopoEvent) → AreWell A (offer_where s e)
well-where A s e = by s.server.has_left
  where
    by : (b : Bool) → AreWell A (if b then [] else owed.Offered e ∷ [])
    by true = tt
    by false = (tt, tt)

well-broken : (A : ℕ → Type 0) (o : Option Endpoint) → AreWell A (broken_by o)
well-broken A None = tt
well-broken A (Some s) = well-where A s _

well-with : (A : ℕ → Type 0) (reading : Reading) (o : Option StateChange) (s : Endpoint) → AreWell A (refused_with reading o s)
well-with A reading None s = tt
well-with A reading (Some change) s = well-where A s _

well-refused : (A : ℕ → Type 0) (reading : Reading) (o : Option Endpoint) → AreWell A (refused_by reading o)
well-refused A reading None = tt
well-refused A reading (Some s) = well-with A reading reading.state s

well-not_lent : (A : ℕ → Type 0) (o : Option Endpoint) (u : Unsent) → AreWell A (not_lent_offers o u)
well-not_lent A o (unsent.Dial false) = well-broken A o
well-not_lent A o (unsent.Dial true) = tt
well-not_lent A o (unsent.Greeting code) = well-broken A o
well-not_lent A o u = tt

well-end : (A : ℕ → Type 0) (op : ℕ) (s : Option Endpoint) (end : AttemptEnd) → AreWell A (end_owes op s end)
well-end A op s (attempt.Replied reading) = well-more A (refused_by reading s) (owed.CheckedIn op false ∷ []) (well-refused A reading s) (tt, tt)
well-end A op s attempt.Cut = well-more A (broken_by s) (owed.CheckedIn op true ∷ []) (well-broken A s) (tt, tt)
well-end A op s attempt.Fault = well-more A (broken_by s) (owed.CheckedIn op true ∷ []) (well-broken A s) (tt, tt)
well-end A op s attempt.TimedOut = (tt, tt)
well-end A op s (attempt.Bad at) = (tt, tt)
well-end A op s (attempt.Unsent (unsent.TooLarge size most)) = (tt, tt)
well-end A op s (attempt.Unsent u) = tt

well-named : (A : ℕ → Type 0) (hosts : List Address) → AreWell A (map (λ address. owed.Named address) hosts)
well-named A [] = tt
well-named A (x ∷ xs) = (tt, well-named A xs)

well-dropped : (A : ℕ → Type 0) (hosts : List ℕ) → AreWell A (map (λ host. owed.Dropped host) hosts)
well-dropped A [] = tt
well-dropped A (x ∷ xs) = (tt, well-dropped A xs)

well-readied : (A : ℕ → Type 0) (w : ClientState) (o : Option ℕ) → AreWell A (readied w o)
well-readied A w None = tt
well-readied A w (Some host) = by (is_paused_at w host)
  where
    by : (b : Bool) → AreWell A (if b then owed.PoolReady host ∷ [] else [])
    by true = (tt, tt)
    by false = tt

well-clears : (A : ℕ → Type 0) (hosts : List ℕ) → AreWell A (map (λ x. owed.PoolClear x) hosts)
well-clears A [] = tt
well-clears A (x ∷ xs) = (tt, well-clears A xs)

well-change : (A : ℕ → Type 0) (w : ClientState) (e : TopoEvent) (new : Topology) → AreWell A (owed_by_change w e new)
well-change A w e new =
    let added = hosts_beyond new.servers w.topology.servers in
    let removed = filter_map (number_of w) (hosts_beyond w.topology.servers new.servers) in
    let ready = option_and_then (number_of w) (ready_after e new) in
    let clear = option_and_then (number_of w) (cleared_after e new) in
    well-more A (map (λ address. owed.Named address) added) (map (λ host. owed.Dropped host) removed ++ (readied w ready ++ cleared clear)) (well-named A added)
    (well-more A (map (λ host. owed.Dropped host) removed) (readied w ready ++ cleared clear) (well-dropped A removed)
    (well-more A (readied w ready) (cleared clear) (well-readied A w ready) (well-clears A (option_to_list clear))))

well-offered : (A : ℕ → Type 0) (w : ClientState) (e : TopoEvent) → AreWell A (offered_owes w e)
well-offered A w e = by (is_accepted_verdict (verdict_on w e)) (well-change A w e (rules.after w.topology e))
  where
    by : (b : Bool) → AreWell A (owed_by_change w e (rules.after w.topology e)) → AreWell A (if b then owed_by_change w e (rules.after w.topology e) else [])
    by true h = h
    by false h = tt

-- the session of an answered command
well-finish : (A : ℕ → Type 0) (op : ℕ) (o : Option CommandState) → A op → AreWell A (finish_owes op o)
well-finish A op None h = tt
well-finish A op (Some c) h = by (is_some c.session)
  where
    by : (b : Bool) → AreWell A (if b then owed.Returned op ∷ [] else [])
    by true = (h, tt)
    by false = tt

-- entries that answer a command
abbrev is_finish : Fact → Bool
is_finish (fact.Finished op outcome) = true
is_finish f = false

well-owes : (A : ℕ → Type 0) (client : Client) (moment : ℕ) (w : ClientState) (f : Fact) → is_finish f ≡ false → AreWell A (owes client moment w f)
well-owes A client moment w (fact.Dropped host) q = (tt, tt)
well-owes A client moment w (fact.Offered place e taken) q = well-offered A w e
well-owes A client moment w (fact.PoolShut host) q = well-pool A w (pool_step w (fact.PoolShut host))
well-owes A client moment w (fact.CheckBegan host stream) q = (tt, tt)
well-owes A client moment w (fact.CheckEnded host h) q = well-check A h (slice_get w.servers host)
well-owes A client moment w (fact.Looked op a b kept picked) q = well-look A moment picked w
well-owes A client moment w (fact.Dialled op host conn stream) q = well-dial A op host conn stream
well-owes A client moment w (fact.Settled op host conn stale) q = well-pool A w (pool_step w (fact.Settled op host conn stale))
well-owes A client moment w (fact.NotLent op host why) q =
    (tt, well-more A (pool_owes w (pool_step w (fact.NotLent op host why))) (not_lent_offers (endpoint_at w op) why) (well-pool A w (pool_step w (fact.NotLent op host why))) (well-not_lent A (endpoint_at w op) why))
well-owes A client moment w (fact.CheckedIn op host conn errored) q = well-pool A w (pool_step w (fact.CheckedIn op host conn errored))
well-owes A client moment w (fact.Ended op end) q = well-end A op (endpoint_at w op) end
well-owes A client moment w (fact.Finished op outcome) q = absurd (cc)
well-owes A client moment w f q = tt

well-left : (A : ℕ → Type 0) (ds : List Owed) (f : Fact) → AreWell A ds → AreWell A (left_owed ds f)
well-left A ds (fact.Time stamp) h = h
well-left A ds f h = all-drop (Well A) ds h

well-each : (A B : ℕ → Type 0) (ds : List Owed) → ((op : ℕ) → A op → B op) → AreWell A ds → AreWell B ds
well-each A B ds f h = all-each (Well A) (Well B) ds by h
  where
    by : (d : Owed) → Well A d → Well B d
    by (owed.Returned op) x = f op x
    by (owed.Named address) x = tt
    by (owed.Dropped host) x = tt
    by (owed.PoolReady host) x = tt
    by (owed.PoolClear host) x = tt
    by (owed.PoolShut host) x = tt
    by (owed.OfPool host) x = tt
    by (owed.Offered e) x = tt
    by (owed.Reply address sample) x = tt
    by (owed.Begun host) x = tt
    by (owed.Hello p stream first) x = tt
    by (owed.NoDial op host) x = tt
    by (owed.Ended op why) x = tt
    by (owed.CheckedIn op errored) x = tt

-- ---- Along a trail

abbrev pub IsAnswered : ClientState → ℕ → Type 0
IsAnswered w op = (c : CommandState) → slice_get w.commands op ≡ Some c → is_answer c.op.next ≡ true

answered-on : (client : Client) (xs : List (Timed Fact)) (t : Timed Fact) (op : ℕ) → Further client xs t → IsAnswered (point_behind client xs).state op →
    IsAnswered (point_behind client (xs ++ t ∷ [])).state op
answered-on client xs t op f h d there =
    let b = was client xs t op d f there in
    let o = h b.command b.there in
    elim (moves-op client t.at (point_behind client xs).state t.what op b.command b.there f.stands.command) [
      | inl same ↦ ap (λ (x : CommandState). is_answer x.op.next) b.is ∙ ap (λ x. is_answer x.next) same ∙ o
      | inr m ↦ absurd (let wrong : true ≡ false = sym o ∙ goes-on b.command.op.next m.event m.allowed in cc)
    ]

abbrev pub IsOwing : Client → List (Timed Fact) → Type 0
IsOwing client xs = AreWell (IsAnswered (point_behind client xs).state) (point_behind client xs).owed

owes-well : (B : ℕ → Type 0) (client : Client) (p : Point) (moment : ℕ) (f : Fact) → MayStand client p moment f → ((op : ℕ) → IsAnswered p.state op → B op) → AreWell B (owes client moment p.state f)
owes-well B client p moment (fact.Finished op outcome) m k =
    well-finish B op (slice_get p.state.commands op)
    (k op (λ d there.
    let one : m.0 ≡ d = same-command p.state.commands op m.0 d m.1 there in
    subst (λ (c : CommandState). is_answer c.op.next ≡ true) one (ap is_answer m.2.answers)))
owes-well B client p moment f m k = well-owes B client moment p.state f refl

pub owing-step : (client : Client) (xs : List (Timed Fact)) (t : Timed Fact) → Further client xs t → IsOwing client xs → IsOwing client (xs ++ t ∷ [])
owing-step client xs t f h =
    let p = point_behind client xs in
    let B = IsAnswered (point_behind client (xs ++ t ∷ [])).state in
    let each : (op : ℕ) → IsAnswered p.state op → B op = λ op a. answered-on client xs t op f a in
    subst (λ (q : Point). AreWell B q.owed) (sym f.to)
    (well-more B (owes client t.at p.state t.what) (left_owed p.owed t.what) (owes-well B client p t.at t.what f.stands.rule each)
    (well-each (IsAnswered p.state) B (left_owed p.owed t.what) each (well-left (IsAnswered p.state) p.owed t.what h)))

pub owing-begins : (client : Client) → IsOwing client []
owing-begins client = well-named (IsAnswered (point_behind client []).state) client.settings.hosts

-- a return is of an answered command
pub returns-answered : (A : ℕ → Type 0) (ds : List Owed) (op : ℕ) (dirty kept : Bool) → InTurn ds (fact.Returned op dirty kept) → AreWell A ds → A op
returns-answered A [] op dirty kept turn h = absurd turn
returns-answered A (owed.Returned o ∷ ds) op dirty kept turn h = subst A (sym turn) h.0
returns-answered A (d ∷ ds) op dirty kept turn h = absurd turn
