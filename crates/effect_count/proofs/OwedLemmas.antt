-- What must come next, and in which order: what a pool owes, and the check-in of a connection, come ahead of each hello and check.
use Rattle.std.proofs.Common.{◌≡◌, ◌⊎◌, inl, inr, ℕ, ◌+◌, Bool, true, false, List, [], ◌∷◌, ◌++◌, map, drop, Option, None, Some, refl, sym, ap, ◌∙◌, subst}
use Rattle.std.specs.Prelude.{filter_map, is_some, option_to_list, slice_get, if◌then◌else◌}
use Rattle.std.specs.Option.{option_and_then}
use Rattle.cmd_outcome.specs.declared.reading.Reading.{Reading}
use Rattle.cmd_outcome.specs.declared.reading.StateChange.{StateChange}
use Rattle.host_name.specs.Addresses.{Address}
use Rattle.pool_book.specs.Entries.{PoolEntry, owes as pool_entry_owes}
use Rattle.pool_book.specs.Pool.{Pool}
use Rattle.write_retry.specs.declared.attempt_end.AttemptEnd.{AttemptEnd}
use Rattle.write_retry.specs.declared.attempt_end.AttemptEnd.TheVariants as attempt
use Rattle.write_retry.specs.declared.events.Unsent.{Unsent}
use Rattle.write_retry.specs.declared.events.Unsent.TheVariants as unsent
use Rattle.topo_rules.specs.Changes.{cleared_after, hosts_beyond, ready_after}
use Rattle.topo_rules.specs.declared.event.TopoEvent.{TopoEvent}
use Rattle.topo_rules.specs.declared.topology.Topology.{Topology}
use Rattle.desk_trail.specs.declared.entry.CheckHow.{CheckHow}
use Rattle.desk_trail.specs.declared.entry.CheckHow.TheVariants as how
use Rattle.desk_trail.specs.declared.entry.LookedHow.{LookedHow}
use Rattle.desk_trail.specs.declared.entry.LookedHow.TheVariants as looked
use Rattle.desk_trail.specs.declared.request.Purpose.{Purpose}
use Rattle.desk_trail.specs.declared.request.Purpose.TheVariants as purpose
use Rattle.desk_trail.specs.declared.request.Request.{Request}
use Rattle.desk_trail.specs.Attempts.{Endpoint, broken_by, end_owes, endpoint_at, finish_owes, not_lent_offers, offer_where, refused_by, refused_with}
use Rattle.desk_trail.specs.Checks.{all_asked, due_from, is_due, offered_of}
use Rattle.desk_trail.specs.Clients.{Client}
use Rattle.desk_trail.specs.Facts.{Fact}
use Rattle.desk_trail.specs.Facts as fact
use Rattle.desk_trail.specs.Legal.{owes}
use Rattle.desk_trail.specs.Looks.{look_owes}
use Rattle.desk_trail.specs.Orders.{is_time}
use Rattle.desk_trail.specs.Owed.{InTurn, IsOfPool, IsOwed, Owed, left_owed}
use Rattle.desk_trail.specs.Owed as owed
use Rattle.desk_trail.specs.Pools.{OfHost, owed_in, owed_of, pool_owes, pool_step}
use Rattle.desk_trail.specs.States.{ClientState, CommandState, ServerState, number_of}
use Rattle.desk_trail.specs.Topologies.{offered_owes, owed_by_change, readied}
use Rattle.effect_count.proofs.ChangeLemmas.{is_looked}

-- ---- All of these pass a test

abbrev pub AllPass : (Owed → Bool) → List Owed → Type 0
AllPass q [] = Unit {0}
AllPass q (d ∷ ds) = (q d ≡ true) × AllPass q ds

pub pass-append : (q : Owed → Bool) (xs ys : List Owed) → AllPass q xs → AllPass q ys → AllPass q (xs ++ ys)
pass-append q [] ys a b = b
pass-append q (x ∷ xs) ys a b = (a.0, pass-append q xs ys a.1 b)

pub pass-drop : (q : Owed → Bool) (ds : List Owed) → AllPass q ds → AllPass q (drop 1 ds)
pass-drop q [] h = tt
pass-drop q (d ∷ ds) h = h.1

pass-map : {A : Type 0} (q : Owed → Bool) (f : A → Owed) (xs : List A) → ((x : A) → q (f x) ≡ true) → AllPass q (map f xs)
pass-map q f [] h = tt
pass-map q f (x ∷ xs) h = (h x, pass-map q f xs h)

-- one is among these
abbrev pub IsIn : Owed → List Owed → Type 0
IsIn d [] = ⊥
IsIn d (x ∷ xs) = (x ≡ d) ⊎ IsIn d xs

pub in-append : (d : Owed) (xs ys : List Owed) → IsIn d (xs ++ ys) → IsIn d xs ⊎ IsIn d ys
in-append d [] ys h = inr h
in-append d (x ∷ xs) ys (inl e) = inl (inl e)
in-append d (x ∷ xs) ys (inr h) = elim (in-append d xs ys h) [
  | inl i ↦ inl (inr i)
  | inr i ↦ inr i
]

pub in-front : (d : Owed) (xs ys : List Owed) → IsIn d xs → IsIn d (xs ++ ys)
in-front d [] ys h = absurd h
in-front d (x ∷ xs) ys (inl e) = inl e
in-front d (x ∷ xs) ys (inr h) = inr (in-front d xs ys h)

pub in-back : (d : Owed) (xs ys : List Owed) → IsIn d ys → IsIn d (xs ++ ys)
in-back d [] ys h = h
in-back d (x ∷ xs) ys h = inr (in-back d xs ys h)

in-drop : (d : Owed) (ds : List Owed) → IsIn d (drop 1 ds) → IsIn d ds
in-drop d [] h = absurd h
in-drop d (x ∷ xs) h = inr h

pub in-pass : (q : Owed → Bool) (d : Owed) (ds : List Owed) → AllPass q ds → IsIn d ds → q d ≡ true
in-pass q d [] a h = absurd h
in-pass q d (x ∷ xs) a (inl e) = sym (ap q e) ∙ a.0
in-pass q d (x ∷ xs) a (inr h) = in-pass q d xs a.1 h

-- ---- What entries owe, hellos, checks and check-ins aside

pub record Passes (q : Owed → Bool) : Type 0 where
  pub named : (a : Address) → q (owed.Named a) ≡ true
  pub dropped : (x : ℕ) → q (owed.Dropped x) ≡ true
  pub ready : (x : ℕ) → q (owed.PoolReady x) ≡ true
  pub clear : (x : ℕ) → q (owed.PoolClear x) ≡ true
  pub shut : (x : ℕ) → q (owed.PoolShut x) ≡ true
  pub of_pool : (x : ℕ) → q (owed.OfPool x) ≡ true
  pub offered : (e : TopoEvent) → q (owed.Offered e) ≡ true
  pub reply : (a : Address) (n : ℕ) → q (owed.Reply a n) ≡ true
  pub no_dial : (o x : ℕ) → q (owed.NoDial o x) ≡ true
  pub ended : (o : ℕ) (u : Unsent) → q (owed.Ended o u) ≡ true
  pub returned : (o : ℕ) → q (owed.Returned o) ≡ true

module _ (q : Owed → Bool) (s : Passes q) where
  pass-pool_in : (host : ℕ) (ds : List PoolEntry) (p : Pool) (e : PoolEntry) → AllPass q (owed_in host ds p e)
  pass-pool_in host [] p e = pass-map q (λ (d : PoolEntry). owed.OfPool host) (pool_entry_owes p e) (λ d. s.of_pool host)
  pass-pool_in host (d ∷ ds) p e = tt

  pass-owed_of : (host : ℕ) (o : Option ServerState) (e : PoolEntry) → AllPass q (owed_of host o e)
  pass-owed_of host None e = tt
  pass-owed_of host (Some x) e = pass-pool_in host x.pool.owed x.pool.state e

  pass-pool : (w : ClientState) (o : Option OfHost) → AllPass q (pool_owes w o)
  pass-pool w None = tt
  pass-pool w (Some e) = pass-owed_of e.0 (slice_get w.servers e.0) e.1

  pass-check : (h : CheckHow) (o : Option ServerState) → AllPass q (offered_of h o)
  pass-check h None = tt
  pass-check (how.Reply sample) (Some x) = (s.reply x.address sample, tt)
  pass-check h (Some x) = (s.offered _, tt)

  pass-where : (x : Endpoint) (e : TopoEvent) → AllPass q (offer_where x e)
  pass-where x e = by x.server.has_left
    where
      by : (b : Bool) → AllPass q (if b then [] else owed.Offered e ∷ [])
      by true = tt
      by false = (s.offered e, tt)

  pass-broken : (o : Option Endpoint) → AllPass q (broken_by o)
  pass-broken None = tt
  pass-broken (Some x) = pass-where x _

  pass-with : (reading : Reading) (o : Option StateChange) (x : Endpoint) → AllPass q (refused_with reading o x)
  pass-with reading None x = tt
  pass-with reading (Some change) x = pass-where x _

  pass-refused : (reading : Reading) (o : Option Endpoint) → AllPass q (refused_by reading o)
  pass-refused reading None = tt
  pass-refused reading (Some x) = pass-with reading reading.state x

  pass-not_lent : (o : Option Endpoint) (u : Unsent) → AllPass q (not_lent_offers o u)
  pass-not_lent o (unsent.Dial false) = pass-broken o
  pass-not_lent o (unsent.Dial true) = tt
  pass-not_lent o (unsent.Greeting code) = pass-broken o
  pass-not_lent o u = tt

  pass-finish : (op : ℕ) (o : Option CommandState) → AllPass q (finish_owes op o)
  pass-finish op None = tt
  pass-finish op (Some c) = by (is_some c.session)
    where
      by : (b : Bool) → AllPass q (if b then owed.Returned op ∷ [] else [])
      by true = (s.returned op, tt)
      by false = tt

  pass-readied : (w : ClientState) (o : Option ℕ) → AllPass q (readied w o)
  pass-readied w None = tt
  pass-readied w (Some host) = by _
    where
      by : (b : Bool) → AllPass q (if b then owed.PoolReady host ∷ [] else [])
      by true = (s.ready host, tt)
      by false = tt

  pass-parts : (ns : List Address) (hs cs : List ℕ) (r : List Owed) → AllPass q r →
      AllPass q (map (λ a. owed.Named a) ns ++ (map (λ x. owed.Dropped x) hs ++ (r ++ map (λ x. owed.PoolClear x) cs)))
  pass-parts ns hs cs r n =
      let c = map (λ (x : ℕ). owed.PoolClear x) cs in
      let d = map (λ (x : ℕ). owed.Dropped x) hs in
      pass-append q (map (λ (a : Address). owed.Named a) ns) (d ++ (r ++ c)) (pass-map q (λ (a : Address). owed.Named a) ns s.named)
      (pass-append q d (r ++ c) (pass-map q (λ (x : ℕ). owed.Dropped x) hs s.dropped) (pass-append q r c n (pass-map q (λ (x : ℕ). owed.PoolClear x) cs s.clear)))

  pass-change : (w : ClientState) (e : TopoEvent) (new : Topology) → AllPass q (owed_by_change w e new)
  pass-change w e new =
      pass-parts (hosts_beyond new.servers w.topology.servers) (filter_map (number_of w) (hosts_beyond w.topology.servers new.servers))
      (option_to_list (option_and_then (number_of w) (cleared_after e new))) (readied w (option_and_then (number_of w) (ready_after e new)))
      (pass-readied w (option_and_then (number_of w) (ready_after e new)))

  pass-if : (b : Bool) (xs : List Owed) → AllPass q xs → AllPass q (if b then xs else [])
  pass-if true xs h = h
  pass-if false xs h = tt

  pass-offered : (w : ClientState) (e : TopoEvent) → AllPass q (offered_owes w e)
  pass-offered w e = pass-if _ _ (pass-change w e _)

-- the entries that owe others
abbrev pub is_heavy : Fact → Bool
is_heavy (fact.CheckBegan host stream) = true
is_heavy (fact.Dialled op host conn (Some stream)) = true
is_heavy (fact.Looked op a b kept picked) = true
is_heavy (fact.Ended op end) = true
is_heavy f = false

pub pass-owes : (q : Owed → Bool) → Passes q → (client : Client) (moment : ℕ) (w : ClientState) (f : Fact) → is_heavy f ≡ false → AllPass q (owes client moment w f)
pass-owes q s client moment w (fact.CheckBegan host stream) h = absurd (cc)
pass-owes q s client moment w (fact.Looked op a b kept picked) h = absurd (cc)
pass-owes q s client moment w (fact.Ended op end) h = absurd (cc)
pass-owes q s client moment w (fact.Dialled op host conn (Some stream)) h = absurd (cc)
pass-owes q s client moment w (fact.Dialled op host conn None) h = (s.no_dial op host, tt)
pass-owes q s client moment w (fact.Dropped host) h = (s.shut host, tt)
pass-owes q s client moment w (fact.Offered place event taken) h = pass-offered q s w event
pass-owes q s client moment w (fact.PoolShut host) h = pass-pool q s w (pool_step w (fact.PoolShut host))
pass-owes q s client moment w (fact.CheckEnded host k) h = pass-check q s k (slice_get w.servers host)
pass-owes q s client moment w (fact.Settled op host conn stale) h = pass-pool q s w (pool_step w (fact.Settled op host conn stale))
pass-owes q s client moment w (fact.NotLent op host why) h = (
  s.ended op why,
  pass-append q (pool_owes w (pool_step w (fact.NotLent op host why))) (not_lent_offers (endpoint_at w op) why) (pass-pool q s w (pool_step w (fact.NotLent op host why)))
      (pass-not_lent q s (endpoint_at w op) why),
)
pass-owes q s client moment w (fact.CheckedIn op host conn errored) h = pass-pool q s w (pool_step w (fact.CheckedIn op host conn errored))
pass-owes q s client moment w (fact.Finished op outcome) h = pass-finish q s op (slice_get w.commands op)
pass-owes q s client moment w f h = tt

-- ---- The end of an attempt

-- by which the connection is checked in as failed
abbrev pub is_errored : AttemptEnd → Bool
is_errored (attempt.Replied reading) = false
is_errored attempt.Cut = true
is_errored attempt.Fault = true
is_errored attempt.TimedOut = true
is_errored (attempt.Bad at) = true
is_errored (attempt.Unsent u) = false

-- and by which it is checked in at all
abbrev pub gives_back : AttemptEnd → Bool
gives_back (attempt.Unsent (unsent.TooLarge size most)) = true
gives_back (attempt.Unsent u) = false
gives_back end = true

pub pass-end : (q : Owed → Bool) → Passes q → ((o : ℕ) (e : Bool) → q (owed.CheckedIn o e) ≡ true) → (op : ℕ) (x : Option Endpoint) (end : AttemptEnd) → AllPass q (end_owes op x end)
pass-end q s c op x (attempt.Replied reading) = pass-append q (refused_by reading x) (owed.CheckedIn op false ∷ []) (pass-refused q s reading x) (c op false, tt)
pass-end q s c op x attempt.Cut = pass-append q (broken_by x) (owed.CheckedIn op true ∷ []) (pass-broken q s x) (c op true, tt)
pass-end q s c op x attempt.Fault = pass-append q (broken_by x) (owed.CheckedIn op true ∷ []) (pass-broken q s x) (c op true, tt)
pass-end q s c op x attempt.TimedOut = (c op true, tt)
pass-end q s c op x (attempt.Bad at) = (c op true, tt)
pass-end q s c op x (attempt.Unsent (unsent.TooLarge size most)) = (c op false, tt)
pass-end q s c op x (attempt.Unsent u) = tt

-- its check-in is among what it owes
pub end-gives : (op : ℕ) (x : Option Endpoint) (end : AttemptEnd) → gives_back end ≡ true → IsIn (owed.CheckedIn op (is_errored end)) (end_owes op x end)
end-gives op x (attempt.Replied reading) g = in-back (owed.CheckedIn op false) (refused_by reading x) (owed.CheckedIn op false ∷ []) (inl refl)
end-gives op x attempt.Cut g = in-back (owed.CheckedIn op true) (broken_by x) (owed.CheckedIn op true ∷ []) (inl refl)
end-gives op x attempt.Fault g = in-back (owed.CheckedIn op true) (broken_by x) (owed.CheckedIn op true ∷ []) (inl refl)
end-gives op x attempt.TimedOut g = inl refl
end-gives op x (attempt.Bad at) g = inl refl
end-gives op x (attempt.Unsent (unsent.TooLarge size most)) g = inl refl
end-gives op x (attempt.Unsent u) g = absurd (cc)

-- no other is
abbrev pub is_no_return : Owed → Bool
is_no_return (owed.CheckedIn op errored) = false
is_no_return d = true

pub no-return : Passes is_no_return
no-return = record {
  named = λ a. refl;
  dropped = λ x. refl;
  ready = λ x. refl;
  clear = λ x. refl;
  shut = λ x. refl;
  of_pool = λ x. refl;
  offered = λ e. refl;
  reply = λ a n. refl;
  no_dial = λ o x. refl;
  ended = λ o u. refl;
  returned = λ o. refl;
}

pub record Gives (op k : ℕ) (e : Bool) (end : AttemptEnd) : Type 0 where
  pub own : op ≡ k
  pub so : is_errored end ≡ e
  pub gives : gives_back end ≡ true

returned-is : (op k : ℕ) (b e : Bool) → owed.CheckedIn op b ≡ owed.CheckedIn k e → (op ≡ k) × (b ≡ e)
returned-is op k b e h = ((cc), (cc))

pub not-among : (k : ℕ) (e : Bool) (ds : List Owed) → AllPass is_no_return ds → IsIn (owed.CheckedIn k e) ds → ⊥
not-among k e ds a i = let no : false ≡ true = in-pass is_no_return (owed.CheckedIn k e) ds a i in absurd (cc)

end-of : (op k : ℕ) (b e : Bool) (xs : List Owed) → AllPass is_no_return xs → IsIn (owed.CheckedIn k e) (xs ++ owed.CheckedIn op b ∷ []) → (op ≡ k) × (b ≡ e)
end-of op k b e xs a i = elim (in-append (owed.CheckedIn k e) xs (owed.CheckedIn op b ∷ []) i) [
  | inl j ↦ absurd (not-among k e xs a j)
  | inr j ↦ elim j [
    | inl same ↦ returned-is op k b e same
    | inr none ↦ absurd none
  ]
]

pub end-returns : (op : ℕ) (x : Option Endpoint) (end : AttemptEnd) (k : ℕ) (e : Bool) → IsIn (owed.CheckedIn k e) (end_owes op x end) → Gives op k e end
end-returns op x (attempt.Replied reading) k e i =
    let r = end-of op k false e (refused_by reading x) (pass-refused is_no_return no-return reading x) i in record { own = r.0; so = r.1; gives = refl }
end-returns op x attempt.Cut k e i = let r = end-of op k true e (broken_by x) (pass-broken is_no_return no-return x) i in record { own = r.0; so = r.1; gives = refl }
end-returns op x attempt.Fault k e i = let r = end-of op k true e (broken_by x) (pass-broken is_no_return no-return x) i in record { own = r.0; so = r.1; gives = refl }
end-returns op x attempt.TimedOut k e i = let r = end-of op k true e [] tt i in record { own = r.0; so = r.1; gives = refl }
end-returns op x (attempt.Bad at) k e i = let r = end-of op k true e [] tt i in record { own = r.0; so = r.1; gives = refl }
end-returns op x (attempt.Unsent (unsent.TooLarge size most)) k e i = let r = end-of op k false e [] tt i in record { own = r.0; so = r.1; gives = refl }
end-returns op x (attempt.Unsent u) k e i = absurd i

-- ---- The order

-- a hello and the begin of a check may come behind what was asked for
abbrev pub is_mild : Owed → Bool
is_mild (owed.Hello of stream first) = false
is_mild (owed.Begun host) = false
is_mild d = true

pub mild : Passes is_mild
mild = record {
  named = λ a. refl;
  dropped = λ x. refl;
  ready = λ x. refl;
  clear = λ x. refl;
  shut = λ x. refl;
  of_pool = λ x. refl;
  offered = λ e. refl;
  reply = λ a n. refl;
  no_dial = λ o x. refl;
  ended = λ o u. refl;
  returned = λ o. refl;
}

-- neither of a pool, nor the check-in of a connection
abbrev pub is_unbound : Owed → Bool
is_unbound (owed.OfPool host) = false
is_unbound (owed.CheckedIn op errored) = false
is_unbound d = true

abbrev Either : Bool → Type 0 → Type 0 → Type 0
Either true A B = A
Either false A B = B

abbrev pub AreOrdered : List Owed → Type 0
AreOrdered [] = Unit {0}
AreOrdered (d ∷ ds) = Either (is_mild d) (AreOrdered ds) (AllPass is_unbound ds)

pub ordered-unbound : (ds : List Owed) → AllPass is_unbound ds → AreOrdered ds
ordered-unbound [] h = tt
ordered-unbound (d ∷ ds) h = by (is_mild d) (ordered-unbound ds h.1)
  where
    by : (b : Bool) → AreOrdered ds → Either b (AreOrdered ds) (AllPass is_unbound ds)
    by true o = o
    by false o = h.1

pub ordered-mild : (ds : List Owed) → AllPass is_mild ds → AreOrdered ds
ordered-mild [] h = tt
ordered-mild (d ∷ ds) h = subst (λ b. Either b (AreOrdered ds) (AllPass is_unbound ds)) (sym h.0) (ordered-mild ds h.1)

ordered-append : (xs ys : List Owed) → AllPass is_mild xs → AreOrdered ys → AreOrdered (xs ++ ys)
ordered-append [] ys a o = o
ordered-append (x ∷ xs) ys a o = subst (λ b. Either b (AreOrdered (xs ++ ys)) (AllPass is_unbound (xs ++ ys))) (sym a.0) (ordered-append xs ys a.1 o)

ordered-drop : (ds : List Owed) → AreOrdered ds → AreOrdered (drop 1 ds)
ordered-drop [] o = tt
ordered-drop (d ∷ ds) o = by (is_mild d) o
  where
    by : (b : Bool) → Either b (AreOrdered ds) (AllPass is_unbound ds) → AreOrdered ds
    by true h = h
    by false h = ordered-unbound ds h

-- ---- In turn

turn-is : (d : Owed) (ds : List Owed) (f : Fact) → is_time f ≡ false → InTurn (d ∷ ds) f → IsOwed d f
turn-is d ds (fact.Time stamp) n t = absurd (cc)
turn-is d ds f n t = t

pub left-in : (d : Owed) (ds : List Owed) (f : Fact) → IsIn d (left_owed ds f) → IsIn d ds
left-in d ds (fact.Time stamp) i = i
left-in d ds f i = in-drop d ds i

-- looks and dials stand where nothing must come next
abbrev is_alone : Fact → Bool
is_alone (fact.Looked op a b kept picked) = true
is_alone (fact.Dialled op host conn stream) = true
is_alone f = false

not-owed : (d : Owed) (f : Fact) → is_alone f ≡ true → IsOwed d f → ⊥
not-owed (owed.Named a) (fact.Looked op x y kept picked) q t = t
not-owed (owed.Dropped h) (fact.Looked op x y kept picked) q t = t
not-owed (owed.PoolReady h) (fact.Looked op x y kept picked) q t = t
not-owed (owed.PoolClear h) (fact.Looked op x y kept picked) q t = t
not-owed (owed.PoolShut h) (fact.Looked op x y kept picked) q t = t
not-owed (owed.OfPool h) (fact.Looked op x y kept picked) q t = t
not-owed (owed.Offered e) (fact.Looked op x y kept picked) q t = t
not-owed (owed.Reply a n) (fact.Looked op x y kept picked) q t = t
not-owed (owed.Begun h) (fact.Looked op x y kept picked) q t = t
not-owed (owed.Hello of s first) (fact.Looked op x y kept picked) q t = t
not-owed (owed.NoDial o h) (fact.Looked op x y kept picked) q t = t
not-owed (owed.Ended o u) (fact.Looked op x y kept picked) q t = t
not-owed (owed.CheckedIn o e) (fact.Looked op x y kept picked) q t = t
not-owed (owed.Returned o) (fact.Looked op x y kept picked) q t = t
not-owed (owed.Named a) (fact.Dialled op host conn stream) q t = t
not-owed (owed.Dropped h) (fact.Dialled op host conn stream) q t = t
not-owed (owed.PoolReady h) (fact.Dialled op host conn stream) q t = t
not-owed (owed.PoolClear h) (fact.Dialled op host conn stream) q t = t
not-owed (owed.PoolShut h) (fact.Dialled op host conn stream) q t = t
not-owed (owed.OfPool h) (fact.Dialled op host conn stream) q t = t
not-owed (owed.Offered e) (fact.Dialled op host conn stream) q t = t
not-owed (owed.Reply a n) (fact.Dialled op host conn stream) q t = t
not-owed (owed.Begun h) (fact.Dialled op host conn stream) q t = t
not-owed (owed.Hello of s first) (fact.Dialled op host conn stream) q t = t
not-owed (owed.NoDial o h) (fact.Dialled op host conn stream) q t = t
not-owed (owed.Ended o u) (fact.Dialled op host conn stream) q t = t
not-owed (owed.CheckedIn o e) (fact.Dialled op host conn stream) q t = t
not-owed (owed.Returned o) (fact.Dialled op host conn stream) q t = t
not-owed d f q t = absurd (cc)

alone-time : (f : Fact) → is_alone f ≡ true → is_time f ≡ false
alone-time (fact.Time stamp) q = absurd (cc)
alone-time f q = refl

alone : (ds : List Owed) (f : Fact) → is_alone f ≡ true → InTurn ds f → ds ≡ []
alone [] f q t = refl
alone (d ∷ ds) f q t = absurd (not-owed d f q (turn-is d ds f (alone-time f q) t))

looked-alone : (f : Fact) → is_looked f ≡ true → is_alone f ≡ true
looked-alone (fact.Looked op a b kept picked) q = refl
looked-alone f q = absurd (cc)

pub looked-first : (ds : List Owed) (f : Fact) → is_looked f ≡ true → InTurn ds f → ds ≡ []
looked-first ds f q t = alone ds f (looked-alone f q) t

pub dialled-first : (ds : List Owed) (op host conn : ℕ) (stream : Option ℕ) → InTurn ds (fact.Dialled op host conn stream) → ds ≡ []
dialled-first ds op host conn stream t = alone ds (fact.Dialled op host conn stream) refl t

-- no request is asked ahead of an entry of a pool or a check-in
pub asked-unbound : (ds : List Owed) (place : ℕ) (r : Request) → InTurn ds (fact.Asked place r) → AreOrdered ds → AllPass is_unbound ds
asked-unbound [] place r t o = tt
asked-unbound (owed.Hello of stream first ∷ ds) place r t o = (refl, o)
asked-unbound (owed.Named a ∷ ds) place r t o = absurd t
asked-unbound (owed.Dropped x ∷ ds) place r t o = absurd t
asked-unbound (owed.PoolReady x ∷ ds) place r t o = absurd t
asked-unbound (owed.PoolClear x ∷ ds) place r t o = absurd t
asked-unbound (owed.PoolShut x ∷ ds) place r t o = absurd t
asked-unbound (owed.OfPool x ∷ ds) place r t o = absurd t
asked-unbound (owed.Offered e ∷ ds) place r t o = absurd t
asked-unbound (owed.Reply a n ∷ ds) place r t o = absurd t
asked-unbound (owed.Begun x ∷ ds) place r t o = absurd t
asked-unbound (owed.NoDial o x ∷ ds) place r t a = absurd t
asked-unbound (owed.Ended o u ∷ ds) place r t a = absurd t
asked-unbound (owed.CheckedIn o e ∷ ds) place r t a = absurd t
asked-unbound (owed.Returned o ∷ ds) place r t a = absurd t

-- a check-in comes where it must come next
pub returned-turn : (ds : List Owed) (op host conn : ℕ) (errored : Bool) → InTurn ds (fact.CheckedIn op host conn errored) → IsIn (owed.CheckedIn op errored) ds
returned-turn [] op host conn errored t = absurd t
returned-turn (owed.CheckedIn o e ∷ ds) op host conn errored t = inl (ap (λ n. owed.CheckedIn n e) (sym t.0) ∙ ap (owed.CheckedIn op) (sym t.1))
returned-turn (owed.Named a ∷ ds) op host conn errored t = absurd t
returned-turn (owed.Dropped x ∷ ds) op host conn errored t = absurd t
returned-turn (owed.PoolReady x ∷ ds) op host conn errored t = absurd t
returned-turn (owed.PoolClear x ∷ ds) op host conn errored t = absurd t
returned-turn (owed.PoolShut x ∷ ds) op host conn errored t = absurd t
returned-turn (owed.OfPool x ∷ ds) op host conn errored t = absurd t
returned-turn (owed.Offered e ∷ ds) op host conn errored t = absurd t
returned-turn (owed.Reply a n ∷ ds) op host conn errored t = absurd t
returned-turn (owed.Begun x ∷ ds) op host conn errored t = absurd t
returned-turn (owed.Hello of s first ∷ ds) op host conn errored t = absurd t
returned-turn (owed.NoDial o x ∷ ds) op host conn errored t = absurd t
returned-turn (owed.Ended o u ∷ ds) op host conn errored t = absurd t
returned-turn (owed.Returned o ∷ ds) op host conn errored t = absurd t

-- what is left of the others: an entry takes away at most the one that it is
pub left-keeps : (op : ℕ) (e : Bool) (ds : List Owed) (f : Fact) → InTurn ds f → ((host conn : ℕ) (errored : Bool) → f ≡ fact.CheckedIn op host conn errored → ⊥) →
    IsIn (owed.CheckedIn op e) ds → IsIn (owed.CheckedIn op e) (left_owed ds f)
left-keeps op e ds (fact.Time stamp) t n i = i
left-keeps op e [] f t n i = absurd i
left-keeps op e (d ∷ ds) (fact.CheckedIn k host conn errored) t n (inl same) =
    let own : (k ≡ op) × (errored ≡ e) = subst (λ x. IsOwed x (fact.CheckedIn k host conn errored)) same t in
    absurd (n host conn errored (ap (λ m. fact.CheckedIn m host conn errored) own.0))
left-keeps op e (d ∷ ds) f t n (inl same) = absurd (subst (λ x. IsOwed x f) same t)
left-keeps op e (d ∷ ds) f t n (inr i) = i

-- ---- The order behind an entry

begun-unbound : (n moment : ℕ) (ss : List ServerState) → AllPass is_unbound (due_from n moment ss)
begun-unbound n moment [] = tt
begun-unbound n moment (s ∷ ss) = by (is_due moment s) (begun-unbound (n + 1) moment ss)
  where
    by : (b : Bool) → AllPass is_unbound (due_from (n + 1) moment ss) →
        AllPass is_unbound (if b then owed.Begun n ∷ due_from (n + 1) moment ss else due_from (n + 1) moment ss)
    by true rest = (refl, rest)
    by false rest = rest

look-unbound : (moment : ℕ) (h : LookedHow) (w : ClientState) → AllPass is_unbound (look_owes moment h w)
look-unbound moment looked.NoneFits w = begun-unbound 0 moment (all_asked moment w).servers
look-unbound moment (looked.Chosen host) w = tt
look-unbound moment looked.Failed w = tt
look-unbound moment (looked.Incompatible host) w = tt

begun-rest : (ds : List Owed) (host stream : ℕ) → InTurn ds (fact.CheckBegan host stream) → AreOrdered ds → AllPass is_unbound (drop 1 ds)
begun-rest [] host stream t o = tt
begun-rest (owed.Begun x ∷ ds) host stream t o = o
begun-rest (owed.Hello of s first ∷ ds) host stream t o = absurd t
begun-rest (owed.Named a ∷ ds) host stream t o = absurd t
begun-rest (owed.Dropped x ∷ ds) host stream t o = absurd t
begun-rest (owed.PoolReady x ∷ ds) host stream t o = absurd t
begun-rest (owed.PoolClear x ∷ ds) host stream t o = absurd t
begun-rest (owed.PoolShut x ∷ ds) host stream t o = absurd t
begun-rest (owed.OfPool x ∷ ds) host stream t o = absurd t
begun-rest (owed.Offered e ∷ ds) host stream t o = absurd t
begun-rest (owed.Reply a n ∷ ds) host stream t o = absurd t
begun-rest (owed.NoDial o x ∷ ds) host stream t a = absurd t
begun-rest (owed.Ended o u ∷ ds) host stream t a = absurd t
begun-rest (owed.CheckedIn o e ∷ ds) host stream t a = absurd t
begun-rest (owed.Returned o ∷ ds) host stream t a = absurd t

pub ordered-step : (client : Client) (moment : ℕ) (w : ClientState) (f : Fact) (ds : List Owed) → InTurn ds f → AreOrdered ds →
    AreOrdered (owes client moment w f ++ left_owed ds f)
ordered-step client moment w (fact.Time stamp) ds t o = o
ordered-step client moment w (fact.CheckBegan host stream) ds t o = begun-rest ds host stream t o
ordered-step client moment w (fact.Dialled op host conn (Some stream)) ds t o =
    subst (λ (xs : List Owed). AllPass is_unbound (drop 1 xs)) (sym (dialled-first ds op host conn (Some stream) t)) tt
ordered-step client moment w (fact.Dialled op host conn None) ds t o = ordered-drop ds o
ordered-step client moment w (fact.Looked op a b kept picked) ds t o =
    subst (λ (xs : List Owed). AreOrdered (look_owes moment picked w ++ drop 1 xs)) (sym (looked-first ds (fact.Looked op a b kept picked) refl t))
    (ordered-unbound (look_owes moment picked w ++ []) (pass-append is_unbound (look_owes moment picked w) [] (look-unbound moment picked w) tt))
ordered-step client moment w (fact.Ended op end) ds t o =
    ordered-append (end_owes op (endpoint_at w op) end) (drop 1 ds) (pass-end is_mild mild (λ k e. refl) op (endpoint_at w op) end) (ordered-drop ds o)
ordered-step client moment w f ds t o = ordered-append (owes client moment w f) (drop 1 ds) (pass-owes is_mild mild client moment w f refl) (ordered-drop ds o)

-- a check-in that must come next was so, or an attempt of the command ends
pub data Returning (op : ℕ) (e : Bool) (f : Fact) (ds : List Owed) : Type 0 where
  was : IsIn (owed.CheckedIn op e) ds → Returning op e f ds
  ends : (end : AttemptEnd) → f ≡ fact.Ended op end → is_errored end ≡ e → gives_back end ≡ true → Returning op e f ds

old-return : (op : ℕ) (e : Bool) (f : Fact) (ds xs : List Owed) → AllPass is_no_return xs → IsIn (owed.CheckedIn op e) (xs ++ left_owed ds f) → Returning op e f ds
old-return op e f ds xs a i = elim (in-append (owed.CheckedIn op e) xs (left_owed ds f) i) [
  | inl j ↦ absurd (not-among op e xs a j)
  | inr j ↦ was (left-in (owed.CheckedIn op e) ds f j)
]

begun-no_return : (n moment : ℕ) (ss : List ServerState) → AllPass is_no_return (due_from n moment ss)
begun-no_return n moment [] = tt
begun-no_return n moment (s ∷ ss) = by (is_due moment s) (begun-no_return (n + 1) moment ss)
  where
    by : (b : Bool) → AllPass is_no_return (due_from (n + 1) moment ss) →
        AllPass is_no_return (if b then owed.Begun n ∷ due_from (n + 1) moment ss else due_from (n + 1) moment ss)
    by true rest = (refl, rest)
    by false rest = rest

look-no_return : (moment : ℕ) (h : LookedHow) (w : ClientState) → AllPass is_no_return (look_owes moment h w)
look-no_return moment looked.NoneFits w = begun-no_return 0 moment (all_asked moment w).servers
look-no_return moment (looked.Chosen host) w = tt
look-no_return moment looked.Failed w = tt
look-no_return moment (looked.Incompatible host) w = tt

pub returning : (client : Client) (moment : ℕ) (w : ClientState) (f : Fact) (ds : List Owed) (op : ℕ) (e : Bool) →
    IsIn (owed.CheckedIn op e) (owes client moment w f ++ left_owed ds f) → Returning op e f ds
returning client moment w (fact.CheckBegan host stream) ds op e i = old-return op e (fact.CheckBegan host stream) ds (owes client moment w (fact.CheckBegan host stream)) (refl, tt) i
returning client moment w (fact.Dialled k host conn (Some stream)) ds op e i =
    old-return op e (fact.Dialled k host conn (Some stream)) ds (owes client moment w (fact.Dialled k host conn (Some stream))) (refl, tt) i
returning client moment w (fact.Looked k a b kept picked) ds op e i = old-return op e (fact.Looked k a b kept picked) ds (look_owes moment picked w) (look-no_return moment picked w) i
returning client moment w (fact.Ended k end) ds op e i = elim (in-append (owed.CheckedIn op e) (end_owes k (endpoint_at w k) end) (drop 1 ds) i) [
  | inl j ↦ let g = end-returns k (endpoint_at w k) end op e j in ends end (ap (λ n. fact.Ended n end) g.own) g.so g.gives
  | inr j ↦ was (left-in (owed.CheckedIn op e) ds (fact.Ended k end) j)
]
returning client moment w (fact.Dialled k host conn None) ds op e i =
    old-return op e (fact.Dialled k host conn None) ds (owes client moment w (fact.Dialled k host conn None)) (refl, tt) i
returning client moment w f ds op e i = old-return op e f ds (owes client moment w f) (pass-owes is_no_return no-return client moment w f refl) i

-- ---- A hello that must come next

abbrev is_no_hello : Owed → Bool
is_no_hello (owed.Hello of stream first) = false
is_no_hello d = true

no-hello : Passes is_no_hello
no-hello = record {
  named = λ a. refl;
  dropped = λ x. refl;
  ready = λ x. refl;
  clear = λ x. refl;
  shut = λ x. refl;
  of_pool = λ x. refl;
  offered = λ e. refl;
  reply = λ a n. refl;
  no_dial = λ o x. refl;
  ended = λ o u. refl;
  returned = λ o. refl;
}

-- its stream is so, and no other hello must come
pub record Greets (P : ℕ → Type 0) (ds : List Owed) : Type 0 where
  pub free : (of : Purpose) (stream : ℕ) (first : Bool) (rest : List Owed) → ds ≡ owed.Hello of stream first ∷ rest → P stream
  pub rest : AllPass is_no_hello (drop 1 ds)

pub greets-none : (P : ℕ → Type 0) (ds : List Owed) → AllPass is_no_hello ds → Greets P ds
greets-none P [] n = record { free = λ of stream first rest e. absurd (cc); rest = tt }
greets-none P (d ∷ ds) n = record {
  free = λ of stream first rest e.
      let same : d ≡ owed.Hello of stream first = (cc) in
      let no : true ≡ false = sym n.0 ∙ ap is_no_hello same in
      absurd (cc);
  rest = n.1;
}

pub greets-first : (P : ℕ → Type 0) (of : Purpose) (stream : ℕ) (first : Bool) (ds : List Owed) → P stream → AllPass is_no_hello ds → Greets P (owed.Hello of stream first ∷ ds)
greets-first P of stream first ds p n = record {
  free = λ o s f rest e. let same : stream ≡ s = (cc) in subst P same p;
  rest = n;
}

begun-no_hello : (n moment : ℕ) (ss : List ServerState) → AllPass is_no_hello (due_from n moment ss)
begun-no_hello n moment [] = tt
begun-no_hello n moment (s ∷ ss) = by (is_due moment s) (begun-no_hello (n + 1) moment ss)
  where
    by : (b : Bool) → AllPass is_no_hello (due_from (n + 1) moment ss) →
        AllPass is_no_hello (if b then owed.Begun n ∷ due_from (n + 1) moment ss else due_from (n + 1) moment ss)
    by true rest = (refl, rest)
    by false rest = rest

look-no_hello : (moment : ℕ) (h : LookedHow) (w : ClientState) → AllPass is_no_hello (look_owes moment h w)
look-no_hello moment looked.NoneFits w = begun-no_hello 0 moment (all_asked moment w).servers
look-no_hello moment (looked.Chosen host) w = tt
look-no_hello moment looked.Failed w = tt
look-no_hello moment (looked.Incompatible host) w = tt

greets-behind : (Q : ℕ → Type 0) (ds more : List Owed) → AllPass is_no_hello (drop 1 ds) → AllPass is_no_hello more → Greets Q (more ++ drop 1 ds)
greets-behind Q ds more n m = greets-none Q (more ++ drop 1 ds) (pass-append is_no_hello more (drop 1 ds) m n)

-- where a trail begins, the hosts are to be named
pub named-pass : (q : Owed → Bool) → Passes q → (xs : List Address) → AllPass q (map (λ a. owed.Named a) xs)
named-pass q s xs = pass-map q (λ (a : Address). owed.Named a) xs s.named

pub greets-named : (P : ℕ → Type 0) (xs : List Address) → Greets P (map (λ a. owed.Named a) xs)
greets-named P xs = greets-none P (map (λ a. owed.Named a) xs) (named-pass is_no_hello no-hello xs)

-- behind an entry: of one that begins a check or dials, the stream is so; behind a time all is as it was
pub greets-step : (P Q : ℕ → Type 0) (client : Client) (moment : ℕ) (w : ClientState) (f : Fact) (ds : List Owed) →
    (is_time f ≡ true → (stream : ℕ) → P stream → Q stream) →
    ((host stream : ℕ) → f ≡ fact.CheckBegan host stream → Q stream) →
    ((op host conn stream : ℕ) → f ≡ fact.Dialled op host conn (Some stream) → Q stream) →
    Greets P ds → Greets Q (owes client moment w f ++ left_owed ds f)
greets-step P Q client moment w (fact.Time stamp) ds time check dial g = record {
  free = λ of stream first rest e. time refl stream (g.free of stream first rest e);
  rest = g.rest;
}
greets-step P Q client moment w (fact.CheckBegan host stream) ds time check dial g = greets-first Q _ stream _ (drop 1 ds) (check host stream refl) g.rest
greets-step P Q client moment w (fact.Dialled op host conn (Some stream)) ds time check dial g = greets-first Q _ stream _ (drop 1 ds) (dial op host conn stream refl) g.rest
greets-step P Q client moment w (fact.Dialled op host conn None) ds time check dial g =
    greets-behind Q ds (owes client moment w (fact.Dialled op host conn None)) g.rest (refl, tt)
greets-step P Q client moment w (fact.Looked op a b kept picked) ds time check dial g = greets-behind Q ds (look_owes moment picked w) g.rest (look-no_hello moment picked w)
greets-step P Q client moment w (fact.Ended op end) ds time check dial g =
    greets-behind Q ds (end_owes op (endpoint_at w op) end) g.rest (pass-end is_no_hello no-hello (λ k e. refl) op (endpoint_at w op) end)
greets-step P Q client moment w f ds time check dial g = greets-behind Q ds (owes client moment w f) g.rest (pass-owes is_no_hello no-hello client moment w f refl)

-- a hello is on the stream of the one that must come next
abbrev pub is_greeting_for : Purpose → Bool
is_greeting_for (purpose.Check host) = true
is_greeting_for (purpose.Greeting host conn) = true
is_greeting_for p = false

unasked : (place : ℕ) (r : Request) (p : Purpose) → r.purpose ≡ p → is_greeting_for p ≡ true → InTurn [] (fact.Asked place r) → ⊥
unasked place r (purpose.Check host) e q t = subst owed.MayAsk e t
unasked place r (purpose.Greeting host conn) e q t = subst owed.MayAsk e t
unasked place r (purpose.Command op) e q t = absurd (cc)
unasked place r purpose.Farewell e q t = absurd (cc)

pub hello-stream : (P : ℕ → Type 0) (ds : List Owed) (place : ℕ) (r : Request) → is_greeting_for r.purpose ≡ true → InTurn ds (fact.Asked place r) → Greets P ds → P r.stream
hello-stream P [] place r q t g = absurd (unasked place r r.purpose refl q t)
hello-stream P (owed.Hello of stream first ∷ ds) place r q t g = subst P (sym t.on) (g.free of stream first ds refl)
hello-stream P (owed.Named a ∷ ds) place r q t g = absurd t
hello-stream P (owed.Dropped x ∷ ds) place r q t g = absurd t
hello-stream P (owed.PoolReady x ∷ ds) place r q t g = absurd t
hello-stream P (owed.PoolClear x ∷ ds) place r q t g = absurd t
hello-stream P (owed.PoolShut x ∷ ds) place r q t g = absurd t
hello-stream P (owed.OfPool x ∷ ds) place r q t g = absurd t
hello-stream P (owed.Offered e ∷ ds) place r q t g = absurd t
hello-stream P (owed.Reply a s ∷ ds) place r q t g = absurd t
hello-stream P (owed.Begun x ∷ ds) place r q t g = absurd t
hello-stream P (owed.NoDial o x ∷ ds) place r q t g = absurd t
hello-stream P (owed.Ended o u ∷ ds) place r q t g = absurd t
hello-stream P (owed.CheckedIn o e ∷ ds) place r q t g = absurd t
hello-stream P (owed.Returned o ∷ ds) place r q t g = absurd t
