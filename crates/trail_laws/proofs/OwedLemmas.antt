-- What must come next, as far as hosts are to be named and dropped.
use Rattle.std.proofs.Common.{◌≡◌, ◌⊎◌, inl, inr, ℕ, ◌+◌, Bool, true, false, List, [], ◌∷◌, ◌++◌, map, drop, Option, None, Some, is_some, refl, sym, ap, ◌∙◌, subst}
use Rattle.std.specs.Prelude.{slice_get, if◌then◌else◌}
use Rattle.cmd_outcome.specs.declared.reading.Reading.{Reading}
use Rattle.cmd_outcome.specs.declared.reading.StateChange.{StateChange}
use Rattle.host_name.specs.Addresses.{Address}
use Rattle.pool_book.specs.Entries.{PoolEntry, owes as pool_entry_owes}
use Rattle.pool_book.specs.Pool.{Pool}
use Rattle.write_retry.specs.declared.attempt_end.AttemptEnd.{AttemptEnd}
use Rattle.write_retry.specs.declared.attempt_end.AttemptEnd.TheVariants as attempt
use Rattle.write_retry.specs.declared.events.Unsent.{Unsent}
use Rattle.write_retry.specs.declared.events.Unsent.TheVariants as unsent
use Rattle.topo_rules.specs.declared.event.TopoEvent.{TopoEvent}
use Rattle.desk_trail.specs.declared.entry.CheckHow.{CheckHow}
use Rattle.desk_trail.specs.declared.entry.CheckHow.TheVariants as how
use Rattle.desk_trail.specs.declared.entry.LookedHow.{LookedHow}
use Rattle.desk_trail.specs.declared.entry.LookedHow.TheVariants as looked
use Rattle.desk_trail.specs.Attempts.{Endpoint, broken_by, end_owes, endpoint_at, finish_owes, not_lent_offers, offer_where, refused_by, refused_with}
use Rattle.desk_trail.specs.Checks.{all_asked, due_from, is_due, offered_of}
use Rattle.desk_trail.specs.Clients.{Client}
use Rattle.desk_trail.specs.Facts.{Fact}
use Rattle.desk_trail.specs.Facts as fact
use Rattle.desk_trail.specs.Legal.{dial_owes, owes}
use Rattle.desk_trail.specs.Looks.{look_owes}
use Rattle.desk_trail.specs.Owed.{InTurn, IsOwed, Owed, left_owed}
use Rattle.desk_trail.specs.Owed as owed
use Rattle.desk_trail.specs.Pools.{OfHost, owed_in, owed_of, pool_owes, pool_step}
use Rattle.desk_trail.specs.States.{ClientState, CommandState, ServerState}

-- ---- What is among what must come next

abbrev pub IsIn : Owed → List Owed → Type 0
IsIn d [] = ⊥
IsIn d (e ∷ es) = (e ≡ d) ⊎ IsIn d es

pub in-left : (d : Owed) (xs ys : List Owed) → IsIn d xs → IsIn d (xs ++ ys)
in-left d [] ys h = absurd h
in-left d (x ∷ xs) ys (inl e) = inl e
in-left d (x ∷ xs) ys (inr h) = inr (in-left d xs ys h)

pub in-right : (d : Owed) (xs ys : List Owed) → IsIn d ys → IsIn d (xs ++ ys)
in-right d [] ys h = h
in-right d (x ∷ xs) ys h = inr (in-right d xs ys h)

pub in-split : (d : Owed) (xs ys : List Owed) → IsIn d (xs ++ ys) → IsIn d xs ⊎ IsIn d ys
in-split d [] ys h = inr h
in-split d (x ∷ xs) ys (inl e) = inl (inl e)
in-split d (x ∷ xs) ys (inr h) = elim (in-split d xs ys h) [ inl l ↦ inl (inr l) | inr r ↦ inr r ]

-- a host is to be named or dropped
abbrev pub is_naming : Owed → Bool
is_naming (owed.Named a) = true
is_naming (owed.Dropped x) = true
is_naming d = false

-- or an attempt is to end
abbrev pub is_rare : Owed → Bool
is_rare (owed.Named a) = true
is_rare (owed.Dropped x) = true
is_rare (owed.Ended op why) = true
is_rare d = false

naming-of : (d : Owed) → is_rare d ≡ false → is_naming d ≡ false
naming-of (owed.Named a) h = h
naming-of (owed.Dropped x) h = h
naming-of d h = refl

-- none of these is any of that
abbrev pub AreOther : List Owed → Type 0
AreOther ds = (d : Owed) → IsIn d ds → is_rare d ≡ false

pub other-nil : AreOther []
other-nil d h = absurd h

pub other-cons : (e : Owed) (es : List Owed) → is_rare e ≡ false → AreOther es → AreOther (e ∷ es)
other-cons e es n h d (inl same) = ap is_rare (sym same) ∙ n
other-cons e es n h d (inr i) = h d i

pub other-append : (xs ys : List Owed) → AreOther xs → AreOther ys → AreOther (xs ++ ys)
other-append xs ys a b d h = elim (in-split d xs ys h) [ inl l ↦ a d l | inr r ↦ b d r ]

-- ---- What the other entries owe

other-pool_in : (host : ℕ) (es : List PoolEntry) → AreOther (map (λ (e : PoolEntry). owed.OfPool host) es)
other-pool_in host [] = other-nil
other-pool_in host (e ∷ es) = other-cons (owed.OfPool host) (map (λ (e : PoolEntry). owed.OfPool host) es) refl (other-pool_in host es)

other-owed_in : (host : ℕ) (ds : List PoolEntry) (p : Pool) (e : PoolEntry) → AreOther (owed_in host ds p e)
other-owed_in host [] p e = other-pool_in host (pool_entry_owes p e)
other-owed_in host (d ∷ ds) p e = other-nil

other-owed_of : (host : ℕ) (o : Option ServerState) (e : PoolEntry) → AreOther (owed_of host o e)
other-owed_of host None e = other-nil
other-owed_of host (Some s) e = other-owed_in host s.pool.owed s.pool.state e

other-pool : (w : ClientState) (o : Option OfHost) → AreOther (pool_owes w o)
other-pool w None = other-nil
other-pool w (Some e) = other-owed_of e.0 (slice_get w.servers e.0) e.1

other-offered : (h : CheckHow) (o : Option ServerState) → AreOther (offered_of h o)
other-offered h None = other-nil
other-offered (how.Reply sample) (Some s) = other-cons (owed.Reply s.address sample) [] refl other-nil
other-offered h (Some s) = other-cons (owed.Offered _) [] refl other-nil

other-due : (n moment : ℕ) (ss : List ServerState) → AreOther (due_from n moment ss)
other-due n moment [] = other-nil
other-due n moment (s ∷ ss) = by (is_due moment s) (other-due (n + 1) moment ss)
  where
    by : (b : Bool) → AreOther (due_from (n + 1) moment ss) → AreOther (if b then owed.Begun n ∷ due_from (n + 1) moment ss else due_from (n + 1) moment ss)
    by true rest = other-cons (owed.Begun n) (due_from (n + 1) moment ss) refl rest
    by false rest = rest

other-look : (moment : ℕ) (h : LookedHow) (w : ClientState) → AreOther (look_owes moment h w)
other-look moment looked.NoneFits w = other-due 0 moment (all_asked moment w).servers
other-look moment (looked.Chosen host) w = other-nil
other-look moment looked.Failed w = other-nil
other-look moment (looked.Incompatible host) w = other-nil

other-dial : (op host conn : ℕ) (o : Option ℕ) → AreOther (dial_owes op host conn o)
other-dial op host conn None = other-cons (owed.NoDial op host) [] refl other-nil
other-dial op host conn (Some stream) = other-cons (owed.Hello _ stream true) [] refl other-nil

other-where : (s : Endpoint) (e : TopoEvent) → AreOther (offer_where s e)
other-where s e = by s.server.has_left
  where
    by : (b : Bool) → AreOther (if b then [] else owed.Offered e ∷ [])
    by true = other-nil
    by false = other-cons (owed.Offered e) [] refl other-nil

other-broken : (o : Option Endpoint) → AreOther (broken_by o)
other-broken None = other-nil
other-broken (Some s) = other-where s _

other-with : (reading : Reading) (o : Option StateChange) (s : Endpoint) → AreOther (refused_with reading o s)
other-with reading None s = other-nil
other-with reading (Some change) s = other-where s _

other-refused : (reading : Reading) (o : Option Endpoint) → AreOther (refused_by reading o)
other-refused reading None = other-nil
other-refused reading (Some s) = other-with reading reading.state s

other-not_lent : (o : Option Endpoint) (u : Unsent) → AreOther (not_lent_offers o u)
other-not_lent o (unsent.Dial false) = other-broken o
other-not_lent o (unsent.Dial true) = other-nil
other-not_lent o (unsent.Greeting code) = other-broken o
other-not_lent o u = other-nil

one : (op : ℕ) (errored : Bool) → AreOther (owed.CheckedIn op errored ∷ [])
one op errored = other-cons (owed.CheckedIn op errored) [] refl other-nil

other-end : (op : ℕ) (s : Option Endpoint) (end : AttemptEnd) → AreOther (end_owes op s end)
other-end op s (attempt.Replied reading) = other-append (refused_by reading s) (owed.CheckedIn op false ∷ []) (other-refused reading s) (one op false)
other-end op s attempt.Cut = other-append (broken_by s) (owed.CheckedIn op true ∷ []) (other-broken s) (one op true)
other-end op s attempt.Fault = other-append (broken_by s) (owed.CheckedIn op true ∷ []) (other-broken s) (one op true)
other-end op s attempt.TimedOut = one op true
other-end op s (attempt.Bad at) = one op true
other-end op s (attempt.Unsent (unsent.TooLarge size most)) = one op false
other-end op s (attempt.Unsent u) = other-nil

other-finish : (op : ℕ) (o : Option CommandState) → AreOther (finish_owes op o)
other-finish op None = other-nil
other-finish op (Some c) = by (is_some c.session)
  where
    by : (b : Bool) → AreOther (if b then owed.Returned op ∷ [] else [])
    by true = other-cons (owed.Returned op) [] refl other-nil
    by false = other-nil

-- entries but those that name a host, drop one, offer an event, or tell a cluster time
abbrev pub is_plain : Fact → Bool
is_plain (fact.Named host address) = false
is_plain (fact.Dropped host) = false
is_plain (fact.Offered place event taken) = false
is_plain (fact.Time stamp) = false
is_plain f = true

-- those that end no attempt either
abbrev pub is_calm : Fact → Bool
is_calm (fact.NotLent op host why) = false
is_calm f = is_plain f

pub other-owes : (client : Client) (moment : ℕ) (w : ClientState) (f : Fact) → is_calm f ≡ true → AreOther (owes client moment w f)
other-owes client moment w (fact.Named host address) q = absurd (cc)
other-owes client moment w (fact.Dropped host) q = absurd (cc)
other-owes client moment w (fact.Offered place event taken) q = absurd (cc)
other-owes client moment w (fact.Time stamp) q = absurd (cc)
other-owes client moment w (fact.PoolShut host) q = other-pool w (pool_step w (fact.PoolShut host))
other-owes client moment w (fact.CheckBegan host stream) q = other-cons (owed.Hello _ stream _) [] refl other-nil
other-owes client moment w (fact.CheckEnded host h) q = other-offered h (slice_get w.servers host)
other-owes client moment w (fact.Looked op a b kept picked) q = other-look moment picked w
other-owes client moment w (fact.Dialled op host conn stream) q = other-dial op host conn stream
other-owes client moment w (fact.Settled op host conn stale) q = other-pool w (pool_step w (fact.Settled op host conn stale))
other-owes client moment w (fact.NotLent op host why) q = absurd (cc)
other-owes client moment w (fact.CheckedIn op host conn errored) q = other-pool w (pool_step w (fact.CheckedIn op host conn errored))
other-owes client moment w (fact.Ended op end) q = other-end op (endpoint_at w op) end
other-owes client moment w (fact.Finished op outcome) q = other-finish op (slice_get w.commands op)
other-owes client moment w f q = other-nil

-- a command that gets no connection: its attempt ends, and what else it owes
pub other-refused_op : (w : ClientState) (op host : ℕ) (why : Unsent) →
    AreOther (pool_owes w (pool_step w (fact.NotLent op host why)) ++ not_lent_offers (endpoint_at w op) why)
other-refused_op w op host why =
    other-append (pool_owes w (pool_step w (fact.NotLent op host why))) (not_lent_offers (endpoint_at w op) why) (other-pool w (pool_step w (fact.NotLent op host why)))
    (other-not_lent (endpoint_at w op) why)

-- none of what a plain entry owes names or drops a host
owes-naming : (client : Client) (moment : ℕ) (w : ClientState) (f : Fact) → is_plain f ≡ true → (d : Owed) → IsIn d (owes client moment w f) → is_naming d ≡ false
owes-naming client moment w (fact.NotLent op host why) q d (inl same) = ap is_naming (sym same)
owes-naming client moment w (fact.NotLent op host why) q d (inr i) = naming-of d (other-refused_op w op host why d i)
owes-naming client moment w f q d i = naming-of d (other-owes client moment w f q d i)

-- ---- What they pay

paid-by_name : (a : Address) (f : Fact) → is_plain f ≡ true → IsOwed (owed.Named a) f → ⊥
paid-by_name a (fact.Named host address) q h = absurd (cc)
paid-by_name a f q h = h

paid-by_drop : (x : ℕ) (f : Fact) → is_plain f ≡ true → IsOwed (owed.Dropped x) f → ⊥
paid-by_drop x (fact.Dropped host) q h = absurd (cc)
paid-by_drop x f q h = h

plain-turn : (d : Owed) (ds : List Owed) (f : Fact) → is_plain f ≡ true → InTurn (d ∷ ds) f → IsOwed d f
plain-turn d ds (fact.Time stamp) q h = absurd (cc)
plain-turn d ds f q h = h

plain-left : (ds : List Owed) (f : Fact) → is_plain f ≡ true → left_owed ds f ≡ drop 1 ds
plain-left ds (fact.Time stamp) q = absurd (cc)
plain-left ds f q = refl

-- a host that is to be named is to be named still
named-still : (a : Address) (os : List Owed) (f : Fact) → is_plain f ≡ true → InTurn os f → IsIn (owed.Named a) os → IsIn (owed.Named a) (drop 1 os)
named-still a [] f q turn h = absurd h
named-still a (d ∷ ds) f q turn (inl e) = absurd (paid-by_name a f q (subst (λ x. IsOwed x f) e (plain-turn d ds f q turn)))
named-still a (d ∷ ds) f q turn (inr h) = h

pub in-drop : (d : Owed) (os : List Owed) → IsIn d (drop 1 os) → IsIn d os
in-drop d [] h = absurd h
in-drop d (o ∷ os) h = inr h

pub named-behind : (client : Client) (moment : ℕ) (w : ClientState) (a : Address) (os : List Owed) (f : Fact) → is_plain f ≡ true → InTurn os f → IsIn (owed.Named a) os →
    IsIn (owed.Named a) (owes client moment w f ++ left_owed os f)
named-behind client moment w a os f q turn h =
    in-right (owed.Named a) (owes client moment w f) (left_owed os f) (subst (IsIn (owed.Named a)) (sym (plain-left os f q)) (named-still a os f q turn h))

-- none is to be dropped that was not
pub dropped-ahead : (client : Client) (moment : ℕ) (w : ClientState) (x : ℕ) (os : List Owed) (f : Fact) → is_plain f ≡ true →
    IsIn (owed.Dropped x) (owes client moment w f ++ left_owed os f) → IsIn (owed.Dropped x) os
dropped-ahead client moment w x os f q h = elim (in-split (owed.Dropped x) (owes client moment w f) (left_owed os f) h) [
  | inl l ↦ let no : true ≡ false = owes-naming client moment w f q (owed.Dropped x) l in absurd (cc)
  | inr r ↦ in-drop (owed.Dropped x) os (subst (IsIn (owed.Dropped x)) (plain-left os f q) r)
]

-- ---- Attempts that are to end

-- what was left of it was there
pub paid-left : (d : Owed) (os : List Owed) (f : Fact) → IsIn d (left_owed os f) → IsIn d os
paid-left d os (fact.Time stamp) h = h
paid-left d os f h = in-drop d os h
