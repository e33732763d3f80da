-- What the entries so far say of a pool is what it shows.
use Rattle.std.proofs.Common.{◌≡◌, ℕ, zero, suc, ◌+◌, ◌-◌, ◌≤◌, Bool, true, false, not, cond, eqb, List, [], ◌∷◌, ◌++◌, length, take, map, Option, Some, None, refl, sym, ap, ◌∙◌, arith}
use Rattle.std.specs.Prelude.{slice_get, option_to_list}
use Rattle.std.specs.Option.{option_map}
use Rattle.std.specs.List.{filter, find}
use Rattle.std.proofs.lemmas.Bool.{eqb-true, eq-eqb}
use Rattle.std.proofs.lemmas.List.{append-nil}
use Rattle.wait_line.specs.Queue.{without_number}
use Rattle.pool_book.specs.declared.rules.PoolRules.{PoolRules}
use Rattle.pool_book.specs.declared.state.PoolState.{PoolState}
use Rattle.pool_book.specs.declared.state.PoolState.TheVariants as state_of
use Rattle.pool_book.specs.declared.ticket.Ticket.{Ticket}
use Rattle.pool_book.specs.declared.connections.Held.{Held}
use Rattle.pool_book.specs.declared.connections.Available.{Available}
use Rattle.pool_book.specs.declared.answers.CloseReason.{CloseReason}
use Rattle.pool_book.specs.declared.answers.CloseReason.TheVariants.{PoolClosed}
use Rattle.pool_book.specs.Pool.{Pool, fresh_pool, is_closed, is_paused, numbers_of, held_of, last_of, is_kept, shut_reason}
use Rattle.pool_book.specs.Entries.{PoolEntry, Ready, Clear, Shut, Entered, Left, Lent, Dialled, Settled, NotLent, CheckedIn, ConnShut, Closed, Cleared, Late, Lost, MayStand, after, owes, owes_shut, cleared_state, ticket_for, lend, returned}
use Rattle.entry_judge.specs.declared.timed.Timed.{Timed}
use Rattle.entry_judge.specs.Judge.{Legal, state_after}
use Rattle.entry_judge.specs.Groups.{Stands, ComesNext, Place, next_place, nothing_owed, entries_of}
use Rattle.entry_judge.specs.GroupLaws.{IsTrail-front, IsTrail-rest}
use Rattle.entry_judge.specs.InvariantLaws.{Keeps, Keeps-legal, KeepsOwed, KeepsOwed-legal, Reads, Reads-legal, Reads-trail}
use Rattle.pool_book.specs.Judge.{pool_judge, IsTrail, place_behind, entries_and_owed}
use Rattle.pool_book.specs.Sound.{Sound, times, times_held, times_available, times_waiting}
use Rattle.pool_book.specs.Readings.{generation_by, state_by, waiting_by, pending_by, available_by, lent_by, Pair, conns_of, pairs_of, free_of}
use Rattle.pool_book.proofs.ListLemmas.{find-passes, numbers_of-without_ticket}
use Rattle.pool_book.proofs.TimesLemmas.{times-found, filter-times_none}
use Rattle.pool_book.proofs.SoundLemmas.{Sound-keeps, Sound-fresh, last_of-Some}

-- what g reads off the entries is what f shows of the pool
abbrev pub ReadsAs : {X : Type 0} → (Pool → X) → (X → PoolEntry → X) → Type 0
ReadsAs f g = Reads pool_judge Sound (λ p x. x ≡ f p) g

reads_as : {X : Type 0} (f : Pool → X) (g : X → PoolEntry → X) →
    ((p : Pool) (moment : ℕ) (e : PoolEntry) → Sound p → MayStand p moment e → state_after g (g (f p) e) (owes p e) ≡ f (after p moment e)) → ReadsAs f g
reads_as f g each = record { keeps = Sound-keeps; each = λ p moment e x s r m. rw r (each p moment e s m) }

pub ReadsAs-legal : {X : Type 0} (f : Pool → X) (g : X → PoolEntry → X) → ReadsAs f g → (rules : PoolRules) (ts : List (Timed PoolEntry)) → IsTrail rules ts →
    state_after g (state_after g (f (fresh_pool rules)) (entries_of ts)) (place_behind rules ts).owed ≡ f (place_behind rules ts).state
ReadsAs-legal f g h rules ts l = Reads-legal pool_judge Sound (λ p x. x ≡ f p) g h (fresh_pool rules) [] ts (f (fresh_pool rules)) (Sound-fresh rules) refl l

pub ReadsAs-trail : {X : Type 0} (f : Pool → X) (g : X → PoolEntry → X) → ReadsAs f g → (rules : PoolRules) (ts : List (Timed PoolEntry)) → IsTrail rules ts →
    state_after g (f (fresh_pool rules)) (entries_and_owed rules ts) ≡ f (place_behind rules ts).state
ReadsAs-trail f g h rules ts l = Reads-trail pool_judge Sound (λ p x. x ≡ f p) g h (fresh_pool rules) ts (f (fresh_pool rules)) (Sound-fresh rules) refl l

-- what does not speak of connections that are shut says nothing of those that must be
pub read-shuts : {X : Type 0} (g : X → PoolEntry → X) (x : X) (xs : List Available) → ((y : X) (c : ℕ) (r : CloseReason) → g y (ConnShut c r) ≡ y) →
    state_after g x (map (λ a. ConnShut a.conn PoolClosed) xs) ≡ x
read-shuts g x [] h = refl
read-shuts g x (a ∷ xs) h =
    ap (λ y. state_after g y (map (λ a. ConnShut a.conn PoolClosed) xs)) (h x a.conn PoolClosed) ∙ read-shuts g x xs h

pub read-owes_shut : {X : Type 0} (g : X → PoolEntry → X) (x : X) (p : Pool) (errored : Bool) (o : Option Held) → ((y : X) (c : ℕ) (r : CloseReason) → g y (ConnShut c r) ≡ y) →
    state_after g x (owes_shut p errored o) ≡ x
read-owes_shut g x p errored None h = refl
read-owes_shut g x p errored (Some k) h =
    elim (is_kept p errored k) as (λ b. state_after g x (cond b [] (ConnShut k.conn (shut_reason p.state errored) ∷ [])) ≡ x) [ true ↦ refl | false ↦ h x k.conn (shut_reason p.state errored) ]

pub ReadsAs-generation_by : ReadsAs (λ p. p.generation) generation_by
ReadsAs-generation_by = reads_as _ _ each where
  each : (p : Pool) (moment : ℕ) (e : PoolEntry) → Sound p → MayStand p moment e → state_after generation_by (generation_by p.generation e) (owes p e) ≡ (after p moment e).generation
  each p moment Ready s m = refl
  each p moment Clear s m = refl
  each p moment Shut s m = read-shuts generation_by p.generation p.available (λ y c r. refl)
  each p moment (Entered number) s m = refl
  each p moment (Left number) s m = refl
  each p moment (Lent number conn) s m = refl
  each p moment (Dialled number conn) s m = refl
  each p moment (Settled number conn true) s m = refl
  each p moment (Settled number conn false) s m = refl
  each p moment (NotLent number Closed) s m = refl
  each p moment (NotLent number (Cleared g)) s m = refl
  each p moment (NotLent number Late) s m = refl
  each p moment (NotLent number (Lost conn)) s m = refl
  each p moment (CheckedIn number conn errored) s m = read-owes_shut generation_by p.generation p errored (held_of conn p.lent) (λ y c r. refl)
  each p moment (ConnShut conn reason) s m = refl

-- the state
state_by-Ready : (s : PoolState) → is_paused s ≡ true → cond (is_closed s) state_of.Closed state_of.Ready ≡ state_of.Ready
state_by-Ready state_of.Paused e = refl
state_by-Ready state_of.Ready e = refl
state_by-Ready state_of.Closed e = absurd (cc)

state_by-Clear : (s : PoolState) → cond (is_closed s) state_of.Closed state_of.Paused ≡ cleared_state s
state_by-Clear state_of.Paused = refl
state_by-Clear state_of.Ready = refl
state_by-Clear state_of.Closed = refl

pub ReadsAs-state_by : ReadsAs (λ p. p.state) state_by
ReadsAs-state_by = reads_as _ _ each where
  each : (p : Pool) (moment : ℕ) (e : PoolEntry) → Sound p → MayStand p moment e → state_after state_by (state_by p.state e) (owes p e) ≡ (after p moment e).state
  each p moment Ready s m = state_by-Ready p.state m
  each p moment Clear s m = state_by-Clear p.state
  each p moment Shut s m = read-shuts state_by state_of.Closed p.available (λ y c r. refl)
  each p moment (Entered number) s m = refl
  each p moment (Left number) s m = refl
  each p moment (Lent number conn) s m = refl
  each p moment (Dialled number conn) s m = refl
  each p moment (Settled number conn true) s m = refl
  each p moment (Settled number conn false) s m = refl
  each p moment (NotLent number Closed) s m = refl
  each p moment (NotLent number (Cleared g)) s m = refl
  each p moment (NotLent number Late) s m = refl
  each p moment (NotLent number (Lost conn)) s m = refl
  each p moment (CheckedIn number conn errored) s m = read-owes_shut state_by p.state p errored (held_of conn p.lent) (λ y c r. refl)
  each p moment (ConnShut conn reason) s m = refl

-- lists of numbers behind a change of what they are the numbers of
map-push : {X Y : Type 0} (f : X → Y) (xs : List X) (x : X) → map f (xs ++ x ∷ []) ≡ map f xs ++ f x ∷ []
map-push f [] x = refl
map-push f (y ∷ ys) x = ap (λ zs. f y ∷ zs) (map-push f ys x)

map-without : {X : Type 0} (key : X → ℕ) (k : ℕ) (xs : List X) → map key (filter (λ x. not (eqb (key x) k)) xs) ≡ without_number k (map key xs)
map-without key k [] = refl
map-without key k (x ∷ xs) =
    elim (eqb (key x) k) as (λ b. map key (cond (not b) (x ∷ filter (λ y. not (eqb (key y) k)) xs) (filter (λ y. not (eqb (key y) k)) xs)) ≡ cond (not b) (key x ∷ without_number k (map key xs)) (without_number k (map key xs))) [
      | true ↦ map-without key k xs
      | false ↦ ap (λ zs. key x ∷ zs) (map-without key k xs)
    ]

-- where none has the number, it takes nothing out
without-absent : {X : Type 0} (key : X → ℕ) (k : ℕ) (xs : List X) → times (λ x. eqb (key x) k) xs ≡ 0 → without_number k (map key xs) ≡ map key xs
without-absent key k xs none =
    sym (map-without key k xs) ∙ ap (λ ys. map key ys) (filter-times_none (λ x. eqb (key x) k) xs none)

-- what is found has other numbers too
pub times-found_by : {X : Type 0} (p q : X → Bool) (xs : List X) (x : X) → find p xs ≡ Some x → q x ≡ true → 1 ≤ times q xs
times-found_by p q [] x e t = absurd (cc)
times-found_by p q (y ∷ ys) x e t =
    elim (p y) as (λ b. cond b (Some y) (find p ys) ≡ Some x → 1 ≤ times q (y ∷ ys)) [
      | true ↦ λ found. let same : y ≡ x = cc in rw (same, t) (omega arith)
      | false ↦ λ found. let rest = times-found_by p q ys x found t in omega arith
    ] e

-- a ticket that dials does not wait
not_waiting : (p : Pool) (number conn : ℕ) (h : Held) → Sound p → held_of conn p.pending ≡ Some h → number ≡ h.ticket → times_waiting number p.waiting ≡ 0
not_waiting p number conn h s e n =
    let dials = times-found_by (λ (x : Held). eqb x.conn conn) (λ (x : Held). eqb x.ticket number) p.pending h e (eq-eqb _ _ (sym n)) in
    omega (arith, s.one_place number)

pub ReadsAs-waiting_by : ReadsAs (λ p. numbers_of p.waiting) waiting_by
ReadsAs-waiting_by = reads_as _ _ each where
  each : (p : Pool) (moment : ℕ) (e : PoolEntry) → Sound p → MayStand p moment e → state_after waiting_by (waiting_by (numbers_of p.waiting) e) (owes p e) ≡ numbers_of (after p moment e).waiting
  each p moment Ready s m = refl
  each p moment Clear s m = refl
  each p moment Shut s m = read-shuts waiting_by (numbers_of p.waiting) p.available (λ y c r. refl)
  each p moment (Entered number) s m = rw m (sym (map-push (λ (t : Ticket). t.number) p.waiting (ticket_for p moment)))
  each p moment (Left number) s m = sym (numbers_of-without_ticket number p.waiting)
  each p moment (Lent number conn) s m = sym (numbers_of-without_ticket number p.waiting)
  each p moment (Dialled number conn) s m = sym (numbers_of-without_ticket number p.waiting)
  each p moment (Settled number conn true) s m = without-absent (λ (t : Ticket). t.number) number p.waiting (not_waiting p number conn m.0 s m.1 m.2)
  each p moment (Settled number conn false) s m = without-absent (λ (t : Ticket). t.number) number p.waiting (not_waiting p number conn m.0 s m.1 m.2)
  each p moment (NotLent number Closed) s m = sym (numbers_of-without_ticket number p.waiting)
  each p moment (NotLent number (Cleared g)) s m = sym (numbers_of-without_ticket number p.waiting)
  each p moment (NotLent number Late) s m = sym (numbers_of-without_ticket number p.waiting)
  each p moment (NotLent number (Lost conn)) s m = without-absent (λ (t : Ticket). t.number) number p.waiting (not_waiting p number conn m.0 s m.1 m.2)
  each p moment (CheckedIn number conn errored) s m = read-owes_shut waiting_by (numbers_of p.waiting) p errored (held_of conn p.lent) (λ y c r. refl)
  each p moment (ConnShut conn reason) s m = refl

-- a connection that is checked in and not kept must be shut
read-owes_shut_of : {X : Type 0} (g : X → PoolEntry → X) (x y : X) (p : Pool) (errored : Bool) (o : Option Held) (h : Held) → o ≡ Some h →
    (is_kept p errored h ≡ true → x ≡ y) → (is_kept p errored h ≡ false → g x (ConnShut h.conn (shut_reason p.state errored)) ≡ y) →
    state_after g x (owes_shut p errored o) ≡ y
read-owes_shut_of g x y p errored o h e kept shut =
    rw e (elim (is_kept p errored h) as (λ b. is_kept p errored h ≡ b → state_after g x (cond b [] (ConnShut h.conn (shut_reason p.state errored) ∷ [])) ≡ y) [ true ↦ kept | false ↦ shut ] refl)

-- the number of a connection that is found
conn-found : (conn : ℕ) (hs : List Held) (h : Held) → held_of conn hs ≡ Some h → h.conn ≡ conn
conn-found conn hs h e = eqb-true _ _ (find-passes (λ (x : Held). eqb x.conn conn) hs h e)

pub times-at : {X : Type 0} (q : X → Bool) (xs : List X) (k : ℕ) (x : X) → slice_get xs k ≡ Some x → q x ≡ true → 1 ≤ times q xs
times-at q [] k x e t = absurd (cc)
times-at q (y ∷ ys) zero x e t = let same : y ≡ x = cc in rw (same, t) (omega arith)
times-at q (y ∷ ys) (suc k) x e t = let rest = times-at q ys k x e t in omega arith

-- a number is taken out once
without-twice : (k : ℕ) (ns : List ℕ) → without_number k (without_number k ns) ≡ without_number k ns
without-twice k [] = refl
without-twice k (n ∷ ns) =
    elim (eqb n k) as (λ b. eqb n k ≡ b → without_number k (cond (not b) (n ∷ without_number k ns) (without_number k ns)) ≡ cond (not b) (n ∷ without_number k ns) (without_number k ns)) [
      | true ↦ λ _. without-twice k ns
      | false ↦ λ e. rw e (ap (λ ms. n ∷ ms) (without-twice k ns))
    ] refl

-- what must be shut as the pool is closed is not among others
read-shuts_pends : (xs : List Available) (hs : List Held) → ((k : ℕ) → 1 ≤ times_available k xs → times_held k hs ≡ 0) →
    state_after pending_by (conns_of hs) (map (λ a. ConnShut a.conn PoolClosed) xs) ≡ conns_of hs
read-shuts_pends [] hs h = refl
read-shuts_pends (a ∷ xs) hs h =
    let here : 1 ≤ times_available a.conn (a ∷ xs) = times-at (λ (x : Available). eqb x.conn a.conn) (a ∷ xs) 0 a refl (eq-eqb _ _ refl) in
    ap (λ ns. state_after pending_by ns (map (λ b. ConnShut b.conn PoolClosed) xs)) (without-absent (λ (x : Held). x.conn) a.conn hs (h a.conn here))
    ∙ read-shuts_pends xs hs (λ k l. h k (omega arith))

-- a pending connection is neither lent nor available, and so on
only_pending : (p : Pool) (conn : ℕ) (h : Held) → Sound p → held_of conn p.pending ≡ Some h → times_available conn p.available ≡ 0
only_pending p conn h s e =
    let there = times-found (λ (x : Held). eqb x.conn conn) p.pending h e in omega (arith, s.once conn)

only_lent : (p : Pool) (conn : ℕ) (h : Held) → Sound p → held_of conn p.lent ≡ Some h → (times_held conn p.pending ≡ 0) × (times_available conn p.available ≡ 0)
only_lent p conn h s e =
    let there = times-found (λ (x : Held). eqb x.conn conn) p.lent h e in
    (omega (arith, s.once conn), omega (arith, s.once conn))

only_available : (p : Pool) (conn k : ℕ) (a : Available) → Sound p → slice_get p.available k ≡ Some a → conn ≡ a.conn → times_held conn p.pending ≡ 0
only_available p conn k a s e n =
    let there = times-at (λ (x : Available). eqb x.conn conn) p.available k a e (eq-eqb _ _ (sym n)) in omega (arith, s.once conn)

pub ReadsAs-pending_by : ReadsAs (λ p. conns_of p.pending) pending_by
ReadsAs-pending_by = reads_as _ _ each where
  each : (p : Pool) (moment : ℕ) (e : PoolEntry) → Sound p → MayStand p moment e → state_after pending_by (pending_by (conns_of p.pending) e) (owes p e) ≡ conns_of (after p moment e).pending
  each p moment Ready s m = refl
  each p moment Clear s m = refl
  each p moment Shut s m = read-shuts_pends p.available p.pending (λ k l. omega (arith, s.once k))
  each p moment (Entered number) s m = refl
  each p moment (Left number) s m = refl
  each p moment (Lent number conn) s m = refl
  each p moment (Dialled number conn) s m = sym (map-push (λ (h : Held). h.conn) p.pending (record { conn = conn; ticket = number; generation = p.generation }))
  each p moment (Settled number conn true) s m = without-twice conn (conns_of p.pending) ∙ sym (map-without (λ (h : Held). h.conn) conn p.pending)
  each p moment (Settled number conn false) s m = sym (map-without (λ (h : Held). h.conn) conn p.pending)
  each p moment (NotLent number Closed) s m = refl
  each p moment (NotLent number (Cleared g)) s m = refl
  each p moment (NotLent number Late) s m = refl
  each p moment (NotLent number (Lost conn)) s m = sym (map-without (λ (h : Held). h.conn) conn p.pending)
  each p moment (CheckedIn number conn errored) s m =
      read-owes_shut_of pending_by (conns_of p.pending) (conns_of p.pending) p errored (held_of conn p.lent) m.0 m.1 (λ _. refl)
      (λ _. without-absent (λ (h : Held). h.conn) m.0.conn p.pending (rw (conn-found conn p.lent m.0 m.1) (only_lent p conn m.0 s m.1).0))
  each p moment (ConnShut conn reason) s m = without-absent (λ (h : Held). h.conn) conn p.pending (only_available p conn m.1 m.0 s m.2 m.4)

map-filter : {X Y : Type 0} (f : X → Y) (q : Y → Bool) (xs : List X) → map f (filter (λ x. q (f x)) xs) ≡ filter q (map f xs)
map-filter f q [] = refl
map-filter f q (x ∷ xs) =
    elim (q (f x)) as (λ b. map f (cond b (x ∷ filter (λ y. q (f y)) xs) (filter (λ y. q (f y)) xs)) ≡ cond b (f x ∷ filter q (map f xs)) (filter q (map f xs))) [
      | true ↦ ap (λ zs. f x ∷ zs) (map-filter f q xs)
      | false ↦ map-filter f q xs
    ]

pub last-conn : (o : Option Available) (a : Available) (conn : ℕ) → o ≡ Some a → option_map (λ (x : Available). x.conn) o ≡ Some conn → a.conn ≡ conn
last-conn None a conn e f = absurd (cc)
last-conn (Some b) a conn e f = cc

pairs-lent_of : (number conn : ℕ) (o : Option Available) (a : Available) (hs : List Held) → o ≡ Some a → a.conn ≡ conn →
    pairs_of hs ++ record { ticket = number; conn = conn } ∷ [] ≡ pairs_of (hs ++ lend number o)
pairs-lent_of number conn o a hs e n =
    rw (e, ← n) (sym (map-push (λ (h : Held). record { ticket = h.ticket; conn = h.conn }) hs (record { conn = a.conn; ticket = number; generation = a.generation })))

pairs-lent : (number conn : ℕ) (xs : List Available) (hs : List Held) → option_map (λ (x : Available). x.conn) (last_of xs) ≡ Some conn →
    pairs_of hs ++ record { ticket = number; conn = conn } ∷ [] ≡ pairs_of (hs ++ lend number (last_of xs))
pairs-lent number conn xs hs e =
    let last = last_of-Some (last_of xs) conn e in
    pairs-lent_of number conn (last_of xs) last.0 hs last.1 (last-conn _ _ _ last.1 e)

pairs-settled : (number conn : ℕ) (ps hs : List Held) (h : Held) → held_of conn ps ≡ Some h → number ≡ h.ticket →
    pairs_of hs ++ record { ticket = number; conn = conn } ∷ [] ≡ pairs_of (hs ++ option_to_list (held_of conn ps))
pairs-settled number conn ps hs h e n =
    rw (e, n, ← conn-found conn ps h e) (sym (map-push (λ (x : Held). record { ticket = x.ticket; conn = x.conn }) hs h))

pub ReadsAs-lent_by : ReadsAs (λ p. pairs_of p.lent) lent_by
ReadsAs-lent_by = reads_as _ _ each where
  each : (p : Pool) (moment : ℕ) (e : PoolEntry) → Sound p → MayStand p moment e → state_after lent_by (lent_by (pairs_of p.lent) e) (owes p e) ≡ pairs_of (after p moment e).lent
  each p moment Ready s m = refl
  each p moment Clear s m = refl
  each p moment Shut s m = read-shuts lent_by (pairs_of p.lent) p.available (λ y c r. refl)
  each p moment (Entered number) s m = refl
  each p moment (Left number) s m = refl
  each p moment (Lent number conn) s m = pairs-lent number conn p.available p.lent m.3
  each p moment (Dialled number conn) s m = refl
  each p moment (Settled number conn true) s m = refl
  each p moment (Settled number conn false) s m = pairs-settled number conn p.pending p.lent m.0 m.1 m.2
  each p moment (NotLent number Closed) s m = refl
  each p moment (NotLent number (Cleared g)) s m = refl
  each p moment (NotLent number Late) s m = refl
  each p moment (NotLent number (Lost conn)) s m = refl
  each p moment (CheckedIn number conn errored) s m =
      read-owes_shut lent_by _ p errored (held_of conn p.lent) (λ y c r. refl) ∙ sym (map-filter (λ (h : Held). record { ticket = h.ticket; conn = h.conn }) (λ (q : Pair). not (eqb q.conn conn)) p.lent)
  each p moment (ConnShut conn reason) s m = refl

-- the last one taken out by its number, where it stands once
filter-last_at : (n : ℕ) (xs : List Available) (a : Available) (conn : ℕ) → length xs ≡ suc n → slice_get xs n ≡ Some a → a.conn ≡ conn →
    times_available conn xs ≤ 1 → without_number conn (free_of xs) ≡ free_of (take n xs)
filter-last_at n [] a conn l e c m = absurd (omega arith)
filter-last_at zero (y ∷ []) a conn l e c m =
    let same : eqb y.conn conn ≡ true = let k : y ≡ a = cc in rw k (eq-eqb _ _ c) in rw same refl
filter-last_at zero (y ∷ z ∷ zs) a conn l e c m = absurd (omega arith)
filter-last_at (suc n) (y ∷ ys) a conn l e c m =
    let there : 1 ≤ times_available conn ys = times-at (λ (x : Available). eqb x.conn conn) ys n a e (eq-eqb _ _ c) in
    elim (eqb y.conn conn) as (λ b. cond b 1 0 + times_available conn ys ≤ 1 → cond (not b) (y.conn ∷ without_number conn (free_of ys)) (without_number conn (free_of ys)) ≡ y.conn ∷ free_of (take n ys)) [
      | true ↦ λ most. absurd (omega arith)
      | false ↦ λ most. let rest : times_available conn ys ≤ 1 = omega arith in ap (λ ns. y.conn ∷ ns) (filter-last_at n ys a conn (omega arith) e c rest)
    ] m

filter-last : (xs : List Available) (a : Available) (conn : ℕ) → last_of xs ≡ Some a → a.conn ≡ conn →
    times_available conn xs ≤ 1 → without_number conn (free_of xs) ≡ free_of (take (length xs - 1) xs)
filter-last [] a conn e c m = refl
filter-last (y ∷ ys) a conn e c m =
    let same : length (y ∷ ys) - 1 ≡ length ys = omega arith in
    rw same (filter-last_at (length ys) (y ∷ ys) a conn refl (rw same at e) c m)

-- each available connection is shut as the pool is closed
read-shuts_frees : (xs : List Available) → ((k : ℕ) → times_available k xs ≤ 1) →
    state_after available_by (free_of xs) (map (λ a. ConnShut a.conn PoolClosed) xs) ≡ []
read-shuts_frees [] h = refl
read-shuts_frees (a ∷ xs) h =
    let same = eq-eqb a.conn a.conn refl in
    let here : cond (eqb a.conn a.conn) 1 0 + times_available a.conn xs ≤ 1 = h a.conn in
    let one : 1 + times_available a.conn xs ≤ 1 = rw same at here in
    let shut : without_number a.conn (free_of (a ∷ xs)) ≡ free_of xs = rw same (without-absent (λ (x : Available). x.conn) a.conn xs (omega (arith, one))) in
    ap (λ ns. state_after available_by ns (map (λ b. ConnShut b.conn PoolClosed) xs)) shut
    ∙ read-shuts_frees xs (λ k. let most : cond (eqb a.conn k) 1 0 + times_available k xs ≤ 1 = h k in omega (arith, most))

without-pushed : (k : ℕ) (ns : List ℕ) → without_number k (ns ++ k ∷ []) ≡ without_number k ns
without-pushed k [] = rw (eq-eqb k k refl) refl
without-pushed k (n ∷ ns) =
    elim (eqb n k) as (λ b. cond (not b) (n ∷ without_number k (ns ++ k ∷ [])) (without_number k (ns ++ k ∷ [])) ≡ cond (not b) (n ∷ without_number k ns) (without_number k ns)) [
      | true ↦ without-pushed k ns
      | false ↦ ap (λ ms. n ∷ ms) (without-pushed k ns)
    ]

-- a connection that comes back is available where it is kept
available_by-checked_in : (p : Pool) (moment conn : ℕ) (errored : Bool) (h : Held) → held_of conn p.lent ≡ Some h → times_available conn p.available ≡ 0 →
    state_after available_by (free_of p.available ++ conn ∷ []) (owes_shut p errored (held_of conn p.lent)) ≡ free_of (p.available ++ returned p moment errored (held_of conn p.lent))
available_by-checked_in p moment conn errored h e none =
    let number = conn-found conn p.lent h e in
    let back : Available = record { conn = h.conn; generation = h.generation; since = moment } in
    rw e (elim (is_kept p errored h) as (λ b. state_after available_by (free_of p.available ++ conn ∷ []) (cond b [] (ConnShut h.conn (shut_reason p.state errored) ∷ [])) ≡ free_of (p.available ++ cond b (back ∷ []) [])) [
      | true ↦ rw (← number) (sym (map-push (λ (a : Available). a.conn) p.available back))
      | false ↦ rw (number, append-nil) (without-pushed conn (free_of p.available) ∙ without-absent (λ (a : Available). a.conn) conn p.available none)
    ])

pub ReadsAs-available_by : ReadsAs (λ p. free_of p.available) available_by
ReadsAs-available_by = reads_as _ _ each where
  each : (p : Pool) (moment : ℕ) (e : PoolEntry) → Sound p → MayStand p moment e → state_after available_by (available_by (free_of p.available) e) (owes p e) ≡ free_of (after p moment e).available
  each p moment Ready s m = refl
  each p moment Clear s m = refl
  each p moment Shut s m = read-shuts_frees p.available (λ k. omega (arith, s.once k))
  each p moment (Entered number) s m = refl
  each p moment (Left number) s m = refl
  each p moment (Lent number conn) s m =
      let last = last_of-Some (last_of p.available) conn m.3 in
      filter-last p.available last.0 conn last.1 (last-conn _ _ _ last.1 m.3) (omega (arith, s.once conn))
  each p moment (Dialled number conn) s m = refl
  each p moment (Settled number conn true) s m = without-absent (λ (a : Available). a.conn) conn p.available (only_pending p conn m.0 s m.1)
  each p moment (Settled number conn false) s m = without-absent (λ (a : Available). a.conn) conn p.available (only_pending p conn m.0 s m.1)
  each p moment (NotLent number Closed) s m = refl
  each p moment (NotLent number (Cleared g)) s m = refl
  each p moment (NotLent number Late) s m = refl
  each p moment (NotLent number (Lost conn)) s m = without-absent (λ (a : Available). a.conn) conn p.available (only_pending p conn m.0 s m.1)
  each p moment (CheckedIn number conn errored) s m = available_by-checked_in p moment conn errored m.0 m.1 (only_lent p conn m.0 s m.1).1
  each p moment (ConnShut conn reason) s m = sym (map-without (λ (a : Available). a.conn) conn p.available)
