-- What an entry of a pool leaves of who waits, dials and has a connection there.
use Rattle.std.proofs.Common.{◌≡◌, ◌≤◌, ℕ, ◌+◌, Bool, true, false, not, ◌||◌, cond, eqb, List, [], ◌∷◌, ◌++◌, map, Option, None, Some, refl, sym, ap, ◌∙◌, subst, arith, ◌⊎◌, inl, inr}
use Rattle.std.specs.Prelude.{option_to_list}
use Rattle.std.specs.Bool.{◌==◌}
use Rattle.std.specs.List.{filter, find, list_any}
use Rattle.std.specs.Option.{option_map}
use Rattle.std.proofs.lemmas.Bool.{eqb-true, eq-eqb}
use Rattle.std.proofs.lemmas.Bool.Decides.{eqb_tells}
use Rattle.entry_judge.specs.Groups.{Place, Stands, place_by}
use Rattle.pool_book.specs.declared.answers.CloseReason.TheVariants.{PoolClosed}
use Rattle.pool_book.specs.declared.connections.Available.{Available}
use Rattle.pool_book.specs.declared.connections.Held.{Held}
use Rattle.pool_book.specs.declared.ticket.Ticket.{Ticket}
use Rattle.pool_book.specs.Entries.{PoolEntry, Ready, Clear, Shut, Entered, Left, Lent, Dialled, Settled, NotLent, CheckedIn, ConnShut, Closed, Cleared, Late, Lost, MayStand, after, lend, owes, owes_shut, ticket_for}
use Rattle.pool_book.specs.Judge.{pool_judge}
use Rattle.pool_book.specs.Pool.{Pool, held_of, is_kept, last_of, shut_reason, ticket_of, without_held, without_ticket}
use Rattle.pool_book.specs.Sound.{times, times_held, times_of}
use Rattle.desk_trail.specs.Holds.{IsHeldBy}

-- ---- What is found in a list

find-passes : {X : Type 0} (p : X → Bool) (xs : List X) (x : X) → find p xs ≡ Some x → p x ≡ true
find-passes p [] x e = absurd (cc)
find-passes p (y ∷ ys) x e =
    elim (p y) as (λ b. p y ≡ b → cond b (Some y) (find p ys) ≡ Some x → p x ≡ true) [
      | true ↦ λ passes found. let same : y ≡ x = cc in rw (← same) passes
      | false ↦ λ _ found. find-passes p ys x found
    ] refl e

find-append : {X : Type 0} (p : X → Bool) (xs ys : List X) (x : X) → find p xs ≡ Some x → find p (xs ++ ys) ≡ Some x
find-append p [] ys x e = absurd (cc)
find-append p (z ∷ zs) ys x e =
    elim (p z) as (λ b. cond b (Some z) (find p zs) ≡ Some x → cond b (Some z) (find p (zs ++ ys)) ≡ Some x) [
      | true ↦ λ k. k
      | false ↦ λ k. find-append p zs ys x k
    ] e

-- one more that passes: some one is found
find-more : {X : Type 0} (p : X → Bool) (xs : List X) (y : X) → p y ≡ true → (x : X) × (find p (xs ++ y ∷ []) ≡ Some x)
find-more p [] y e = rw e (y, refl)
find-more p (z ∷ zs) y e =
    elim (p z) as (λ b. (x : _) × (cond b (Some z) (find p (zs ++ y ∷ [])) ≡ Some x)) [
      | true ↦ (z, refl)
      | false ↦ find-more p zs y e
    ]

times-more : {X : Type 0} (p : X → Bool) (xs : List X) (y : X) → p y ≡ true → times p (xs ++ y ∷ []) ≡ times p xs + 1
times-more p [] y e = rw e refl
times-more p (z ∷ zs) y e = omega (arith, times-more p zs y e)

-- and it alone, where none passed before
find-only : {X : Type 0} (p : X → Bool) (xs : List X) (y : X) → p y ≡ true → times p xs ≡ 0 → find p (xs ++ y ∷ []) ≡ Some y
find-only p [] y e h = rw e refl
find-only p (z ∷ zs) y e h =
    elim (p z) as (λ b. cond b 1 0 + times p zs ≡ 0 → cond b (Some z) (find p (zs ++ y ∷ [])) ≡ Some y) [
      | true ↦ λ k. absurd (omega arith)
      | false ↦ λ k. find-only p zs y e (omega arith)
    ] h

find-without : {X : Type 0} (key : X → ℕ) (m n : ℕ) (xs : List X) → eqb m n ≡ false →
    find (λ x. eqb (key x) n) (filter (λ x. not (eqb (key x) m)) xs) ≡ find (λ x. eqb (key x) n) xs
find-without key m n [] h = refl
find-without key m n (x ∷ xs) h = elim (eqb_tells (key x) m) [
  | inl w ↦ let no : eqb (key x) n ≡ false = ap (λ k. eqb k n) w.1 ∙ h in rw (w.0, no) (find-without key m n xs h)
  | inr w ↦ rw w.0 (elim (eqb (key x) n) as (λ b. cond b (Some x) (find (λ a. eqb (key a) n) (filter (λ a. not (eqb (key a) m)) xs)) ≡ cond b (Some x) (find (λ a. eqb (key a) n) xs)) [
    | true ↦ refl
    | false ↦ find-without key m n xs h
  ])
]

not-same : (m n : ℕ) → eqb m n ≡ false → m ≡ n → ⊥
not-same m n h e = let t : eqb m n ≡ true = eq-eqb m n e in absurd (let wrong : false ≡ true = sym h ∙ t in cc)

-- ---- What a pool holds

held-append : (hs more : List Held) (conn ticket : ℕ) → IsHeldBy hs conn ticket → IsHeldBy (hs ++ more) conn ticket
held-append hs more conn ticket h = record { held = h.held; found = find-append (λ x. x.conn == conn) hs more h.held h.found; by = h.by }

held-without : (hs : List Held) (other conn ticket : ℕ) → eqb other conn ≡ false → IsHeldBy hs conn ticket → IsHeldBy (without_held other hs) conn ticket
held-without hs other conn ticket n h = record { held = h.held; found = find-without (λ (x : Held). x.conn) other conn hs n ∙ h.found; by = h.by }

held-new : (hs : List Held) (new : Held) (conn ticket : ℕ) → times_held conn (hs ++ new ∷ []) ≤ 1 → new.conn ≡ conn → new.ticket ≡ ticket →
    IsHeldBy (hs ++ new ∷ []) conn ticket
held-new hs new conn ticket once e by =
    let p = λ (x : Held). x.conn == conn in
    let passes : eqb new.conn conn ≡ true = eq-eqb new.conn conn e in
    let more = times-more p hs new passes in
    let none : times_held conn hs ≡ 0 = omega arith in
    record { held = new; found = find-only p hs new passes none; by = by }

-- the holder of a connection is one
same-holder : (hs : List Held) (conn other ticket number : ℕ) (h : Held) → IsHeldBy hs conn ticket → held_of other hs ≡ Some h → number ≡ h.ticket → other ≡ conn → number ≡ ticket
same-holder hs conn other ticket number h i found e same =
    let at : held_of conn hs ≡ Some h = subst (λ c. held_of c hs ≡ Some h) same found in
    let one : h ≡ i.held = let f = i.found in cc in
    e ∙ ap (λ (x : Held). x.ticket) one ∙ i.by

-- ---- What must come next of a pool

abbrev pub OkOne : Pool → PoolEntry → Type 0
OkOne p (Lent number conn) = IsHeldBy p.lent conn number
OkOne p (NotLent number why) = Unit {0}
OkOne p (ConnShut conn reason) = Unit {0}
OkOne p e = ⊥

abbrev pub AllOk : Pool → List PoolEntry → Type 0
AllOk p [] = Unit {0}
AllOk p (d ∷ ds) = OkOne p d × AllOk p ds

ok-shut : (p : Pool) (xs : List Available) → AllOk p (map (λ a. ConnShut a.conn PoolClosed) xs)
ok-shut p [] = tt
ok-shut p (x ∷ xs) = (tt, ok-shut p xs)

ok-owes_shut : (p q : Pool) (errored : Bool) (o : Option Held) → AllOk q (owes_shut p errored o)
ok-owes_shut p q errored None = tt
ok-owes_shut p q errored (Some h) =
    elim (is_kept p errored h) as (λ b. AllOk q (cond b [] (ConnShut h.conn (shut_reason p.state errored) ∷ []))) [ true ↦ tt | false ↦ (tt, tt) ]

abbrev pub IsOnce : Pool → Type 0
IsOnce p = (conn : ℕ) → times_of p conn ≤ 1

settled-held : (lent : List Held) (conn number : ℕ) (o : Option Held) (h : Held) → o ≡ Some h → h.conn ≡ conn → number ≡ h.ticket →
    times_held conn (lent ++ option_to_list o) ≤ 1 → IsHeldBy (lent ++ option_to_list o) conn number
settled-held lent conn number None h e c n once = absurd (cc)
settled-held lent conn number (Some x) h e c n once =
    let same : x ≡ h = cc in
    held-new lent x conn number once (ap (λ (y : Held). y.conn) same ∙ c) (ap (λ (y : Held). y.ticket) same ∙ sym n)

pub held-conn : (hs : List Held) (conn : ℕ) (h : Held) → held_of conn hs ≡ Some h → h.conn ≡ conn
held-conn hs conn h e = eqb-true h.conn conn (find-passes (λ x. x.conn == conn) hs h e)

ok-owes : (p : Pool) (moment : ℕ) (e : PoolEntry) → MayStand p moment e → IsOnce (after p moment e) → AllOk (after p moment e) (owes p e)
ok-owes p moment Ready m once = tt
ok-owes p moment Clear m once = tt
ok-owes p moment Shut m once = ok-shut (after p moment Shut) p.available
ok-owes p moment (Entered number) m once = tt
ok-owes p moment (Left number) m once = tt
ok-owes p moment (Lent number conn) m once = tt
ok-owes p moment (Dialled number conn) m once = tt
ok-owes p moment (Settled number conn true) m once = (tt, (tt, tt))
ok-owes p moment (Settled number conn false) (h, found, by, stale) once =
    (settled-held p.lent conn number (held_of conn p.pending) h found (held-conn p.pending conn h found) by (let o = once conn in omega arith), tt)
ok-owes p moment (NotLent number (Lost conn)) m once = (tt, tt)
ok-owes p moment (NotLent number Closed) m once = tt
ok-owes p moment (NotLent number (Cleared g)) m once = tt
ok-owes p moment (NotLent number Late) m once = tt
ok-owes p moment (CheckedIn number conn errored) m once = ok-owes_shut p (after p moment (CheckedIn number conn errored)) errored (held_of conn p.lent)
ok-owes p moment (ConnShut conn reason) m once = tt

-- the place behind an entry
abbrev pub behind : Pool → List PoolEntry → ℕ → PoolEntry → Place Pool PoolEntry
behind s owed moment e = place_by pool_judge s owed (record { at = moment; what = e })

abbrev pub StandsIn : Pool → List PoolEntry → ℕ → PoolEntry → Type 0
StandsIn s owed moment e = Stands pool_judge (record { state = s; owed = owed }) (record { at = moment; what = e })

pub ok-behind : (s : Pool) (owed : List PoolEntry) (moment : ℕ) (e : PoolEntry) → StandsIn s owed moment e → AllOk s owed → IsOnce (behind s owed moment e).state →
    AllOk (behind s owed moment e).state (behind s owed moment e).owed
ok-behind s [] moment e m ok once = ok-owes s moment e m once
ok-behind s (d ∷ ds) moment e m ok once = ok.1

-- ---- Who waits

abbrev pub IsWaiting : Pool → ℕ → Type 0
IsWaiting p ticket = (t : Ticket) × (ticket_of ticket p.waiting ≡ Some t)

abbrev pub takes : ℕ → PoolEntry → Bool
takes ticket (Left number) = number == ticket
takes ticket (Lent number conn) = number == ticket
takes ticket (Dialled number conn) = number == ticket
takes ticket (NotLent number why) = number == ticket
takes ticket e = false

waits-without : (ts : List Ticket) (number ticket : ℕ) → eqb number ticket ≡ false → (t : Ticket) → ticket_of ticket ts ≡ Some t → ticket_of ticket (without_ticket number ts) ≡ Some t
waits-without ts number ticket n t e = find-without (λ (x : Ticket). x.number) number ticket ts n ∙ e

waits-after : (s : Pool) (moment : ℕ) (e : PoolEntry) (ticket : ℕ) → takes ticket e ≡ false → IsWaiting s ticket → IsWaiting (after s moment e) ticket
waits-after s moment Ready ticket n (t, h) = (t, h)
waits-after s moment Clear ticket n (t, h) = (t, h)
waits-after s moment Shut ticket n (t, h) = (t, h)
waits-after s moment (Entered number) ticket n (t, h) = (t, find-append (λ x. x.number == ticket) s.waiting (ticket_for s moment ∷ []) t h)
waits-after s moment (Left number) ticket n (t, h) = (t, waits-without s.waiting number ticket n t h)
waits-after s moment (Lent number conn) ticket n (t, h) = (t, waits-without s.waiting number ticket n t h)
waits-after s moment (Dialled number conn) ticket n (t, h) = (t, waits-without s.waiting number ticket n t h)
waits-after s moment (Settled number conn true) ticket n (t, h) = (t, h)
waits-after s moment (Settled number conn false) ticket n (t, h) = (t, h)
waits-after s moment (NotLent number (Lost conn)) ticket n (t, h) = (t, h)
waits-after s moment (NotLent number Closed) ticket n (t, h) = (t, waits-without s.waiting number ticket n t h)
waits-after s moment (NotLent number (Cleared g)) ticket n (t, h) = (t, waits-without s.waiting number ticket n t h)
waits-after s moment (NotLent number Late) ticket n (t, h) = (t, waits-without s.waiting number ticket n t h)
waits-after s moment (CheckedIn number conn errored) ticket n (t, h) = (t, h)
waits-after s moment (ConnShut conn reason) ticket n (t, h) = (t, h)

pub waits-behind : (s : Pool) (owed : List PoolEntry) (moment : ℕ) (e : PoolEntry) (ticket : ℕ) → takes ticket e ≡ false →
    IsWaiting s ticket → IsWaiting (behind s owed moment e).state ticket
waits-behind s [] moment e ticket n h = waits-after s moment e ticket n h
waits-behind s (d ∷ ds) moment e ticket n h = h

-- ---- Who dials

abbrev pub pays : ℕ → PoolEntry → Bool
pays ticket (Lent number conn) = number == ticket
pays ticket (NotLent number why) = number == ticket
pays ticket e = false

-- the connection is pending; or it settled, and is to be lent, or told as not lent
abbrev pub IsDialling : Pool → List PoolEntry → ℕ → ℕ → Type 0
IsDialling p owed conn ticket = IsHeldBy p.pending conn ticket ⊎ (list_any (pays ticket) owed ≡ true)

dials-settled : (s : Pool) (owed : List PoolEntry) (other conn ticket number : ℕ) → IsHeldBy s.pending conn ticket → (h : Held) → held_of other s.pending ≡ Some h → number ≡ h.ticket →
    (number ≡ ticket → list_any (pays ticket) owed ≡ true) → (lent : List Held) →
    IsHeldBy (without_held other s.pending) conn ticket ⊎ (list_any (pays ticket) owed ≡ true)
dials-settled s owed other conn ticket number i h found by paid lent = elim (eqb_tells other conn) [
  | inl w ↦ inr (paid (same-holder s.pending conn other ticket number h i found by w.1))
  | inr w ↦ inl (held-without s.pending other conn ticket w.0 i)
]

dials-after : (s : Pool) (moment : ℕ) (e : PoolEntry) (conn ticket : ℕ) → MayStand s moment e → pays ticket e ≡ false → IsHeldBy s.pending conn ticket →
    IsDialling (after s moment e) (owes s e) conn ticket
dials-after s moment Ready conn ticket m n i = inl i
dials-after s moment Clear conn ticket m n i = inl i
dials-after s moment Shut conn ticket m n i = inl i
dials-after s moment (Entered number) conn ticket m n i = inl i
dials-after s moment (Left number) conn ticket m n i = inl i
dials-after s moment (Lent number c) conn ticket m n i = inl i
dials-after s moment (Dialled number c) conn ticket m n i = inl (held-append s.pending _ conn ticket i)
dials-after s moment (Settled number c true) conn ticket (h, found, by, stale) n i =
    dials-settled s (owes s (Settled number c true)) c conn ticket number i h found by (λ e. rw (eq-eqb number ticket e) refl) []
dials-after s moment (Settled number c false) conn ticket (h, found, by, stale) n i =
    dials-settled s (owes s (Settled number c false)) c conn ticket number i h found by (λ e. rw (eq-eqb number ticket e) refl) []
dials-after s moment (NotLent number (Lost c)) conn ticket (h, found, by) n i =
    dials-settled s (owes s (NotLent number (Lost c))) c conn ticket number i h found by (λ e. absurd (not-same number ticket n e)) []
dials-after s moment (NotLent number Closed) conn ticket m n i = inl i
dials-after s moment (NotLent number (Cleared g)) conn ticket m n i = inl i
dials-after s moment (NotLent number Late) conn ticket m n i = inl i
dials-after s moment (CheckedIn number c errored) conn ticket m n i = inl i
dials-after s moment (ConnShut c reason) conn ticket m n i = inl i

or-rest : (a b : Bool) → (a || b) ≡ true → a ≡ false → b ≡ true
or-rest true b h e = absurd (cc)
or-rest false b h e = h

pub dials-behind : (s : Pool) (owed : List PoolEntry) (moment : ℕ) (e : PoolEntry) (conn ticket : ℕ) → StandsIn s owed moment e → pays ticket e ≡ false →
    IsDialling s owed conn ticket → IsDialling (behind s owed moment e).state (behind s owed moment e).owed conn ticket
dials-behind s [] moment e conn ticket m n i = elim i [ inl w ↦ dials-after s moment e conn ticket m n w | inr w ↦ absurd (cc) ]
dials-behind s (d ∷ ds) moment e conn ticket m n i = elim i [
  | inl w ↦ inl w
  | inr w ↦ inr (or-rest (pays ticket d) (list_any (pays ticket) ds) w (sym (ap (pays ticket) m) ∙ n))
]

-- ---- Who has a connection

abbrev pub gives : ℕ → PoolEntry → Bool
gives ticket (CheckedIn number conn errored) = number == ticket
gives ticket e = false

has-after : (s : Pool) (moment : ℕ) (e : PoolEntry) (conn ticket : ℕ) → MayStand s moment e → gives ticket e ≡ false → IsHeldBy s.lent conn ticket →
    IsHeldBy (after s moment e).lent conn ticket
has-after s moment Ready conn ticket m n i = i
has-after s moment Clear conn ticket m n i = i
has-after s moment Shut conn ticket m n i = i
has-after s moment (Entered number) conn ticket m n i = i
has-after s moment (Left number) conn ticket m n i = i
has-after s moment (Lent number c) conn ticket m n i = held-append s.lent _ conn ticket i
has-after s moment (Dialled number c) conn ticket m n i = i
has-after s moment (Settled number c true) conn ticket m n i = i
has-after s moment (Settled number c false) conn ticket m n i = held-append s.lent _ conn ticket i
has-after s moment (NotLent number (Lost c)) conn ticket m n i = i
has-after s moment (NotLent number Closed) conn ticket m n i = i
has-after s moment (NotLent number (Cleared g)) conn ticket m n i = i
has-after s moment (NotLent number Late) conn ticket m n i = i
has-after s moment (CheckedIn number c errored) conn ticket (h, found, by) n i = elim (eqb_tells c conn) [
  | inl w ↦ absurd (not-same number ticket n (same-holder s.lent conn c ticket number h i found by w.1))
  | inr w ↦ held-without s.lent c conn ticket w.0 i
]
has-after s moment (ConnShut c reason) conn ticket m n i = i

pub has-behind : (s : Pool) (owed : List PoolEntry) (moment : ℕ) (e : PoolEntry) (conn ticket : ℕ) → StandsIn s owed moment e → gives ticket e ≡ false →
    IsHeldBy s.lent conn ticket → IsHeldBy (behind s owed moment e).state.lent conn ticket
has-behind s [] moment e conn ticket m n i = has-after s moment e conn ticket m n i
has-behind s (d ∷ ds) moment e conn ticket m n i = i

-- ---- The one of whom the entry is

lend-held : (lent : List Held) (number conn : ℕ) (o : Option Available) → option_map (λ (a : Available). a.conn) o ≡ Some conn → times_held conn (lent ++ lend number o) ≤ 1 →
    IsHeldBy (lent ++ lend number o) conn number
lend-held lent number conn None e once = absurd (cc)
lend-held lent number conn (Some a) e once =
    let same : a.conn ≡ conn = cc in held-new lent (record { conn = a.conn; ticket = number; generation = a.generation }) conn number once same refl

pub lent-behind : (s : Pool) (owed : List PoolEntry) (moment number conn : ℕ) → StandsIn s owed moment (Lent number conn) → AllOk s owed →
    IsOnce (behind s owed moment (Lent number conn)).state → IsHeldBy (behind s owed moment (Lent number conn)).state.lent conn number
lent-behind s [] moment number conn (t, waits, served, last) ok once =
    lend-held s.lent number conn (last_of s.available) last (let o = once conn in omega arith)
lent-behind s (d ∷ ds) moment number conn m ok once = subst (λ x. OkOne s x) (sym m) ok.0

pub dialled-behind : (s : Pool) (owed : List PoolEntry) (moment number conn : ℕ) → StandsIn s owed moment (Dialled number conn) → AllOk s owed →
    IsOnce (behind s owed moment (Dialled number conn)).state → IsHeldBy (behind s owed moment (Dialled number conn)).state.pending conn number
dialled-behind s [] moment number conn m ok once =
    held-new s.pending (record { conn = conn; ticket = number; generation = s.generation }) conn number (let o = once conn in omega arith) refl refl
dialled-behind s (d ∷ ds) moment number conn m ok once = absurd (subst (λ x. OkOne s x) (sym m) ok.0)

-- a ticket that enters is new, and waits
pub record Enters (p q : Pool) (number : ℕ) : Type 0 where
  pub new : number ≡ p.entered
  pub counted : q.entered ≡ number + 1
  pub waits : IsWaiting q number

pub entered-behind : (s : Pool) (owed : List PoolEntry) (moment number : ℕ) → StandsIn s owed moment (Entered number) → AllOk s owed →
    Enters s (behind s owed moment (Entered number)).state number
entered-behind s [] moment number m ok = record {
  new = m;
  counted = omega arith;
  waits = find-more (λ x. x.number == number) s.waiting (ticket_for s moment) (eq-eqb s.entered number (sym m));
}
entered-behind s (d ∷ ds) moment number m ok = absurd (subst (λ x. OkOne s x) (sym m) ok.0)

-- tickets are counted on
entered-after : (s : Pool) (moment : ℕ) (e : PoolEntry) → s.entered ≤ (after s moment e).entered
entered-after s moment (Settled number conn true) = omega arith
entered-after s moment (Settled number conn false) = omega arith
entered-after s moment (NotLent number (Lost conn)) = omega arith
entered-after s moment (NotLent number Closed) = omega arith
entered-after s moment (NotLent number (Cleared g)) = omega arith
entered-after s moment (NotLent number Late) = omega arith
entered-after s moment e = omega arith

pub entered-rises : (s : Pool) (owed : List PoolEntry) (moment : ℕ) (e : PoolEntry) → s.entered ≤ (behind s owed moment e).state.entered
entered-rises s [] moment e = entered-after s moment e
entered-rises s (d ∷ ds) moment e = omega arith
