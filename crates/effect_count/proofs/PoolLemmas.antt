-- What the pools of a client say of their connections.
use Rattle.std.proofs.Common.{◌≡◌, ◌≤◌, ◌<◌, ◌⊎◌, inl, inr, ℕ, zero, suc, ◌+◌, ◌-◌, Bool, true, false, not, ◌&&◌, cond, List, [], ◌∷◌, length, map, take, Option, None, Some, refl, sym, ap, ◌∙◌, subst, arith}
use Rattle.std.specs.Prelude.{◌==◌, if◌then◌else◌, slice_get}
use Rattle.std.specs.Option.{option_map}
use Rattle.std.proofs.lemmas.Bool.{eq-eqb}
use Rattle.std.proofs.lemmas.Bool.Decides.{eqb_tells}
use Rattle.entry_judge.specs.declared.timed.Timed.{Timed}
use Rattle.entry_judge.specs.Groups.{ComesNext, Place}
use Rattle.entry_judge.specs.InvariantLaws.{KeepsOwed, KeepsOwed-legal}
use Rattle.pool_book.specs.declared.answers.CloseReason.TheVariants.{Errored, PoolClosed}
use Rattle.pool_book.specs.declared.connections.Available.{Available}
use Rattle.pool_book.specs.declared.connections.Held.{Held}
use Rattle.pool_book.specs.declared.rules.PoolRules.{PoolRules}
use Rattle.pool_book.specs.Entries.{PoolEntry, Ready, Clear, Shut, Entered, Left, Lent, Dialled, Settled, NotLent, CheckedIn, ConnShut, Closed, Cleared, Late, Lost, MayStand, after, owes, owes_shut, refusal, returned}
use Rattle.pool_book.specs.Judge.{IsTrail, place_behind, pool_judge}
use Rattle.pool_book.specs.Pool.{Pool, fresh_pool, held_of, is_closed, is_kept, is_worthless, last_of, shut_reason}
use Rattle.pool_book.specs.Sound.{Sound, times, times_available, times_held}
use Rattle.pool_book.proofs.SoundLemmas.{Sound-fresh, Sound-keeps, Sound-trail}
use Rattle.pool_book.proofs.TimesLemmas.{times-append, times-filter_most, times-found, times-last, times-push}

-- ---- What must come next of a pool dials no connection, settles none and loses none

abbrev pub is_calm : PoolEntry → Bool
is_calm (Dialled number conn) = false
is_calm (Settled number conn stale) = false
is_calm (NotLent number (Lost conn)) = false
is_calm e = true

abbrev pub AreCalm : List PoolEntry → Type 0
AreCalm [] = Unit {0}
AreCalm (d ∷ ds) = (is_calm d ≡ true) × AreCalm ds

calm-shuts : (xs : List Available) → AreCalm (map (λ a. ConnShut a.conn PoolClosed) xs)
calm-shuts [] = tt
calm-shuts (x ∷ xs) = (refl, calm-shuts xs)

calm-owes_shut : (p : Pool) (errored : Bool) (o : Option Held) → AreCalm (owes_shut p errored o)
calm-owes_shut p errored None = tt
calm-owes_shut p errored (Some h) = by (is_kept p errored h)
  where
    by : (b : Bool) → AreCalm (if b then [] else ConnShut h.conn (shut_reason p.state errored) ∷ [])
    by true = tt
    by false = (refl, tt)

calm-refusal : (p : Pool) (number : ℕ) → is_calm (NotLent number (refusal p)) ≡ true
calm-refusal p number = by (is_closed p.state)
  where
    by : (b : Bool) → is_calm (NotLent number (if b then Closed else Cleared p.generation)) ≡ true
    by true = refl
    by false = refl

calm-owes : (p : Pool) (e : PoolEntry) → AreCalm (owes p e)
calm-owes p Ready = tt
calm-owes p Clear = tt
calm-owes p Shut = calm-shuts p.available
calm-owes p (Entered number) = tt
calm-owes p (Left number) = tt
calm-owes p (Lent number conn) = tt
calm-owes p (Dialled number conn) = tt
calm-owes p (Settled number conn true) = (refl, (calm-refusal p number, tt))
calm-owes p (Settled number conn false) = (refl, tt)
calm-owes p (NotLent number Closed) = tt
calm-owes p (NotLent number (Cleared g)) = tt
calm-owes p (NotLent number Late) = tt
calm-owes p (NotLent number (Lost conn)) = (refl, tt)
calm-owes p (CheckedIn number conn errored) = calm-owes_shut p errored (held_of conn p.lent)
calm-owes p (ConnShut conn reason) = tt

calm-keeps : KeepsOwed pool_judge Sound (λ p ds. AreCalm ds)
calm-keeps = record { keeps = Sound-keeps; behind = λ p moment e s m. calm-owes p e; rest = λ p d ds h. h.1 }

-- ---- A pool of a trail

pub record IsPool (q : Place Pool PoolEntry) : Type 0 where
  pub sound : Sound q.state
  pub calm : AreCalm q.owed

pub pool-of : (rules : PoolRules) (ts : List (Timed PoolEntry)) (q : Place Pool PoolEntry) → IsTrail rules ts → q ≡ place_behind rules ts → IsPool q
pool-of rules ts q l e = subst IsPool (sym e) (record {
  sound = Sound-trail rules ts l;
  calm = KeepsOwed-legal pool_judge Sound (λ p ds. AreCalm ds) calm-keeps (fresh_pool rules) [] ts (Sound-fresh rules) tt l;
})

-- such an entry stands where none must come next
pub unowed : (p : Pool) (ds : List PoolEntry) (moment : ℕ) (e : PoolEntry) → is_calm e ≡ false → AreCalm ds → ComesNext ds e (MayStand p moment e) → MayStand p moment e
unowed p [] moment e n c s = s
unowed p (d ∷ ds) moment e n c s = let no : true ≡ false = sym c.0 ∙ ap is_calm (sym s) ∙ n in absurd (cc)

-- ---- What must come next

abbrev is_lending : PoolEntry → Bool
is_lending (Lent n conn) = true
is_lending e = false

-- an entry is among these
abbrev pub IsAmong : PoolEntry → List PoolEntry → Type 0
IsAmong e [] = ⊥
IsAmong e (x ∷ xs) = (x ≡ e) ⊎ IsAmong e xs

lent-shuts : (xs : List Available) (n conn : ℕ) → IsAmong (Lent n conn) (map (λ a. ConnShut a.conn PoolClosed) xs) → ⊥
lent-shuts [] n conn i = i
lent-shuts (x ∷ xs) n conn (inl e) = absurd (cc)
lent-shuts (x ∷ xs) n conn (inr i) = lent-shuts xs n conn i

lent-owes_shut : (p : Pool) (errored : Bool) (o : Option Held) (n conn : ℕ) → IsAmong (Lent n conn) (owes_shut p errored o) → ⊥
lent-owes_shut p errored None n conn i = i
lent-owes_shut p errored (Some h) n conn i = by (is_kept p errored h) i
  where
    by : (b : Bool) → IsAmong (Lent n conn) (if b then [] else ConnShut h.conn (shut_reason p.state errored) ∷ []) → ⊥
    by true i = i
    by false (inl e) = absurd (cc)
    by false (inr i) = i

lent-one : (e : PoolEntry) (n conn : ℕ) → is_lending e ≡ false → IsAmong (Lent n conn) (e ∷ []) → ⊥
lent-one e n conn q (inl same) = let no : true ≡ false = ap is_lending (sym same) ∙ q in absurd (cc)
lent-one e n conn q (inr none) = none

-- a connection must be lent next where it settled, of the generation of its pool
pub owes-lent : (p : Pool) (e : PoolEntry) (n conn : ℕ) → IsAmong (Lent n conn) (owes p e) → e ≡ Settled n conn false
owes-lent p Ready n conn i = absurd i
owes-lent p Clear n conn i = absurd i
owes-lent p Shut n conn i = absurd (lent-shuts p.available n conn i)
owes-lent p (Entered number) n conn i = absurd i
owes-lent p (Left number) n conn i = absurd i
owes-lent p (Lent number c) n conn i = absurd i
owes-lent p (Dialled number c) n conn i = absurd i
owes-lent p (Settled number c true) n conn (inl same) = absurd (cc)
owes-lent p (Settled number c true) n conn (inr i) = absurd (lent-one (NotLent number (refusal p)) n conn refl i)
owes-lent p (Settled number c false) n conn (inl same) = cc
owes-lent p (Settled number c false) n conn (inr i) = absurd i
owes-lent p (NotLent number Closed) n conn i = absurd i
owes-lent p (NotLent number (Cleared g)) n conn i = absurd i
owes-lent p (NotLent number Late) n conn i = absurd i
owes-lent p (NotLent number (Lost c)) n conn i = absurd (lent-one (ConnShut c Errored) n conn refl i)
owes-lent p (CheckedIn number c errored) n conn i = absurd (lent-owes_shut p errored (held_of c p.lent) n conn i)
owes-lent p (ConnShut c reason) n conn i = absurd i

-- ---- A connection stands once

held-times : (conn : ℕ) (hs : List Held) (h : Held) → held_of conn hs ≡ Some h → 1 ≤ times_held conn hs
held-times conn hs h found = times-found (λ (x : Held). x.conn == conn) hs h found

pub lent-times : (p : Pool) (conn : ℕ) (h : Held) → held_of conn p.lent ≡ Some h → 1 ≤ times_held conn p.lent
lent-times p conn h found = held-times conn p.lent h found

pub lent-available : (p : Pool) (conn : ℕ) → Sound p → 1 ≤ times_held conn p.lent → 1 ≤ times_available conn p.available → ⊥
lent-available p conn s l a = let one = s.once conn in absurd (omega (arith, one, l, a))

pub lent-pending : (p : Pool) (conn : ℕ) → Sound p → 1 ≤ times_held conn p.lent → 1 ≤ times_held conn p.pending → ⊥
lent-pending p conn s l a = let one = s.once conn in absurd (omega (arith, one, l, a))

pub pending-available : (p : Pool) (conn : ℕ) → Sound p → 1 ≤ times_held conn p.pending → times_available conn p.available ≡ 0
pending-available p conn s l = let one = s.once conn in omega (arith, one, l)

-- the next one is not there yet
pub next-lent : (p : Pool) (conn : ℕ) → Sound p → conn ≡ p.dialled + 1 → 1 ≤ times_held conn p.lent → ⊥
next-lent p conn s next l =
    let above : p.dialled < conn = omega (arith, next) in
    let none = s.dialled conn above in
    absurd (omega (arith, none, l))

pub next-available : (p : Pool) (conn : ℕ) → Sound p → conn ≡ p.dialled + 1 → 1 ≤ times_available conn p.available → ⊥
next-available p conn s next l =
    let above : p.dialled < conn = omega (arith, next) in
    let none = s.dialled conn above in
    absurd (omega (arith, none, l))

-- ---- What an entry does to them

none-or-some : (n : ℕ) → (n ≡ 0) ⊎ (1 ≤ n)
none-or-some zero = inl refl
none-or-some (suc n) = inr (omega arith)

times-take : (q : Available → Bool) (n : ℕ) (xs : List Available) → times q (take n xs) ≤ times q xs
times-take q zero xs = omega arith
times-take q (suc n) [] = omega arith
times-take q (suc n) (x ∷ xs) = let rest = times-take q n xs in omega (arith, rest)

-- what is found has the number
find-conn : (conn : ℕ) (hs : List Held) (h : Held) → held_of conn hs ≡ Some h → h.conn ≡ conn
find-conn conn [] h e = absurd (cc)
find-conn conn (x ∷ xs) h e = elim (eqb_tells x.conn conn) [
  | inl w ↦ let found : Some x ≡ Some h = sym (ap (λ b. cond b (Some x) (held_of conn xs)) w.0) ∙ e in let is : x ≡ h = (cc) in ap (λ (y : Held). y.conn) (sym is) ∙ w.1
  | inr w ↦ find-conn conn xs h (sym (ap (λ b. cond b (Some x) (held_of conn xs)) w.0) ∙ e)
]

abbrev one_if : Bool → ℕ
one_if b = cond b 1 0

own-times : (conn : ℕ) → one_if (conn == conn) ≡ 1
own-times conn = ap one_if (eq-eqb conn conn refl)

-- one that is dialled is pending
pub dialled-pending : (p : Pool) (moment number conn : ℕ) → 1 ≤ times_held conn (after p moment (Dialled number conn)).pending
dialled-pending p moment number conn =
    let h : Held = record { conn = conn; ticket = number; generation = p.generation } in
    let more = times-push (λ (x : Held). x.conn == conn) p.pending h in
    let own = own-times conn in
    omega (arith, more, own)

-- the last one that is available is so
available-last : (conn : ℕ) (xs : List Available) (o : Option Available) → slice_get xs (length xs - 1) ≡ o → option_map (λ (a : Available). a.conn) o ≡ Some conn → 1 ≤ times_available conn xs
available-last conn xs None e h = absurd (cc)
available-last conn xs (Some a) e h =
    let same : a.conn ≡ conn = (cc) in
    let all = times-last (λ (x : Available). x.conn == conn) xs a e in
    let own : one_if (a.conn == conn) ≡ 1 = ap one_if (eq-eqb a.conn conn same) in
    omega (arith, all, own)

pub lent-was : (p : Pool) (moment number conn : ℕ) → MayStand p moment (Lent number conn) → 1 ≤ times_available conn p.available
lent-was p moment number conn m = available-last conn p.available (last_of p.available) refl m.3

-- one that is at a place is available
pub available-at : (conn : ℕ) (xs : List Available) (k : ℕ) (a : Available) → slice_get xs k ≡ Some a → a.conn ≡ conn → 1 ≤ times_available conn xs
available-at conn [] k a e same = absurd (cc)
available-at conn (x ∷ xs) zero a e same =
    let is : x ≡ a = (cc) in
    let own : one_if (x.conn == conn) ≡ 1 = ap one_if (eq-eqb x.conn conn (ap (λ (y : Available). y.conn) is ∙ same)) in
    omega (arith, own)
available-at conn (x ∷ xs) (suc k) a e same = let rest = available-at conn xs k a e same in omega (arith, rest)

-- what is available behind an entry was so, or is checked in
returned-is : (p : Pool) (moment c : ℕ) (errored : Bool) (conn : ℕ) → 1 ≤ times_available conn (returned p moment errored (held_of c p.lent)) → (errored ≡ false) × (c ≡ conn)
returned-is p moment c errored conn h = by (held_of c p.lent) refl h
  where
    kept : (b : Bool) (e : Bool) → (not e && b) ≡ true → e ≡ false
    kept b false k = refl
    kept b true k = absurd (cc)

    at : (x : Held) (b : Bool) → held_of c p.lent ≡ Some x → is_kept p errored x ≡ b →
        1 ≤ times_available conn (if b then record { conn = x.conn; generation = x.generation; since = moment } ∷ [] else []) → (errored ≡ false) × (c ≡ conn)
    at x false e k n = absurd (omega (arith, n))
    at x true e k n = (
      kept (not (is_worthless p.state p.generation x.generation)) errored k,
      elim (eqb_tells x.conn conn) [
        | inl w ↦ sym (find-conn c p.lent x e) ∙ w.1
        | inr w ↦ absurd (let none : one_if (x.conn == conn) ≡ 0 = ap one_if w.0 in omega (arith, n, none))
      ],
    )

    by : (o : Option Held) → held_of c p.lent ≡ o → 1 ≤ times_available conn (returned p moment errored o) → (errored ≡ false) × (c ≡ conn)
    by None e n = absurd (omega (arith, n))
    by (Some x) e n = at x (is_kept p errored x) e refl n

pub available-from : (p : Pool) (moment : ℕ) (e : PoolEntry) (conn : ℕ) → 1 ≤ times_available conn (after p moment e).available →
    (1 ≤ times_available conn p.available) ⊎ ((n : ℕ) × (e ≡ CheckedIn n conn false))
available-from p moment Ready conn h = inl h
available-from p moment Clear conn h = inl h
available-from p moment Shut conn h = absurd (omega (arith, h))
available-from p moment (Entered number) conn h = inl h
available-from p moment (Left number) conn h = inl h
available-from p moment (Lent number c) conn h = inl (
    let most = times-take (λ (x : Available). x.conn == conn) (length p.available - 1) p.available in
    omega (arith, h, most))
available-from p moment (Dialled number c) conn h = inl h
available-from p moment (Settled number c true) conn h = inl h
available-from p moment (Settled number c false) conn h = inl h
available-from p moment (NotLent number Closed) conn h = inl h
available-from p moment (NotLent number (Cleared g)) conn h = inl h
available-from p moment (NotLent number Late) conn h = inl h
available-from p moment (NotLent number (Lost c)) conn h = inl h
available-from p moment (CheckedIn number c errored) conn h =
    let back = returned p moment errored (held_of c p.lent) in
    let all = times-append (λ (x : Available). x.conn == conn) p.available back in
    elim (none-or-some (times_available conn back)) [
      | inl none ↦ inl (omega (arith, all, none, h))
      | inr some ↦
          let r = returned-is p moment c errored conn some in
          inr (number, ap (λ x. CheckedIn number x errored) r.1 ∙ ap (CheckedIn number conn) r.0)
    ]
available-from p moment (ConnShut c reason) conn h = inl (
    let most = times-filter_most (λ (x : Available). x.conn == conn) (λ (x : Available). not (x.conn == c)) p.available in
    omega (arith, h, most))
