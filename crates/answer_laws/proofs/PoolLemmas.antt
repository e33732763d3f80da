-- What the pools of a client say of connections that are lent: none of them is dialled, settles or is lost.
use Rattle.std.proofs.Common.{◌≡◌, ◌≤◌, ◌<◌, ℕ, ◌+◌, Bool, true, false, List, [], ◌∷◌, map, Option, None, Some, refl, sym, ap, ◌∙◌, subst, arith}
use Rattle.std.specs.Prelude.{◌==◌, if◌then◌else◌}
use Rattle.entry_judge.specs.declared.timed.Timed.{Timed}
use Rattle.entry_judge.specs.Groups.{ComesNext, Place}
use Rattle.entry_judge.specs.InvariantLaws.{KeepsOwed, KeepsOwed-legal}
use Rattle.pool_book.specs.declared.answers.CloseReason.TheVariants.{PoolClosed}
use Rattle.pool_book.specs.declared.connections.Available.{Available}
use Rattle.pool_book.specs.declared.connections.Held.{Held}
use Rattle.pool_book.specs.declared.rules.PoolRules.{PoolRules}
use Rattle.pool_book.specs.Entries.{PoolEntry, Ready, Clear, Shut, Entered, Left, Lent, Dialled, Settled, NotLent, CheckedIn, ConnShut, Closed, Cleared, Late, Lost, MayStand, owes, owes_shut, refusal}
use Rattle.pool_book.specs.Judge.{IsTrail, place_behind, pool_judge}
use Rattle.pool_book.specs.Pool.{Pool, fresh_pool, held_of, is_closed, is_kept, shut_reason}
use Rattle.pool_book.specs.Sound.{Sound, times_held}
use Rattle.pool_book.proofs.SoundLemmas.{Sound-fresh, Sound-keeps, Sound-trail}
use Rattle.pool_book.proofs.TimesLemmas.{times-found}

-- ---- What must come next of a pool dials no connection, settles none and loses none

abbrev pub is_calm : PoolEntry → Bool
is_calm (Dialled number conn) = false
is_calm (Settled number conn stale) = false
is_calm (NotLent number (Lost conn)) = false
is_calm e = true

abbrev pub AreCalm : List PoolEntry → Type 0
AreCalm [] = Unit {0}
AreCalm (d ∷ ds) = (is_calm d ≡ true) × AreCalm ds

calm-shuts : (xs : List Available) → AreCalm (map (λ a. ConnShut a.conn PoolClosed) xs)
calm-shuts [] = tt
calm-shuts (x ∷ xs) = (refl, calm-shuts xs)

calm-owes_shut : (p : Pool) (errored : Bool) (o : Option Held) → AreCalm (owes_shut p errored o)
calm-owes_shut p errored None = tt
calm-owes_shut p errored (Some h) = by (is_kept p errored h)
  where
    by : (b : Bool) → AreCalm (if b then [] else ConnShut h.conn (shut_reason p.state errored) ∷ [])
    by true = tt
    by false = (refl, tt)

calm-refusal : (p : Pool) (number : ℕ) → is_calm (NotLent number (refusal p)) ≡ true
calm-refusal p number = by (is_closed p.state)
  where
    by : (b : Bool) → is_calm (NotLent number (if b then Closed else Cleared p.generation)) ≡ true
    by true = refl
    by false = refl

calm-owes : (p : Pool) (e : PoolEntry) → AreCalm (owes p e)
calm-owes p Ready = tt
calm-owes p Clear = tt
calm-owes p Shut = calm-shuts p.available
calm-owes p (Entered number) = tt
calm-owes p (Left number) = tt
calm-owes p (Lent number conn) = tt
calm-owes p (Dialled number conn) = tt
calm-owes p (Settled number conn true) = (refl, (calm-refusal p number, tt))
calm-owes p (Settled number conn false) = (refl, tt)
calm-owes p (NotLent number Closed) = tt
calm-owes p (NotLent number (Cleared g)) = tt
calm-owes p (NotLent number Late) = tt
calm-owes p (NotLent number (Lost conn)) = (refl, tt)
calm-owes p (CheckedIn number conn errored) = calm-owes_shut p errored (held_of conn p.lent)
calm-owes p (ConnShut conn reason) = tt

calm-keeps : KeepsOwed pool_judge Sound (λ p ds. AreCalm ds)
calm-keeps = record { keeps = Sound-keeps; behind = λ p moment e s m. calm-owes p e; rest = λ p d ds h. h.1 }

-- ---- A pool of a trail

pub record IsPool (q : Place Pool PoolEntry) : Type 0 where
  pub sound : Sound q.state
  pub calm : AreCalm q.owed

pub pool-of : (rules : PoolRules) (ts : List (Timed PoolEntry)) (q : Place Pool PoolEntry) → IsTrail rules ts → q ≡ place_behind rules ts → IsPool q
pool-of rules ts q l e = subst IsPool (sym e) (record {
  sound = Sound-trail rules ts l;
  calm = KeepsOwed-legal pool_judge Sound (λ p ds. AreCalm ds) calm-keeps (fresh_pool rules) [] ts (Sound-fresh rules) tt l;
})

-- such an entry stands where none must come next
pub unowed : (p : Pool) (ds : List PoolEntry) (moment : ℕ) (e : PoolEntry) → is_calm e ≡ false → AreCalm ds → ComesNext ds e (MayStand p moment e) → MayStand p moment e
unowed p [] moment e n c s = s
unowed p (d ∷ ds) moment e n c s = let no : true ≡ false = sym c.0 ∙ ap is_calm (sym s) ∙ n in absurd (cc)

-- ---- A connection that is lent

held-times : (conn : ℕ) (hs : List Held) (h : Held) → held_of conn hs ≡ Some h → 1 ≤ times_held conn hs
held-times conn hs h found = times-found (λ (x : Held). x.conn == conn) hs h found

-- is not pending
pub not-pending : (p : Pool) (conn : ℕ) (a b : Held) → Sound p → held_of conn p.lent ≡ Some a → held_of conn p.pending ≡ Some b → ⊥
not-pending p conn a b s lent pending =
    let one = s.once conn in
    let x = held-times conn p.lent a lent in
    let y = held-times conn p.pending b pending in
    absurd (omega (arith, one, x, y))

-- and is not the next one
pub not-next : (p : Pool) (conn : ℕ) (a : Held) → Sound p → held_of conn p.lent ≡ Some a → conn ≡ p.dialled + 1 → ⊥
not-next p conn a s lent next =
    let x = held-times conn p.lent a lent in
    let above : p.dialled < conn = omega (arith, next) in
    let none = s.dialled conn above in
    absurd (omega (arith, none, x))
