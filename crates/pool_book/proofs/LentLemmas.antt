-- A connection that is lent had no borrower and is of the pool's generation.
use Rattle.std.proofs.Common.{◌≡◌, ℕ, zero, suc, ◌+◌, ◌-◌, ◌<◌, Bool, true, false, not, ◌&&◌, ◌||◌, cond, eqb, List, [], ◌∷◌, ◌++◌, length, map, Option, Some, None, refl, sym, ap, ◌∙◌, subst, arith, inl, inr}
use Rattle.std.specs.Prelude.{slice_get, option_to_list, All}
use Rattle.std.specs.Option.{option_map}
use Rattle.std.specs.List.{find, list_any, position_or_len}
use Rattle.std.proofs.lemmas.List.Folds.{find_at}
use Rattle.std.specs.Bool.{◌==◌}
use Rattle.std.proofs.lemmas.Bool.{eqb-true, eq-eqb}
use Rattle.std.proofs.lemmas.Bool.Decides.{eqb_tells}
use Rattle.std.proofs.lemmas.List.{append-nil}
use Rattle.std.proofs.lemmas.List.Elements.{All-nil, All-push, All-filter, All-take, All-weaker}
use Rattle.std.proofs.lemmas.Option.{slice_get_within, get_or_from_slice_get}
use Rattle.pool_book.specs.declared.rules.PoolRules.{PoolRules}
use Rattle.pool_book.specs.declared.connections.Held.{Held}
use Rattle.pool_book.specs.declared.connections.Available.{Available}
use Rattle.pool_book.specs.declared.answers.CloseReason.TheVariants.{PoolClosed}
use Rattle.pool_book.specs.Pool.{Pool, fresh_pool, is_closed, held_of, without_held, last_of, is_kept, is_perished, is_swept, is_worthless, shut_reason}
use Rattle.pool_book.specs.Entries.{PoolEntry, Ready, Clear, Shut, Entered, Left, Lent, Dialled, Settled, NotLent, CheckedIn, ConnShut, Closed, Cleared, Late, Lost, MayStand, after, owes, owes_shut, lend, returned}
use Rattle.entry_judge.specs.declared.timed.Timed.{Timed}
use Rattle.entry_judge.specs.Judge.{Legal, state_after}
use Rattle.entry_judge.specs.Groups.{Stands, ComesNext, Place, next_place, nothing_owed, entries_of}
use Rattle.entry_judge.specs.GroupLaws.{IsTrail-front, IsTrail-rest}
use Rattle.entry_judge.specs.InvariantLaws.{Keeps, Keeps-legal, KeepsOwed, KeepsOwed-legal, Reads, Reads-legal, Reads-trail}
use Rattle.pool_book.specs.Judge.{pool_judge, IsTrail, place_behind, entries_and_owed}
use Rattle.pool_book.specs.Sound.{Sound, times, times_held}
use Rattle.pool_book.specs.Readings.{generation_by, lent_by, Pair, pairs_of, dials_by, Begun, Beginnings}
use Rattle.pool_book.specs.Laws.{generation_of, none_begun, IsFree}
use Rattle.pool_book.proofs.ListLemmas.{find-passes}
use Rattle.pool_book.proofs.TimesLemmas.{times-push, times-found}
use Rattle.pool_book.proofs.SoundLemmas.{Sound-keeps, Sound-trail, Sound-fresh, last_of-Some}
use Rattle.pool_book.proofs.ReadingLemmas.{ReadsAs-legal, ReadsAs-generation_by, ReadsAs-lent_by, read-shuts, read-owes_shut, times-at, last-conn}

-- where none is counted none is found
pub find-times_none : {X : Type 0} (p : X → Bool) (xs : List X) → times p xs ≡ 0 → find p xs ≡ None
find-times_none p [] h = refl
find-times_none p (x ∷ xs) h =
    elim (p x) as (λ b. cond b 1 0 + times p xs ≡ 0 → cond b (Some x) (find p xs) ≡ None) [
      | true ↦ λ k. absurd (omega arith)
      | false ↦ λ k. find-times_none p xs (omega arith)
    ] h

pub list_any-times_none : {X : Type 0} (p : X → Bool) (xs : List X) → times p xs ≡ 0 → list_any p xs ≡ false
list_any-times_none p [] h = refl
list_any-times_none p (x ∷ xs) h =
    elim (p x) as (λ b. cond b 1 0 + times p xs ≡ 0 → (b || list_any p xs) ≡ false) [
      | true ↦ λ k. absurd (omega arith)
      | false ↦ λ k. list_any-times_none p xs (omega arith)
    ] h

pub find-append_none : {X : Type 0} (p : X → Bool) (xs : List X) (y : X) → find p xs ≡ None → find p (xs ++ y ∷ []) ≡ cond (p y) (Some y) None
find-append_none p [] y e = refl
find-append_none p (x ∷ xs) y e =
    elim (p x) as (λ b. cond b (Some x) (find p xs) ≡ None → cond b (Some x) (find p (xs ++ y ∷ [])) ≡ cond (p y) (Some y) None) [
      | true ↦ λ k. absurd (cc)
      | false ↦ λ k. find-append_none p xs y k
    ] e

find-append_some : {X : Type 0} (p : X → Bool) (xs : List X) (x y : X) → find p xs ≡ Some x → find p (xs ++ y ∷ []) ≡ Some x
find-append_some p [] x y e = absurd (cc)
find-append_some p (z ∷ zs) x y e =
    elim (p z) as (λ b. cond b (Some z) (find p zs) ≡ Some x → cond b (Some z) (find p (zs ++ y ∷ [])) ≡ Some x) [
      | true ↦ λ k. k
      | false ↦ λ k. find-append_some p zs x y k
    ] e

-- what holds of each holds of one
pub All-at : {X : Type 0} (P : X → Type 0) (xs : List X) (k : ℕ) (x : X) → All P xs → slice_get xs k ≡ Some x → P x
All-at P xs k x h e = subst P (get_or_from_slice_get xs k x x e) (h k x (slice_get_within xs k x e))

pub All-find : {X : Type 0} (P : X → Type 0) (p : X → Bool) (xs : List X) (x : X) → All P xs → find p xs ≡ Some x → P x
All-find P p xs x h e = All-at P xs (position_or_len p xs) x h (sym (find_at p xs) ∙ e)

-- all of these are connections that are shut, or tickets that get nothing
abbrev pub AllPaid : List PoolEntry → Type 0
AllPaid [] = Unit {0}
AllPaid (ConnShut conn reason ∷ ds) = AllPaid ds
AllPaid (NotLent number why ∷ ds) = AllPaid ds
AllPaid (e ∷ ds) = ⊥

-- the ticket has the connection, which is of the pool's generation
pub record HasLent (p : Pool) (number conn : ℕ) : Type 0 where
  pub held : Held
  pub found : held_of conn p.lent ≡ Some held
  pub current : held.generation ≡ p.generation

-- what must follow is nothing, or one that settled is lent, or these
abbrev pub Pays : Pool → List PoolEntry → Type 0
Pays p [] = Unit {0}
Pays p (Lent number conn ∷ ds) = (ds ≡ []) × HasLent p number conn
Pays p (ConnShut conn reason ∷ ds) = AllPaid ds
Pays p (NotLent number why ∷ ds) = AllPaid ds
Pays p (e ∷ ds) = ⊥

Pays-paid : (p : Pool) (ds : List PoolEntry) → AllPaid ds → Pays p ds
Pays-paid p [] h = tt
Pays-paid p (ConnShut conn reason ∷ ds) h = h
Pays-paid p (NotLent number why ∷ ds) h = h
Pays-paid p (Ready ∷ ds) h = absurd h
Pays-paid p (Clear ∷ ds) h = absurd h
Pays-paid p (Shut ∷ ds) h = absurd h
Pays-paid p (Entered number ∷ ds) h = absurd h
Pays-paid p (Left number ∷ ds) h = absurd h
Pays-paid p (Lent number conn ∷ ds) h = absurd h
Pays-paid p (Dialled number conn ∷ ds) h = absurd h
Pays-paid p (Settled number conn stale ∷ ds) h = absurd h
Pays-paid p (CheckedIn number conn errored ∷ ds) h = absurd h

Pays-rest : (p : Pool) (d : PoolEntry) (ds : List PoolEntry) → Pays p (d ∷ ds) → Pays p ds
Pays-rest p (ConnShut conn reason) ds h = Pays-paid p ds h
Pays-rest p (NotLent number why) ds h = Pays-paid p ds h
Pays-rest p (Lent number conn) ds h = rw h.0 tt
Pays-rest p Ready ds h = absurd h
Pays-rest p Clear ds h = absurd h
Pays-rest p Shut ds h = absurd h
Pays-rest p (Entered number) ds h = absurd h
Pays-rest p (Left number) ds h = absurd h
Pays-rest p (Dialled number conn) ds h = absurd h
Pays-rest p (Settled number conn stale) ds h = absurd h
Pays-rest p (CheckedIn number conn errored) ds h = absurd h

AllPaid-shuts : (xs : List Available) → AllPaid (map (λ a. ConnShut a.conn PoolClosed) xs)
AllPaid-shuts [] = tt
AllPaid-shuts (a ∷ xs) = AllPaid-shuts xs

AllPaid-owes_shut : (p : Pool) (errored : Bool) (o : Option Held) → AllPaid (owes_shut p errored o)
AllPaid-owes_shut p errored None = tt
AllPaid-owes_shut p errored (Some h) =
    elim (is_kept p errored h) as (λ b. AllPaid (cond b [] (ConnShut h.conn (shut_reason p.state errored) ∷ []))) [ true ↦ tt | false ↦ tt ]

not-stale : (c e : Bool) → false ≡ (c || not e) → e ≡ true
not-stale true e h = absurd (cc)
not-stale false true h = refl
not-stale false false h = absurd (cc)

HasLent-settled : (p : Pool) (moment number conn : ℕ) (h : Held) → Sound p → held_of conn p.pending ≡ Some h → false ≡ is_worthless p.state p.generation h.generation →
    HasLent (after p moment (Settled number conn false)) number conn
HasLent-settled p moment number conn h s e w =
    let pending = times-found (λ (x : Held). eqb x.conn conn) p.pending h e in
    let absent : times_held conn p.lent ≡ 0 = omega (arith, s.once conn) in
    let here : held_of conn (p.lent ++ h ∷ []) ≡ Some h =
    find-append_none (λ (x : Held). eqb x.conn conn) p.lent h (find-times_none _ p.lent absent) ∙ rw (find-passes (λ (x : Held). eqb x.conn conn) p.pending h e) refl in
    record {
      held = h;
      found = rw e here;
      current = eqb-true _ _ (not-stale (is_closed p.state) (eqb h.generation p.generation) w);
    }

Pays-owes : (p : Pool) (moment : ℕ) (e : PoolEntry) → Sound p → MayStand p moment e → Pays (after p moment e) (owes p e)
Pays-owes p moment Ready s m = tt
Pays-owes p moment Clear s m = tt
Pays-owes p moment Shut s m = Pays-paid (after p moment Shut) (owes p Shut) (AllPaid-shuts p.available)
Pays-owes p moment (Entered number) s m = tt
Pays-owes p moment (Left number) s m = tt
Pays-owes p moment (Lent number conn) s m = tt
Pays-owes p moment (Dialled number conn) s m = tt
Pays-owes p moment (Settled number conn true) s m = tt
Pays-owes p moment (Settled number conn false) s m = (refl, HasLent-settled p moment number conn m.0 s m.1 m.3)
Pays-owes p moment (NotLent number Closed) s m = tt
Pays-owes p moment (NotLent number (Cleared g)) s m = tt
Pays-owes p moment (NotLent number Late) s m = tt
Pays-owes p moment (NotLent number (Lost conn)) s m = tt
Pays-owes p moment (CheckedIn number conn errored) s m =
    Pays-paid (after p moment (CheckedIn number conn errored)) (owes_shut p errored (held_of conn p.lent)) (AllPaid-owes_shut p errored (held_of conn p.lent))
Pays-owes p moment (ConnShut conn reason) s m = tt

pub Pays-keeps : KeepsOwed pool_judge Sound Pays
Pays-keeps = record { keeps = Sound-keeps; behind = Pays-owes; rest = Pays-rest }

pub Pays-trail : (rules : PoolRules) (ts : List (Timed PoolEntry)) → IsTrail rules ts → Pays (place_behind rules ts).state (place_behind rules ts).owed
Pays-trail rules ts l = KeepsOwed-legal pool_judge Sound Pays Pays-keeps (fresh_pool rules) [] ts (Sound-fresh rules) tt l

-- each connection is of the generation in which it was dialled
pub record BornIn (p : Pool) (d : Beginnings) : Type 0 where
  pub generation : d.now ≡ p.generation
  pub pending : All (λ h. generation_of h.conn d.begun ≡ Some h.generation) p.pending
  pub lent : All (λ h. generation_of h.conn d.begun ≡ Some h.generation) p.lent
  pub available : All (λ a. generation_of a.conn d.begun ≡ Some a.generation) p.available
  pub later : (conn : ℕ) → p.dialled < conn → find (λ b. b.number == conn) d.begun ≡ None

option-begun : (o : Option Begun) (g : ℕ) → option_map (λ (b : Begun). b.generation) o ≡ Some g → (b : Begun) × (o ≡ Some b) × (b.generation ≡ g)
option-begun None g e = absurd (cc)
option-begun (Some b) g e = (b, refl, cc)

-- a further dial leaves the generations of those before
pub generation_of-push : (conn g : ℕ) (bs : List Begun) (b : Begun) → generation_of conn bs ≡ Some g → generation_of conn (bs ++ b ∷ []) ≡ Some g
generation_of-push conn g bs b e =
    let old = option-begun (find (λ (x : Begun). eqb x.number conn) bs) g e in
    rw (find-append_some (λ (x : Begun). eqb x.number conn) bs old.0 b old.1) (ap (λ n. Some n) old.2)

BornIn-lent : (p : Pool) (moment number conn : ℕ) (d : Beginnings) (a : Available) → BornIn p d → last_of p.available ≡ Some a → BornIn (after p moment (Lent number conn)) d
BornIn-lent p moment number conn d a b e =
    let P : Held → Type 0 = λ h. generation_of h.conn d.begun ≡ Some h.generation in
    let own = All-at (λ (x : Available). generation_of x.conn d.begun ≡ Some x.generation) p.available (length p.available - 1) a b.available e in
    let pushed : All P (p.lent ++ lend number (last_of p.available)) = rw e (All-push P p.lent (record { conn = a.conn; ticket = number; generation = a.generation }) b.lent own) in
    record {
      generation = b.generation;
      pending = b.pending;
      lent = pushed;
      available = All-take (λ (x : Available). generation_of x.conn d.begun ≡ Some x.generation) _ p.available b.available;
      later = b.later;
    }

BornIn-dialled : (p : Pool) (moment number : ℕ) (d : Beginnings) → BornIn p d →
    BornIn (after p moment (Dialled number (p.dialled + 1))) (dials_by d (Dialled number (p.dialled + 1)))
BornIn-dialled p moment number d b =
    let new : Begun = record { number = p.dialled + 1; generation = d.now } in
    let held : Held = record { conn = p.dialled + 1; ticket = number; generation = p.generation } in
    let P : Held → Type 0 = λ h. generation_of h.conn (d.begun ++ new ∷ []) ≡ Some h.generation in
    let none = b.later (p.dialled + 1) (omega arith) in
    let own : generation_of (p.dialled + 1) (d.begun ++ new ∷ []) ≡ Some p.generation =
    rw (find-append_none (λ (x : Begun). eqb x.number (p.dialled + 1)) d.begun new none, eq-eqb (p.dialled + 1) (p.dialled + 1) refl) (ap (λ n. Some n) b.generation) in
    record {
      generation = b.generation;
      pending = All-push P p.pending held (All-weaker (λ (h : Held). generation_of h.conn d.begun ≡ Some h.generation) P (λ h e. generation_of-push h.conn h.generation d.begun new e) p.pending b.pending) own;
      lent = All-weaker (λ (h : Held). generation_of h.conn d.begun ≡ Some h.generation) P (λ h e. generation_of-push h.conn h.generation d.begun new e) p.lent b.lent;
      available = All-weaker (λ (a : Available). generation_of a.conn d.begun ≡ Some a.generation) (λ (a : Available). generation_of a.conn (d.begun ++ new ∷ []) ≡ Some a.generation) (λ a e. generation_of-push a.conn a.generation d.begun new e) p.available b.available;
      later = λ conn l. find-append_none (λ (x : Begun). eqb x.number conn) d.begun new (b.later conn (omega arith)) ∙
          elim (eqb_tells (p.dialled + 1) conn) [ inl w ↦ absurd (omega arith) | inr w ↦ rw w.0 refl ];
    }

BornIn-settled : (p : Pool) (moment number conn : ℕ) (d : Beginnings) (h : Held) → BornIn p d → held_of conn p.pending ≡ Some h →
    BornIn (after p moment (Settled number conn false)) d
BornIn-settled p moment number conn d h b e =
    let P : Held → Type 0 = λ h. generation_of h.conn d.begun ≡ Some h.generation in
    let own : P h = All-find P (λ (x : Held). eqb x.conn conn) p.pending h b.pending e in
    let pushed : All P (p.lent ++ option_to_list (held_of conn p.pending)) = rw e (All-push P p.lent h b.lent own) in
    record {
      generation = b.generation;
      pending = All-filter _ P p.pending b.pending;
      lent = pushed;
      available = b.available;
      later = b.later;
    }

BornIn-gone : (p : Pool) (conn : ℕ) (d : Beginnings) → BornIn p d → BornIn (record p { pending = without_held conn p.pending }) d
BornIn-gone p conn d b = record {
  generation = b.generation;
  pending = All-filter _ (λ (h : Held). generation_of h.conn d.begun ≡ Some h.generation) p.pending b.pending;
  lent = b.lent;
  available = b.available;
  later = b.later;
}

BornIn-checked_in : (p : Pool) (moment number conn : ℕ) (errored : Bool) (d : Beginnings) (h : Held) → BornIn p d → held_of conn p.lent ≡ Some h →
    BornIn (after p moment (CheckedIn number conn errored)) d
BornIn-checked_in p moment number conn errored d h b e =
    let P : Held → Type 0 = λ h. generation_of h.conn d.begun ≡ Some h.generation in
    let Q : Available → Type 0 = λ a. generation_of a.conn d.begun ≡ Some a.generation in
    let back : Available = record { conn = h.conn; generation = h.generation; since = moment } in
    let own : P h = All-find P (λ (x : Held). eqb x.conn conn) p.lent h b.lent e in
    let pushed : All Q (p.available ++ returned p moment errored (held_of conn p.lent)) =
    rw e (elim (is_kept p errored h) as (λ k. All Q (p.available ++ cond k (back ∷ []) [])) [ true ↦ All-push Q p.available back b.available own | false ↦ rw append-nil b.available ]) in
    record {
      generation = b.generation;
      pending = b.pending;
      lent = All-filter _ P p.lent b.lent;
      available = pushed;
      later = b.later;
    }

BornIn-same : (p q : Pool) (d : Beginnings) → BornIn p d → q.generation ≡ p.generation → q.pending ≡ p.pending → q.lent ≡ p.lent → q.available ≡ p.available → q.dialled ≡ p.dialled → BornIn q d
BornIn-same p q d b g i j k n = record {
  generation = b.generation ∙ sym g;
  pending = rw i b.pending;
  lent = rw j b.lent;
  available = rw k b.available;
  later = λ conn l. b.later conn (rw (← n) l);
}

BornIn-after : (p : Pool) (moment : ℕ) (e : PoolEntry) (d : Beginnings) → BornIn p d → MayStand p moment e → BornIn (after p moment e) (dials_by d e)
BornIn-after p moment Ready d b m = BornIn-same p _ d b refl refl refl refl refl
BornIn-after p moment Clear d b m = record { generation = ap (λ n. n + 1) b.generation; pending = b.pending; lent = b.lent; available = b.available; later = b.later }
BornIn-after p moment Shut d b m = record { generation = b.generation; pending = b.pending; lent = b.lent; available = All-nil (λ (a : Available). generation_of a.conn d.begun ≡ Some a.generation); later = b.later }
BornIn-after p moment (Entered number) d b m = BornIn-same p _ d b refl refl refl refl refl
BornIn-after p moment (Left number) d b m = BornIn-same p _ d b refl refl refl refl refl
BornIn-after p moment (Lent number conn) d b m =
    let last = last_of-Some (last_of p.available) conn m.3 in BornIn-lent p moment number conn d last.0 b last.1
BornIn-after p moment (Dialled number conn) d b m = rw m.5 (BornIn-dialled p moment number d b)
BornIn-after p moment (Settled number conn true) d b m = BornIn-gone p conn d b
BornIn-after p moment (Settled number conn false) d b m = BornIn-settled p moment number conn d m.0 b m.1
BornIn-after p moment (NotLent number Closed) d b m = BornIn-same p _ d b refl refl refl refl refl
BornIn-after p moment (NotLent number (Cleared g)) d b m = BornIn-same p _ d b refl refl refl refl refl
BornIn-after p moment (NotLent number Late) d b m = BornIn-same p _ d b refl refl refl refl refl
BornIn-after p moment (NotLent number (Lost conn)) d b m = BornIn-gone p conn d b
BornIn-after p moment (CheckedIn number conn errored) d b m = BornIn-checked_in p moment number conn errored d m.0 b m.1
BornIn-after p moment (ConnShut conn reason) d b m = record { generation = b.generation; pending = b.pending; lent = b.lent; available = All-filter _ (λ (a : Available). generation_of a.conn d.begun ≡ Some a.generation) p.available b.available; later = b.later }

-- what must follow dials nothing and clears nothing
dials_by-owes : (p : Pool) (e : PoolEntry) (d : Beginnings) → state_after dials_by d (owes p e) ≡ d
dials_by-owes p Ready d = refl
dials_by-owes p Clear d = refl
dials_by-owes p Shut d = read-shuts dials_by d p.available (λ y c r. refl)
dials_by-owes p (Entered number) d = refl
dials_by-owes p (Left number) d = refl
dials_by-owes p (Lent number conn) d = refl
dials_by-owes p (Dialled number conn) d = refl
dials_by-owes p (Settled number conn true) d = refl
dials_by-owes p (Settled number conn false) d = refl
dials_by-owes p (NotLent number Closed) d = refl
dials_by-owes p (NotLent number (Cleared g)) d = refl
dials_by-owes p (NotLent number Late) d = refl
dials_by-owes p (NotLent number (Lost conn)) d = refl
dials_by-owes p (CheckedIn number conn errored) d = read-owes_shut dials_by d p errored (held_of conn p.lent) (λ y c r. refl)
dials_by-owes p (ConnShut conn reason) d = refl

BornIn-reads : Reads pool_judge Sound BornIn dials_by
BornIn-reads = record {
  keeps = Sound-keeps;
  each = λ p moment e d s b m. rw (dials_by-owes p e (dials_by d e)) (BornIn-after p moment e d b m);
}

BornIn-fresh : (rules : PoolRules) → BornIn (fresh_pool rules) none_begun
BornIn-fresh rules = record {
  generation = refl;
  pending = All-nil (λ (h : Held). generation_of h.conn [] ≡ Some h.generation);
  lent = All-nil (λ (h : Held). generation_of h.conn [] ≡ Some h.generation);
  available = All-nil (λ (a : Available). generation_of a.conn [] ≡ Some a.generation);
  later = λ conn l. refl;
}

-- the generations of a trail's dials
pub BornIn-legal : (rules : PoolRules) (ts : List (Timed PoolEntry)) → IsTrail rules ts →
    BornIn (place_behind rules ts).state (state_after dials_by (state_after dials_by none_begun (entries_of ts)) (place_behind rules ts).owed)
BornIn-legal rules ts l = Reads-legal pool_judge Sound BornIn dials_by BornIn-reads (fresh_pool rules) [] ts none_begun (Sound-fresh rules) (BornIn-fresh rules) l

-- the same with those that must follow
pub BornIn-trail : (rules : PoolRules) (ts : List (Timed PoolEntry)) → IsTrail rules ts →
    BornIn (place_behind rules ts).state (state_after dials_by none_begun (entries_and_owed rules ts))
BornIn-trail rules ts l = Reads-trail pool_judge Sound BornIn dials_by BornIn-reads (fresh_pool rules) ts none_begun (Sound-fresh rules) (BornIn-fresh rules) l

times-pairs : (conn : ℕ) (hs : List Held) → times (λ (q : Pair). eqb q.conn conn) (pairs_of hs) ≡ times_held conn hs
times-pairs conn [] = refl
times-pairs conn (h ∷ hs) = omega (arith, times-pairs conn hs)

and-right : (a b : Bool) → (a && b) ≡ true → b ≡ true
and-right true b e = e
and-right false b e = absurd (cc)

list_any-at : {X : Type 0} (p : X → Bool) (xs : List X) (k : ℕ) (x : X) → slice_get xs k ≡ Some x → p x ≡ true → list_any p xs ≡ true
list_any-at p [] k x e t = absurd (cc)
list_any-at p (y ∷ ys) zero x e t = let same : y ≡ x = cc in rw (same, t) refl
list_any-at p (y ∷ ys) (suc k) x e t = rw (list_any-at p ys k x e t) (or-true (p y)) where
  or-true : (b : Bool) → (b || true) ≡ true
  or-true true = refl
  or-true false = refl

-- an available connection of a swept pool is of its generation
swept_current : (p : Pool) (moment k : ℕ) (a : Available) → is_swept p moment ≡ true → slice_get p.available k ≡ Some a → a.generation ≡ p.generation
swept_current p moment k a s e =
    elim (eqb_tells a.generation p.generation) [
      | inl w ↦ w.1
      | inr w ↦
          let perished : is_perished p moment a ≡ true = rw w.0 refl in
          let some = list_any-at (is_perished p moment) p.available k a e perished in
          absurd (let no : not true ≡ true = rw some at s in cc)
    ]

counts_itself : (k : ℕ) → cond {A = ℕ} (eqb k k) 1 0 ≡ 1
counts_itself k = rw (eq-eqb k k refl) refl

-- what holds at a place where a connection is lent
free_at : (p : Pool) (owed es : List PoolEntry) (moment number conn : ℕ) → Sound p → Pays p owed →
    state_after lent_by (state_after lent_by [] es) owed ≡ pairs_of p.lent → state_after generation_by (state_after generation_by 0 es) owed ≡ p.generation →
    BornIn p (state_after dials_by (state_after dials_by none_begun es) owed) →
    ComesNext owed (Lent number conn) (MayStand p moment (Lent number conn)) → IsFree es conn
free_at p [] es moment number conn s h l g b m =
    let last = last_of-Some (last_of p.available) conn m.3 in
    let same = last-conn _ _ _ last.1 m.3 in
    let k = length p.available - 1 in
    let there = times-at (λ (a : Available). eqb a.conn conn) p.available k last.0 last.1 (eq-eqb _ _ same) in
    let absent : times_held conn p.lent ≡ 0 = omega (arith, s.once conn) in
    let none : times (λ (q : Pair). eqb q.conn conn) (state_after lent_by [] es) ≡ 0 = rw (l, times-pairs conn p.lent) absent in
    let current = swept_current p moment k last.0 (and-right _ _ m.2) last.1 in
    let own = All-at (λ (a : Available). generation_of a.conn (state_after dials_by none_begun es).begun ≡ Some a.generation) p.available k last.0 b.available last.1 in
    record {
      no_borrower = list_any-times_none _ _ none;
      current = subst (λ c. generation_of c (state_after dials_by none_begun es).begun ≡ Some (state_after generation_by 0 es)) same (own ∙ ap (λ n. Some n) (current ∙ sym g));
    }
free_at p (d ∷ ds) es moment number conn s h l g b m =
    paid p ds s (subst (λ e. Pays p (e ∷ ds)) (sym m) h) (subst (λ e. state_after lent_by (state_after lent_by [] es) (e ∷ ds) ≡ pairs_of p.lent) (sym m) l)
    (subst (λ e. state_after generation_by (state_after generation_by 0 es) (e ∷ ds) ≡ p.generation) (sym m) g)
    (subst (λ e. BornIn p (state_after dials_by (state_after dials_by none_begun es) (e ∷ ds))) (sym m) b) where
      lent_alone : (q : Pool) → Sound q → HasLent q number conn → state_after lent_by [] es ++ record { ticket = number; conn = conn } ∷ [] ≡ pairs_of q.lent →
          state_after generation_by 0 es ≡ q.generation → BornIn q (state_after dials_by none_begun es) → IsFree es conn
      lent_alone q sq x lq gq bq =
          let own = All-find (λ (k : Held). generation_of k.conn (state_after dials_by none_begun es).begun ≡ Some k.generation) (λ (k : Held). eqb k.conn conn) q.lent x.held bq.lent x.found in
          let same = eqb-true _ _ (find-passes (λ (k : Held). eqb k.conn conn) q.lent x.held x.found) in
          let pushed : times (λ (r : Pair). eqb r.conn conn) (state_after lent_by [] es ++ record { ticket = number; conn = conn } ∷ []) ≡ times (λ (r : Pair). eqb r.conn conn) (state_after lent_by [] es) + cond (eqb conn conn) 1 0 = times-push (λ (r : Pair). eqb r.conn conn) (state_after lent_by [] es) (record { ticket = number; conn = conn }) in
          let all : times (λ (r : Pair). eqb r.conn conn) (state_after lent_by [] es ++ record { ticket = number; conn = conn } ∷ []) ≡ times_held conn q.lent = rw lq (times-pairs conn q.lent) in
          let none : times (λ (r : Pair). eqb r.conn conn) (state_after lent_by [] es) ≡ 0 = omega (arith, sq.once conn, counts_itself conn) in
          record {
            no_borrower = list_any-times_none _ _ none;
            current = subst (λ c. generation_of c (state_after dials_by none_begun es).begun ≡ Some (state_after generation_by 0 es)) same (own ∙ ap (λ n. Some n) (x.current ∙ sym gq));
          }

      paid : (q : Pool) (xs : List PoolEntry) → Sound q → Pays q (Lent number conn ∷ xs) → state_after lent_by (state_after lent_by [] es) (Lent number conn ∷ xs) ≡ pairs_of q.lent →
          state_after generation_by (state_after generation_by 0 es) (Lent number conn ∷ xs) ≡ q.generation → BornIn q (state_after dials_by (state_after dials_by none_begun es) (Lent number conn ∷ xs)) → IsFree es conn
      paid q [] sq x lq gq bq = lent_alone q sq x.1 lq gq bq
      paid q (y ∷ ys) sq x lq gq bq = absurd (let no = x.0 in cc)

-- each connection that is lent was free
pub lent_free : (rules : PoolRules) (ts : List (Timed PoolEntry)) (moment number conn : ℕ) →
    IsTrail rules (ts ++ record { at = moment; what = Lent number conn } ∷ []) → IsFree (entries_of ts) conn
lent_free rules ts moment number conn l =
    let last : Timed PoolEntry = record { at = moment; what = Lent number conn } in
    let front = IsTrail-front pool_judge (fresh_pool rules) ts (last ∷ []) l in
    let rest = IsTrail-rest pool_judge (fresh_pool rules) ts (last ∷ []) l in
    let j = place_behind rules ts in
    free_at j.state j.owed (entries_of ts) moment number conn (Sound-trail rules ts front) (Pays-trail rules ts front)
    (ReadsAs-legal (λ p. pairs_of p.lent) lent_by ReadsAs-lent_by rules ts front)
    (ReadsAs-legal (λ p. p.generation) generation_by ReadsAs-generation_by rules ts front)
    (BornIn-legal rules ts front) rest.0
