-- A ticket is of the generation that the pool had as it entered.
use Rattle.std.proofs.Common.{◌≡◌, ℕ, ◌+◌, ◌<◌, ◌≤◌, Bool, true, false, eqb, List, [], ◌∷◌, ◌++◌, Some, None, refl, sym, ap, ◌∙◌, arith, inl, inr}
use Rattle.std.specs.Prelude.{All}
use Rattle.std.specs.List.{find}
use Rattle.std.proofs.lemmas.Bool.{eq-eqb}
use Rattle.std.proofs.lemmas.Bool.Decides.{eqb_tells}
use Rattle.std.proofs.lemmas.List.Elements.{All-nil, All-push, All-filter, All-weaker}
use Rattle.entry_judge.specs.declared.timed.Timed.{Timed}
use Rattle.entry_judge.specs.Judge.{state_after}
use Rattle.entry_judge.specs.InvariantLaws.{Reads, Reads-trail}
use Rattle.pool_book.specs.declared.rules.PoolRules.{PoolRules}
use Rattle.pool_book.specs.declared.ticket.Ticket.{Ticket}
use Rattle.pool_book.specs.Pool.{Pool, fresh_pool, held_of, without_ticket}
use Rattle.pool_book.specs.Entries.{PoolEntry, Ready, Clear, Shut, Entered, Left, Lent, Dialled, Settled, NotLent, CheckedIn, ConnShut, Closed, Cleared, Late, Lost, MayStand, after, owes, ticket_for}
use Rattle.pool_book.specs.Judge.{pool_judge, IsTrail, pool_behind, entries_and_owed}
use Rattle.pool_book.specs.Readings.{Begun, Beginnings, tickets_by}
use Rattle.pool_book.specs.Laws.{generation_of, none_begun}
use Rattle.pool_book.specs.Sound.{Sound}
use Rattle.pool_book.proofs.SoundLemmas.{Sound-keeps, Sound-fresh}
use Rattle.pool_book.proofs.ReadingLemmas.{read-shuts, read-owes_shut}
use Rattle.pool_book.proofs.LentLemmas.{find-append_none, generation_of-push}

-- each ticket that waits is of the generation in which it entered
pub record EnteredIn (p : Pool) (d : Beginnings) : Type 0 where
  pub generation : d.now ≡ p.generation
  pub waiting : All (λ t. generation_of t.number d.begun ≡ Some t.generation) p.waiting
  pub later : (number : ℕ) → p.entered ≤ number → find (λ (b : Begun). eqb b.number number) d.begun ≡ None

EnteredIn-same : (p q : Pool) (d : Beginnings) → EnteredIn p d → q.generation ≡ p.generation → q.waiting ≡ p.waiting → q.entered ≡ p.entered → EnteredIn q d
EnteredIn-same p q d b g w n = record {
  generation = b.generation ∙ sym g;
  waiting = rw w b.waiting;
  later = λ k l. b.later k (rw (← n) l);
}

EnteredIn-gone : (p : Pool) (number : ℕ) (d : Beginnings) → EnteredIn p d → All (λ t. generation_of t.number d.begun ≡ Some t.generation) (without_ticket number p.waiting)
EnteredIn-gone p number d b = All-filter _ (λ (t : Ticket). generation_of t.number d.begun ≡ Some t.generation) p.waiting b.waiting

EnteredIn-entered : (p : Pool) (moment : ℕ) (d : Beginnings) → EnteredIn p d → EnteredIn (after p moment (Entered p.entered)) (tickets_by d (Entered p.entered))
EnteredIn-entered p moment d b =
    let new : Begun = record { number = p.entered; generation = d.now } in
    let P : Ticket → Type 0 = λ t. generation_of t.number (d.begun ++ new ∷ []) ≡ Some t.generation in
    let none = b.later p.entered (omega arith) in
    let own : generation_of p.entered (d.begun ++ new ∷ []) ≡ Some p.generation =
    rw (find-append_none (λ (x : Begun). eqb x.number p.entered) d.begun new none, eq-eqb p.entered p.entered refl) (ap (λ n. Some n) b.generation) in
    record {
      generation = b.generation;
      waiting = All-push P p.waiting (ticket_for p moment) (All-weaker (λ (t : Ticket). generation_of t.number d.begun ≡ Some t.generation) P (λ t e. generation_of-push t.number t.generation d.begun new e) p.waiting b.waiting) own;
      later = λ k l. find-append_none (λ (x : Begun). eqb x.number k) d.begun new (b.later k (omega arith)) ∙
          elim (eqb_tells p.entered k) [ inl w ↦ absurd (omega (arith, w.1)) | inr w ↦ rw w.0 refl ];
    }

EnteredIn-after : (p : Pool) (moment : ℕ) (e : PoolEntry) (d : Beginnings) → EnteredIn p d → MayStand p moment e → EnteredIn (after p moment e) (tickets_by d e)
EnteredIn-after p moment Ready d b m = EnteredIn-same p _ d b refl refl refl
EnteredIn-after p moment Clear d b m = record { generation = ap (λ n. n + 1) b.generation; waiting = b.waiting; later = b.later }
EnteredIn-after p moment Shut d b m = EnteredIn-same p _ d b refl refl refl
EnteredIn-after p moment (Entered number) d b m = rw m (EnteredIn-entered p moment d b)
EnteredIn-after p moment (Left number) d b m = record { generation = b.generation; waiting = EnteredIn-gone p number d b; later = b.later }
EnteredIn-after p moment (Lent number conn) d b m = record { generation = b.generation; waiting = EnteredIn-gone p number d b; later = b.later }
EnteredIn-after p moment (Dialled number conn) d b m = record { generation = b.generation; waiting = EnteredIn-gone p number d b; later = b.later }
EnteredIn-after p moment (Settled number conn true) d b m = EnteredIn-same p _ d b refl refl refl
EnteredIn-after p moment (Settled number conn false) d b m = EnteredIn-same p _ d b refl refl refl
EnteredIn-after p moment (NotLent number Closed) d b m = record { generation = b.generation; waiting = EnteredIn-gone p number d b; later = b.later }
EnteredIn-after p moment (NotLent number (Cleared g)) d b m = record { generation = b.generation; waiting = EnteredIn-gone p number d b; later = b.later }
EnteredIn-after p moment (NotLent number Late) d b m = record { generation = b.generation; waiting = EnteredIn-gone p number d b; later = b.later }
EnteredIn-after p moment (NotLent number (Lost conn)) d b m = EnteredIn-same p _ d b refl refl refl
EnteredIn-after p moment (CheckedIn number conn errored) d b m = EnteredIn-same p _ d b refl refl refl
EnteredIn-after p moment (ConnShut conn reason) d b m = EnteredIn-same p _ d b refl refl refl

-- what must follow neither enters nor clears
tickets_by-owes : (p : Pool) (e : PoolEntry) (d : Beginnings) → state_after tickets_by d (owes p e) ≡ d
tickets_by-owes p Ready d = refl
tickets_by-owes p Clear d = refl
tickets_by-owes p Shut d = read-shuts tickets_by d p.available (λ y c r. refl)
tickets_by-owes p (Entered number) d = refl
tickets_by-owes p (Left number) d = refl
tickets_by-owes p (Lent number conn) d = refl
tickets_by-owes p (Dialled number conn) d = refl
tickets_by-owes p (Settled number conn true) d = refl
tickets_by-owes p (Settled number conn false) d = refl
tickets_by-owes p (NotLent number Closed) d = refl
tickets_by-owes p (NotLent number (Cleared g)) d = refl
tickets_by-owes p (NotLent number Late) d = refl
tickets_by-owes p (NotLent number (Lost conn)) d = refl
tickets_by-owes p (CheckedIn number conn errored) d = read-owes_shut tickets_by d p errored (held_of conn p.lent) (λ y c r. refl)
tickets_by-owes p (ConnShut conn reason) d = refl

EnteredIn-reads : Reads pool_judge Sound EnteredIn tickets_by
EnteredIn-reads = record {
  keeps = Sound-keeps;
  each = λ p moment e d s b m. rw (tickets_by-owes p e (tickets_by d e)) (EnteredIn-after p moment e d b m);
}

pub EnteredIn-trail : (rules : PoolRules) (ts : List (Timed PoolEntry)) → IsTrail rules ts →
    EnteredIn (pool_behind rules ts) (state_after tickets_by none_begun (entries_and_owed rules ts))
EnteredIn-trail rules ts l =
    Reads-trail pool_judge Sound EnteredIn tickets_by EnteredIn-reads (fresh_pool rules) ts none_begun (Sound-fresh rules)
    (record { generation = refl; waiting = All-nil (λ (t : Ticket). generation_of t.number [] ≡ Some t.generation); later = λ k l. refl }) l
