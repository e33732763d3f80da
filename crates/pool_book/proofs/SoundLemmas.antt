-- Every pool that a trail leads to is sound.
use Rattle.std.proofs.Common.{◌≡◌, ℕ, ◌+◌, ◌-◌, ◌≤◌, Bool, true, false, cond, eqb, List, [], ◌∷◌, ◌++◌, length, take, Option, Some, None, refl, subst, arith, inl, inr, ◌&&◌}
use Rattle.std.specs.Prelude.{option_to_list}
use Rattle.std.specs.Option.{option_map}
use Rattle.std.proofs.lemmas.Bool.{eqb-true}
use Rattle.std.proofs.lemmas.List.{append-nil}
use Rattle.std.proofs.lemmas.Bool.Decides.{eqb_tells}
use Rattle.std.proofs.lemmas.List.Elements.{All-nil, All-push, All-filter, All-weaker}
use Rattle.pool_book.specs.declared.rules.PoolRules.{PoolRules}
use Rattle.pool_book.specs.declared.state.PoolState.{PoolState}
use Rattle.pool_book.specs.declared.state.PoolState.TheVariants as state_of
use Rattle.pool_book.specs.declared.ticket.Ticket.{Ticket}
use Rattle.pool_book.specs.declared.connections.Held.{Held}
use Rattle.pool_book.specs.declared.connections.Available.{Available}
use Rattle.pool_book.specs.Pool.{Pool, fresh_pool, is_closed, is_ready, ticket_of, without_ticket, held_of, without_held, without_available, last_of, is_kept}
use Rattle.pool_book.specs.Entries.{PoolEntry, Ready, Clear, Shut, Entered, Left, Lent, Dialled, Settled, NotLent, CheckedIn, ConnShut, Closed, Cleared, Late, Lost, MayStand, after, owes, cleared_state, lend, returned, ticket_for}
use Rattle.entry_judge.specs.declared.timed.Timed.{Timed}
use Rattle.entry_judge.specs.Judge.{Legal, state_after}
use Rattle.entry_judge.specs.Groups.{Stands, ComesNext, Place, next_place, nothing_owed, entries_of}
use Rattle.entry_judge.specs.GroupLaws.{IsTrail-front, IsTrail-rest}
use Rattle.entry_judge.specs.InvariantLaws.{Keeps, Keeps-legal, KeepsOwed, KeepsOwed-legal, Reads, Reads-legal, Reads-trail}
use Rattle.pool_book.specs.Judge.{pool_judge, IsTrail, place_behind}
use Rattle.pool_book.specs.Sound.{Sound, times, times_held, times_available, times_of, times_waiting, times_holding, times_in}
use Rattle.pool_book.proofs.ListLemmas.{find-passes}
use Rattle.pool_book.proofs.TimesLemmas.{times-push, times-filter_most, times-taken, times-last}

-- a cleared pool is closed only if it was
is_closed-cleared : (s : PoolState) → is_closed (cleared_state s) ≡ true → is_closed s ≡ true
is_closed-cleared state_of.Paused e = e
is_closed-cleared state_of.Ready e = e
is_closed-cleared state_of.Closed e = e

-- a ticket that is served leaves the line
times_waiting-without_ticket : (number : ℕ) (ts : List Ticket) (t : Ticket) (k : ℕ) → ticket_of number ts ≡ Some t → times_waiting number ts ≤ 1 →
    times_waiting k (without_ticket number ts) + cond (eqb number k) 1 0 ≡ times_waiting k ts
times_waiting-without_ticket number ts t k e m =
    let taken = times-taken (λ (x : Ticket). eqb x.number k) (λ (x : Ticket). eqb x.number number) ts t e m in
    let same : t.number ≡ number = eqb-true _ _ (find-passes (λ (x : Ticket). eqb x.number number) ts t e) in
    subst (λ n. times_waiting k (without_ticket number ts) + cond (eqb n k) 1 0 ≡ times_waiting k ts) same taken

-- a connection that is lent leaves the available ones
times_held-lend : (number : ℕ) (xs : List Available) (hs : List Held) (a : Available) (k : ℕ) → last_of xs ≡ Some a →
    times_held k (hs ++ lend number (last_of xs)) + times_available k (take (length xs - 1) xs) ≡ times_held k hs + times_available k xs
times_held-lend number xs hs a k e =
    rw e (omega (arith, times-push (λ (h : Held). eqb h.conn k) hs (record { conn = a.conn; ticket = number; generation = a.generation }), times-last (λ (x : Available). eqb x.conn k) xs a e))

times_holding-lend : (number : ℕ) (xs : List Available) (hs : List Held) (a : Available) (k : ℕ) → last_of xs ≡ Some a →
    times_holding k (hs ++ lend number (last_of xs)) ≡ times_holding k hs + cond (eqb number k) 1 0
times_holding-lend number xs hs a k e =
    rw e (times-push (λ (h : Held). eqb h.ticket k) hs (record { conn = a.conn; ticket = number; generation = a.generation }))

-- there is a last one of which the number is given
pub last_of-Some : (o : Option Available) (conn : ℕ) → option_map (λ (a : Available). a.conn) o ≡ Some conn → (a : Available) × (o ≡ Some a)
last_of-Some None conn e = absurd (cc)
last_of-Some (Some a) conn e = (a, refl)

-- a connection that settles goes from the pending ones to the lent ones
times-settled : (q : Held → Bool) (conn : ℕ) (ps hs : List Held) (h : Held) → held_of conn ps ≡ Some h → times_held conn ps ≤ 1 →
    times q (without_held conn ps) + times q (hs ++ option_to_list (held_of conn ps)) ≡ times q ps + times q hs
times-settled q conn ps hs h e m =
    rw e (omega (arith, times-taken q (λ (x : Held). eqb x.conn conn) ps h e m, times-push q hs h))

-- one more of a number
add-cond_most_one : (n a k : ℕ) → n ≤ 1 → (a ≡ k → n ≡ 0) → n + cond (eqb a k) 1 0 ≤ 1
add-cond_most_one n a k most none =
    elim (eqb_tells a k) [
      | inl same ↦ let zero_of = none same.1 in rw same.0 (omega arith)
      | inr other ↦ rw other.0 (omega arith)
    ]

add-cond_none : (n a k : ℕ) → n ≡ 0 → (a ≡ k → ⊥) → n + cond (eqb a k) 1 0 ≡ 0
add-cond_none n a k none other =
    elim (eqb_tells a k) [
      | inl same ↦ absurd (other same.1)
      | inr differ ↦ rw differ.0 (omega arith)
    ]

pub Sound-entered : (p : Pool) (moment : ℕ) → Sound p → Sound (after p moment (Entered p.entered))
Sound-entered p moment s =
    let more : (k : ℕ) → times_in (after p moment (Entered p.entered)) k ≡ times_in p k + cond (eqb p.entered k) 1 0 = λ k.
    let pushed : times_waiting k (p.waiting ++ ticket_for p moment ∷ []) ≡ times_waiting k p.waiting + cond (eqb p.entered k) 1 0 = times-push (λ (t : Ticket). eqb t.number k) p.waiting (ticket_for p moment) in
    omega arith in
    record {
      once = s.once;
      dialled = s.dialled;
      one_place = λ k. rw (more k) (add-cond_most_one _ _ _ (s.one_place k) (λ same. s.entered k (omega arith)));
      entered = λ k l. rw (more k) (add-cond_none _ _ _ (s.entered k (omega arith)) (λ same. omega arith));
      shut = s.shut;
      current = All-push (λ (t : Ticket). t.generation ≤ p.generation) p.waiting (ticket_for p moment) s.current (omega arith);
    }

-- a ticket that leaves the line for nothing
pub Sound-left : (p : Pool) (number : ℕ) → Sound p → Sound (record p { waiting = without_ticket number p.waiting })
Sound-left p number s =
    let fewer : (k : ℕ) → times_waiting k (without_ticket number p.waiting) ≤ times_waiting k p.waiting = λ k. times-filter_most _ _ p.waiting in
    record {
      once = s.once;
      dialled = s.dialled;
      one_place = λ k. omega (arith, fewer k, s.one_place k);
      entered = λ k l. omega (arith, fewer k, s.entered k l);
      shut = s.shut;
      current = All-filter _ (λ (t : Ticket). t.generation ≤ p.generation) p.waiting s.current;
    }

-- pending connections that are gone
pub Sound-gone : (p : Pool) (conn : ℕ) → Sound p → Sound (record p { pending = without_held conn p.pending })
Sound-gone p conn s =
    let fewer : (k : ℕ) → times_held k (without_held conn p.pending) ≤ times_held k p.pending = λ k. times-filter_most _ _ p.pending in
    let fewer' : (k : ℕ) → times_holding k (without_held conn p.pending) ≤ times_holding k p.pending = λ k. times-filter_most _ _ p.pending in
    record {
      once = λ k. omega (arith, fewer k, s.once k);
      dialled = λ k l. omega (arith, fewer k, s.dialled k l);
      one_place = λ k. omega (arith, fewer' k, s.one_place k);
      entered = λ k l. omega (arith, fewer' k, s.entered k l);
      shut = s.shut;
      current = s.current;
    }

-- available connections that are gone
pub Sound-swept : (p : Pool) (conn : ℕ) → Sound p → Sound (record p { available = without_available conn p.available })
Sound-swept p conn s =
    let fewer : (k : ℕ) → times_available k (without_available conn p.available) ≤ times_available k p.available = λ k. times-filter_most _ _ p.available in
    record {
      once = λ k. omega (arith, fewer k, s.once k);
      dialled = λ k l. omega (arith, fewer k, s.dialled k l);
      one_place = s.one_place;
      entered = s.entered;
      shut = λ e. rw (s.shut e) refl;
      current = s.current;
    }

pub Sound-lent : (p : Pool) (moment number conn : ℕ) (t : Ticket) (a : Available) → Sound p → ticket_of number p.waiting ≡ Some t →
    last_of p.available ≡ Some a → is_closed p.state ≡ false → Sound (after p moment (Lent number conn))
Sound-lent p moment number conn t a s h last open' =
    let q = after p moment (Lent number conn) in
    let alone : times_waiting number p.waiting ≤ 1 = omega (arith, s.one_place number) in
    let conns : (k : ℕ) → times_of q k ≡ times_of p k = λ k. omega (arith, times_held-lend number p.available p.lent a k last) in
    let tickets : (k : ℕ) → times_in q k ≡ times_in p k = λ k. omega (arith, times_waiting-without_ticket number p.waiting t k h alone, times_holding-lend number p.available p.lent a k last) in
    record {
      once = λ k. rw (conns k) (s.once k);
      dialled = λ k l. rw (conns k) (s.dialled k l);
      one_place = λ k. rw (tickets k) (s.one_place k);
      entered = λ k l. rw (tickets k) (s.entered k l);
      shut = λ e. absurd (cc);
      current = All-filter _ (λ (t : Ticket). t.generation ≤ p.generation) p.waiting s.current;
    }

pub Sound-dialled : (p : Pool) (moment number : ℕ) (t : Ticket) → Sound p → ticket_of number p.waiting ≡ Some t →
    Sound (after p moment (Dialled number (p.dialled + 1)))
Sound-dialled p moment number t s h =
    let q = after p moment (Dialled number (p.dialled + 1)) in
    let new : Held = record { conn = p.dialled + 1; ticket = number; generation = p.generation } in
    let alone : times_waiting number p.waiting ≤ 1 = omega (arith, s.one_place number) in
    let conns : (k : ℕ) → times_of q k ≡ times_of p k + cond (eqb (p.dialled + 1) k) 1 0 = λ k.
    let pushed : times_held k (p.pending ++ new ∷ []) ≡ times_held k p.pending + cond (eqb (p.dialled + 1) k) 1 0 = times-push (λ (x : Held). eqb x.conn k) p.pending new in
    omega arith in
    let tickets : (k : ℕ) → times_in q k ≡ times_in p k = λ k.
    let pushed : times_holding k (p.pending ++ new ∷ []) ≡ times_holding k p.pending + cond (eqb number k) 1 0 = times-push (λ (x : Held). eqb x.ticket k) p.pending new in
    omega (arith, times_waiting-without_ticket number p.waiting t k h alone) in
    record {
      once = λ k. rw (conns k) (add-cond_most_one _ _ _ (s.once k) (λ same. s.dialled k (omega arith)));
      dialled = λ k l. rw (conns k) (add-cond_none _ _ _ (s.dialled k (omega arith)) (λ same. omega arith));
      one_place = λ k. rw (tickets k) (s.one_place k);
      entered = λ k l. rw (tickets k) (s.entered k l);
      shut = s.shut;
      current = All-filter _ (λ (t : Ticket). t.generation ≤ p.generation) p.waiting s.current;
    }

pub Sound-settled : (p : Pool) (moment number conn : ℕ) (h : Held) → Sound p → held_of conn p.pending ≡ Some h →
    Sound (after p moment (Settled number conn false))
Sound-settled p moment number conn h s e =
    let q = after p moment (Settled number conn false) in
    let alone : times_held conn p.pending ≤ 1 = omega (arith, s.once conn) in
    let conns : (k : ℕ) → times_of q k ≡ times_of p k = λ k. omega (arith, times-settled (λ (x : Held). eqb x.conn k) conn p.pending p.lent h e alone) in
    let tickets : (k : ℕ) → times_in q k ≡ times_in p k = λ k. omega (arith, times-settled (λ (x : Held). eqb x.ticket k) conn p.pending p.lent h e alone) in
    record {
      once = λ k. rw (conns k) (s.once k);
      dialled = λ k l. rw (conns k) (s.dialled k l);
      one_place = λ k. rw (tickets k) (s.one_place k);
      entered = λ k l. rw (tickets k) (s.entered k l);
      shut = s.shut;
      current = s.current;
    }

-- a connection that is checked in goes from the lent ones to the available ones, where it is kept
times-returned_most : (p : Pool) (moment : ℕ) (errored : Bool) (conn k : ℕ) (h : Held) → held_of conn p.lent ≡ Some h → times_held conn p.lent ≤ 1 →
    times_held k (without_held conn p.lent) + times_available k (p.available ++ returned p moment errored (held_of conn p.lent))
    ≤ times_held k p.lent + times_available k p.available
times-returned_most p moment errored conn k h e m =
    let taken = times-taken (λ (x : Held). eqb x.conn k) (λ (x : Held). eqb x.conn conn) p.lent h e m in
    let back : Available = record { conn = h.conn; generation = h.generation; since = moment } in
    rw e (elim (is_kept p errored h) as (λ b. times_held k (without_held conn p.lent) + times_available k (p.available ++ cond b (back ∷ []) []) ≤ times_held k p.lent + times_available k p.available) [
      | true ↦
          let pushed : times_available k (p.available ++ back ∷ []) ≡ times_available k p.available + cond (eqb h.conn k) 1 0 = times-push (λ (x : Available). eqb x.conn k) p.available back in
          omega arith
      | false ↦
          let same : times_available k (p.available ++ []) ≡ times_available k p.available = rw append-nil refl in
          omega arith
    ])

returned-closed : (p : Pool) (moment : ℕ) (errored : Bool) (o : Option Held) → is_closed p.state ≡ true → returned p moment errored o ≡ []
returned-closed p moment errored None c = refl
returned-closed p moment true (Some h) c = refl
returned-closed p moment false (Some h) c = rw c refl

pub Sound-checked_in : (p : Pool) (moment number conn : ℕ) (errored : Bool) (h : Held) → Sound p → held_of conn p.lent ≡ Some h →
    Sound (after p moment (CheckedIn number conn errored))
Sound-checked_in p moment number conn errored h s e =
    let alone : times_held conn p.lent ≤ 1 = omega (arith, s.once conn) in
    let conns : (k : ℕ) → times_of (after p moment (CheckedIn number conn errored)) k ≤ times_of p k = λ k. omega (arith, times-returned_most p moment errored conn k h e alone) in
    let tickets : (k : ℕ) → times_holding k (without_held conn p.lent) ≤ times_holding k p.lent = λ k. times-filter_most _ _ p.lent in
    record {
      once = λ k. omega (arith, conns k, s.once k);
      dialled = λ k l. omega (arith, conns k, s.dialled k l);
      one_place = λ k. omega (arith, tickets k, s.one_place k);
      entered = λ k l. omega (arith, tickets k, s.entered k l);
      shut = λ c. rw (returned-closed p moment errored (held_of conn p.lent) c, s.shut c) refl;
      current = s.current;
    }

pub Sound-ready : (p : Pool) → Sound p → Sound (record p { state = state_of.Ready })
Sound-ready p s = record {
  once = s.once;
  dialled = s.dialled;
  one_place = s.one_place;
  entered = s.entered;
  shut = λ e. absurd (cc);
  current = s.current;
}

pub Sound-clear : (p : Pool) (moment : ℕ) → Sound p → Sound (after p moment Clear)
Sound-clear p moment s = record {
  once = s.once;
  dialled = s.dialled;
  one_place = s.one_place;
  entered = s.entered;
  shut = λ e. s.shut (is_closed-cleared p.state e);
  current = All-weaker (λ (t : Ticket). t.generation ≤ p.generation) (λ (t : Ticket). t.generation ≤ p.generation + 1) (λ t l. omega arith) p.waiting s.current;
}

pub Sound-shut : (p : Pool) (moment : ℕ) → Sound p → Sound (after p moment Shut)
Sound-shut p moment s = record {
  once = λ k. omega (arith, s.once k);
  dialled = λ k l. omega (arith, s.dialled k l);
  one_place = s.one_place;
  entered = s.entered;
  shut = λ _. refl;
  current = s.current;
}

-- the pool is not closed where a ticket is served
is_served-open : (s : PoolState) (b c d : Bool) → (is_ready s && b && c && d) ≡ true → is_closed s ≡ false
is_served-open state_of.Paused b c d e = refl
is_served-open state_of.Ready b c d e = refl
is_served-open state_of.Closed b c d e = absurd (cc)

-- a sound pool is sound behind an entry that may stand
pub Sound-after : (p : Pool) (moment : ℕ) (e : PoolEntry) → Sound p → MayStand p moment e → Sound (after p moment e)
Sound-after p moment Ready s m = Sound-ready p s
Sound-after p moment Clear s m = Sound-clear p moment s
Sound-after p moment Shut s m = Sound-shut p moment s
Sound-after p moment (Entered number) s m = Sound-entered p moment s
Sound-after p moment (Left number) s m = Sound-left p number s
Sound-after p moment (Lent number conn) s m =
    let last = last_of-Some (last_of p.available) conn m.3 in
    Sound-lent p moment number conn m.0 last.0 s m.1 last.1 (is_served-open p.state _ _ _ m.2)
Sound-after p moment (Dialled number conn) s m = rw m.5 (Sound-dialled p moment number m.0 s m.1)
Sound-after p moment (Settled number conn true) s m = Sound-gone p conn s
Sound-after p moment (Settled number conn false) s m = Sound-settled p moment number conn m.0 s m.1
Sound-after p moment (NotLent number Closed) s m = Sound-left p number s
Sound-after p moment (NotLent number (Cleared g)) s m = Sound-left p number s
Sound-after p moment (NotLent number Late) s m = Sound-left p number s
Sound-after p moment (NotLent number (Lost conn)) s m = Sound-gone p conn s
Sound-after p moment (CheckedIn number conn errored) s m = Sound-checked_in p moment number conn errored m.0 s m.1
Sound-after p moment (ConnShut conn reason) s m = Sound-swept p conn s

-- behind an entry a connection that was dialled stands no more often than ahead of it, and the dials go on
pub times_of-after : (p : Pool) (moment : ℕ) (e : PoolEntry) (k : ℕ) → Sound p → MayStand p moment e → k ≤ p.dialled →
    (times_of (after p moment e) k ≤ times_of p k) × (p.dialled ≤ (after p moment e).dialled)
times_of-after p moment Ready k s m d = (omega arith, omega arith)
times_of-after p moment Clear k s m d = (omega arith, omega arith)
times_of-after p moment Shut k s m d = (omega arith, omega arith)
times_of-after p moment (Entered number) k s m d = (omega arith, omega arith)
times_of-after p moment (Left number) k s m d = (omega arith, omega arith)
times_of-after p moment (Lent number conn) k s m d =
    let last = last_of-Some (last_of p.available) conn m.3 in
    (omega (arith, times_held-lend number p.available p.lent last.0 k last.1), omega arith)
times_of-after p moment (Dialled number conn) k s m d =
    let new : Held = record { conn = conn; ticket = number; generation = p.generation } in
    let pushed : times_held k (p.pending ++ new ∷ []) ≡ times_held k p.pending + cond (eqb conn k) 1 0 = times-push (λ (x : Held). eqb x.conn k) p.pending new in
    let other : eqb conn k ≡ false = elim (eqb_tells conn k) [ inl w ↦ absurd (omega (arith, w.1, m.5)) | inr w ↦ w.0 ] in
    let none : cond {A = ℕ} (eqb conn k) 1 0 ≡ 0 = rw other refl in
    (omega (arith, none), omega (arith, m.5))
times_of-after p moment (Settled number conn true) k s m d =
    let fewer : times_held k (without_held conn p.pending) ≤ times_held k p.pending = times-filter_most _ _ p.pending in (omega arith, omega arith)
times_of-after p moment (Settled number conn false) k s m d =
    let alone : times_held conn p.pending ≤ 1 = omega (arith, s.once conn) in
    (omega (arith, times-settled (λ (x : Held). eqb x.conn k) conn p.pending p.lent m.0 m.1 alone), omega arith)
times_of-after p moment (NotLent number Closed) k s m d = (omega arith, omega arith)
times_of-after p moment (NotLent number (Cleared g)) k s m d = (omega arith, omega arith)
times_of-after p moment (NotLent number Late) k s m d = (omega arith, omega arith)
times_of-after p moment (NotLent number (Lost conn)) k s m d =
    let fewer : times_held k (without_held conn p.pending) ≤ times_held k p.pending = times-filter_most _ _ p.pending in (omega arith, omega arith)
times_of-after p moment (CheckedIn number conn errored) k s m d =
    let alone : times_held conn p.lent ≤ 1 = omega (arith, s.once conn) in
    (omega (arith, times-returned_most p moment errored conn k m.0 m.1 alone), omega arith)
times_of-after p moment (ConnShut conn reason) k s m d =
    let fewer : times_available k (without_available conn p.available) ≤ times_available k p.available = times-filter_most _ _ p.available in (omega arith, omega arith)

pub Sound-keeps : Keeps pool_judge Sound
Sound-keeps = record { each = Sound-after }

pub Sound-fresh : (rules : PoolRules) → Sound (fresh_pool rules)
Sound-fresh rules = record {
  once = λ k. omega arith;
  dialled = λ k l. refl;
  one_place = λ k. omega arith;
  entered = λ k l. refl;
  shut = λ _. refl;
  current = All-nil (λ (t : Ticket). t.generation ≤ 0);
}

-- the pool behind a trail is sound
pub Sound-trail : (rules : PoolRules) (ts : List (Timed PoolEntry)) → IsTrail rules ts → Sound (place_behind rules ts).state
Sound-trail rules ts l = Keeps-legal pool_judge Sound Sound-keeps (fresh_pool rules) [] ts (Sound-fresh rules) l
