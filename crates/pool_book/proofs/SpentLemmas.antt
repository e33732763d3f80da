-- A ticket that waited at a clear gets no connection afterwards.
use Rattle.std.proofs.Common.{◌≡◌, ℕ, ◌+◌, ◌<◌, ◌≤◌, Bool, true, false, not, ◌&&◌, ◌||◌, cond, eqb, ltb, List, [], ◌∷◌, ◌++◌, map, Option, Some, None, refl, sym, ◌∙◌, subst, arith, inl, inr}
use Rattle.std.specs.Prelude.{All}
use Rattle.std.specs.List.{list_any}
use Rattle.std.proofs.lemmas.Bool.{eqb-true, eq-eqb, ltb-false, cases_lt, cases_Bool}
use Rattle.std.proofs.lemmas.Bool.Decides.{eqb_tells}
use Rattle.std.proofs.lemmas.List.Elements.{All-push, All-filter, All-weaker}
use Rattle.wait_line.specs.Queue.{is_among}
use Rattle.pool_book.specs.declared.rules.PoolRules.{PoolRules}
use Rattle.pool_book.specs.declared.ticket.Ticket.{Ticket}
use Rattle.pool_book.specs.declared.connections.Held.{Held}
use Rattle.pool_book.specs.declared.connections.Available.{Available}
use Rattle.pool_book.specs.declared.answers.CloseReason.TheVariants.{PoolClosed}
use Rattle.pool_book.specs.Pool.{Pool, fresh_pool, is_closed, is_paused, is_ready, ticket_of, without_ticket, numbers_of, held_of, without_held, is_cleared, is_served, is_kept, shut_reason}
use Rattle.pool_book.specs.Entries.{PoolEntry, Ready, Clear, Shut, Entered, Left, Lent, Dialled, Settled, NotLent, CheckedIn, ConnShut, Closed, Cleared, Late, Lost, MayStand, after, owes, owes_shut, refusal, ticket_for}
use Rattle.entry_judge.specs.declared.timed.Timed.{Timed}
use Rattle.entry_judge.specs.Judge.{Legal, state_after}
use Rattle.entry_judge.specs.Groups.{Stands, ComesNext, Place, next_place, nothing_owed, entries_of}
use Rattle.entry_judge.specs.GroupLaws.{IsTrail-front, IsTrail-rest}
use Rattle.entry_judge.specs.InvariantLaws.{Keeps, Keeps-legal, KeepsOwed, KeepsOwed-legal, Reads, Reads-legal, Reads-trail}
use Rattle.pool_book.specs.Judge.{pool_judge, IsTrail, place_behind}
use Rattle.pool_book.specs.Sound.{Sound, times_waiting, times_holding}
use Rattle.pool_book.specs.Readings.{waiting_by}
use Rattle.pool_book.specs.Laws.{serves, misses}
use Rattle.pool_book.proofs.ListLemmas.{find-passes}
use Rattle.pool_book.proofs.TimesLemmas.{times-push, times-filter_most}
use Rattle.pool_book.proofs.SoundLemmas.{Sound-trail, Sound-fresh}
use Rattle.pool_book.proofs.ReadingLemmas.{ReadsAs-waiting_by, ReadsAs-legal, times-found_by}
use Rattle.pool_book.proofs.LentLemmas.{Pays, Pays-trail, All-find}

-- the ticket waits with an older generation, if at all; it entered, and dials nothing
pub record Spent (number : ℕ) (p : Pool) : Type 0 where
  pub older : All (λ t. t.number ≡ number → t.generation < p.generation) p.waiting
  pub entered : number < p.entered
  pub idle : times_holding number p.pending ≡ 0

-- nothing that must follow serves it
abbrev pub Unpaid : ℕ → List PoolEntry → Type 0
Unpaid number ds = list_any (serves number) ds ≡ false

served_current : (ready cleared first swept : Bool) → (ready && not cleared && first && swept) ≡ true → cleared ≡ false
served_current true false first swept e = refl
served_current true true first swept e = absurd (cc)
served_current false cleared first swept e = absurd (cc)

not_older : (paused older : Bool) → (paused || older) ≡ false → older ≡ false
not_older false older e = e
not_older true older e = absurd (cc)

-- a pool is cleared for it
Spent-cleared : (p : Pool) (number k : ℕ) (t : Ticket) → Spent number p → ticket_of k p.waiting ≡ Some t → k ≡ number →
    is_cleared p.state p.generation t.generation ≡ false → ⊥
Spent-cleared p number k t s e same cleared =
    let mine : t.number ≡ number = eqb-true _ _ (find-passes (λ (x : Ticket). eqb x.number k) p.waiting t e) ∙ same in
    let older = All-find (λ (x : Ticket). x.number ≡ number → x.generation < p.generation) (λ (x : Ticket). eqb x.number k) p.waiting t s.older e mine in
    let current : ltb t.generation p.generation ≡ false = not_older (is_paused p.state) (ltb t.generation p.generation) cleared in
    let late : p.generation ≤ t.generation = ltb-false _ _ current in
    omega (arith, older)

-- it is not served
Spent-unserved : (p : Pool) (moment number k : ℕ) (t : Ticket) → Spent number p → ticket_of k p.waiting ≡ Some t → is_served p moment t ≡ true → k ≡ number → ⊥
Spent-unserved p moment number k t s e served same =
    Spent-cleared p number k t s e same (served_current (is_ready p.state) (is_cleared p.state p.generation t.generation) _ _ served)

eqb-differs : (a b : ℕ) → (a ≡ b → ⊥) → eqb a b ≡ false
eqb-differs a b h = elim (eqb_tells a b) [ inl w ↦ absurd (h w.1) | inr w ↦ w.0 ]

-- what fewer are of, there are none of
Spent-fewer : (p : Pool) (number conn : ℕ) → Spent number p → Spent number (record p { pending = without_held conn p.pending })
Spent-fewer p number conn s =
    let fewer : times_holding number (without_held conn p.pending) ≤ times_holding number p.pending = times-filter_most _ _ p.pending in
    record { older = s.older; entered = s.entered; idle = omega (arith, s.idle) }

older_still : (p : Pool) (number k : ℕ) → Spent number p → All (λ t. t.number ≡ number → t.generation < p.generation) (without_ticket k p.waiting)
older_still p number k s = All-filter _ (λ (t : Ticket). t.number ≡ number → t.generation < p.generation) p.waiting s.older

Spent-dialled : (p : Pool) (moment number k conn : ℕ) (t : Ticket) → Spent number p → ticket_of k p.waiting ≡ Some t → is_served p moment t ≡ true →
    Spent number (after p moment (Dialled k conn))
Spent-dialled p moment number k conn t s e served =
    let new : Held = record { conn = conn; ticket = k; generation = p.generation } in
    let pushed : times_holding number (p.pending ++ new ∷ []) ≡ times_holding number p.pending + cond {A = ℕ} (eqb k number) 1 0 = times-push (λ (h : Held). eqb h.ticket number) p.pending new in
    let no : cond {A = ℕ} (eqb k number) 1 0 ≡ 0 = rw (eqb-differs k number (Spent-unserved p moment number k t s e served)) refl in
    record { older = older_still p number k s; entered = s.entered; idle = omega (arith, s.idle) }

Spent-after : (p : Pool) (moment : ℕ) (e : PoolEntry) (number : ℕ) → Spent number p → MayStand p moment e → Spent number (after p moment e)
Spent-after p moment Ready number s m = record { older = s.older; entered = s.entered; idle = s.idle }
Spent-after p moment Clear number s m = record {
  older = All-weaker (λ (t : Ticket). t.number ≡ number → t.generation < p.generation) (λ (t : Ticket). t.number ≡ number → t.generation < p.generation + 1) (λ t older same. let less = older same in omega arith) p.waiting s.older;
  entered = s.entered;
  idle = s.idle;
}
Spent-after p moment Shut number s m = record { older = s.older; entered = s.entered; idle = s.idle }
Spent-after p moment (Entered k) number s m = record {
  older = All-push (λ (t : Ticket). t.number ≡ number → t.generation < p.generation) p.waiting (ticket_for p moment) s.older (λ same. absurd (omega (arith, s.entered, same)));
  entered = omega (arith, s.entered);
  idle = s.idle;
}
Spent-after p moment (Left k) number s m = record { older = older_still p number k s; entered = s.entered; idle = s.idle }
Spent-after p moment (Lent k conn) number s m = record { older = older_still p number k s; entered = s.entered; idle = s.idle }
Spent-after p moment (Dialled k conn) number s m = Spent-dialled p moment number k conn m.0 s m.1 m.2
Spent-after p moment (Settled k conn true) number s m = Spent-fewer p number conn s
Spent-after p moment (Settled k conn false) number s m = let t = Spent-fewer p number conn s in record { older = t.older; entered = t.entered; idle = t.idle }
Spent-after p moment (NotLent k Closed) number s m = record { older = older_still p number k s; entered = s.entered; idle = s.idle }
Spent-after p moment (NotLent k (Cleared g)) number s m = record { older = older_still p number k s; entered = s.entered; idle = s.idle }
Spent-after p moment (NotLent k Late) number s m = record { older = older_still p number k s; entered = s.entered; idle = s.idle }
Spent-after p moment (NotLent k (Lost conn)) number s m = Spent-fewer p number conn s
Spent-after p moment (CheckedIn k conn errored) number s m = record { older = s.older; entered = s.entered; idle = s.idle }
Spent-after p moment (ConnShut conn reason) number s m = record { older = s.older; entered = s.entered; idle = s.idle }

Unpaid-shuts : (number : ℕ) (xs : List Available) → Unpaid number (map (λ a. ConnShut a.conn PoolClosed) xs)
Unpaid-shuts number [] = refl
Unpaid-shuts number (a ∷ xs) = Unpaid-shuts number xs

Unpaid-owes_shut : (number : ℕ) (p : Pool) (errored : Bool) (o : Option Held) → Unpaid number (owes_shut p errored o)
Unpaid-owes_shut number p errored None = refl
Unpaid-owes_shut number p errored (Some h) =
    elim (is_kept p errored h) as (λ b. Unpaid number (cond b [] (ConnShut h.conn (shut_reason p.state errored) ∷ []))) [ true ↦ refl | false ↦ refl ]

-- who dials is not spent
Spent-dials : (p : Pool) (number k conn : ℕ) (h : Held) → Spent number p → held_of conn p.pending ≡ Some h → k ≡ h.ticket → eqb k number ≡ false
Spent-dials p number k conn h s e n =
    eqb-differs k number (λ same.
    let mine : h.ticket ≡ number = sym n ∙ same in
    let dials = times-found_by (λ (x : Held). eqb x.conn conn) (λ (x : Held). eqb x.ticket number) p.pending h e (eq-eqb _ _ mine) in
    omega (arith, s.idle))

Unpaid-owes : (p : Pool) (moment : ℕ) (e : PoolEntry) (number : ℕ) → Spent number p → MayStand p moment e → Unpaid number (owes p e)
Unpaid-owes p moment Ready number s m = refl
Unpaid-owes p moment Clear number s m = refl
Unpaid-owes p moment Shut number s m = Unpaid-shuts number p.available
Unpaid-owes p moment (Entered k) number s m = refl
Unpaid-owes p moment (Left k) number s m = refl
Unpaid-owes p moment (Lent k conn) number s m = refl
Unpaid-owes p moment (Dialled k conn) number s m = refl
Unpaid-owes p moment (Settled k conn true) number s m = refl
Unpaid-owes p moment (Settled k conn false) number s m = rw (Spent-dials p number k conn m.0 s m.1 m.2) refl
Unpaid-owes p moment (NotLent k Closed) number s m = refl
Unpaid-owes p moment (NotLent k (Cleared g)) number s m = refl
Unpaid-owes p moment (NotLent k Late) number s m = refl
Unpaid-owes p moment (NotLent k (Lost conn)) number s m = refl
Unpaid-owes p moment (CheckedIn k conn errored) number s m = Unpaid-owes_shut number p errored (held_of conn p.lent)
Unpaid-owes p moment (ConnShut conn reason) number s m = refl

-- nothing that must follow refuses it otherwise than as closed or cleared
abbrev pub Unmissed : ℕ → List PoolEntry → Type 0
Unmissed number ds = list_any (misses number) ds ≡ false

Unmissed-shuts : (number : ℕ) (xs : List Available) → Unmissed number (map (λ a. ConnShut a.conn PoolClosed) xs)
Unmissed-shuts number [] = refl
Unmissed-shuts number (a ∷ xs) = Unmissed-shuts number xs

Unmissed-owes_shut : (number : ℕ) (p : Pool) (errored : Bool) (o : Option Held) → Unmissed number (owes_shut p errored o)
Unmissed-owes_shut number p errored None = refl
Unmissed-owes_shut number p errored (Some h) =
    elim (is_kept p errored h) as (λ b. Unmissed number (cond b [] (ConnShut h.conn (shut_reason p.state errored) ∷ []))) [ true ↦ refl | false ↦ refl ]

Unmissed-refusal : (number k conn : ℕ) (p : Pool) → Unmissed number (ConnShut conn (shut_reason p.state false) ∷ NotLent k (refusal p) ∷ [])
Unmissed-refusal number k conn p =
    elim (is_closed p.state) as (λ b. (misses number (NotLent k (cond b Closed (Cleared p.generation))) || false) ≡ false) [ true ↦ refl | false ↦ refl ]

Unmissed-owes : (p : Pool) (e : PoolEntry) (number : ℕ) → Unmissed number (owes p e)
Unmissed-owes p Ready number = refl
Unmissed-owes p Clear number = refl
Unmissed-owes p Shut number = Unmissed-shuts number p.available
Unmissed-owes p (Entered k) number = refl
Unmissed-owes p (Left k) number = refl
Unmissed-owes p (Lent k conn) number = refl
Unmissed-owes p (Dialled k conn) number = refl
Unmissed-owes p (Settled k conn true) number = Unmissed-refusal number k conn p
Unmissed-owes p (Settled k conn false) number = refl
Unmissed-owes p (NotLent k Closed) number = refl
Unmissed-owes p (NotLent k (Cleared g)) number = refl
Unmissed-owes p (NotLent k Late) number = refl
Unmissed-owes p (NotLent k (Lost conn)) number = refl
Unmissed-owes p (CheckedIn k conn errored) number = Unmissed-owes_shut number p errored (held_of conn p.lent)
Unmissed-owes p (ConnShut conn reason) number = refl

neither : (a b : Bool) → (a || b) ≡ false → (a ≡ false) × (b ≡ false)
neither false b e = (refl, e)
neither true b e = absurd (cc)

-- a ticket that is spent stays so, and nobody must serve it
pub record StaysSpent (number : ℕ) (j : Place Pool PoolEntry) : Type 0 where
  pub spent : Spent number j.state
  pub unpaid : Unpaid number j.owed
  pub unmissed : Unmissed number j.owed

Spent-legal : (number : ℕ) (p : Pool) (owed : List PoolEntry) (ts : List (Timed PoolEntry)) → Spent number p → Unpaid number owed → Unmissed number owed →
    Legal (Stands pool_judge) (next_place pool_judge) (record { state = p; owed = owed }) ts → StaysSpent number (state_after (next_place pool_judge) (record { state = p; owed = owed }) ts)
Spent-legal number p owed [] s u v l = record { spent = s; unpaid = u; unmissed = v }
Spent-legal number p [] (t ∷ ts) s u v l =
    Spent-legal number (after p t.at t.what) (owes p t.what) ts (Spent-after p t.at t.what number s l.0) (Unpaid-owes p t.at t.what number s l.0) (Unmissed-owes p t.what number) l.1
Spent-legal number p (d ∷ ds) (t ∷ ts) s u v l =
    Spent-legal number p ds ts s (neither (serves number d) (list_any (serves number) ds) u).1 (neither (misses number d) (list_any (misses number) ds) v).1 l.1

-- no entry that may stand serves it
unserved : (p : Pool) (moment : ℕ) (e : PoolEntry) (number : ℕ) → Spent number p → MayStand p moment e → serves number e ≡ true → ⊥
unserved p moment Ready number s m v = cc
unserved p moment Clear number s m v = cc
unserved p moment Shut number s m v = cc
unserved p moment (Entered k) number s m v = cc
unserved p moment (Left k) number s m v = cc
unserved p moment (Lent k conn) number s m v = Spent-unserved p moment number k m.0 s m.1 m.2 (eqb-true _ _ v)
unserved p moment (Dialled k conn) number s m v = Spent-unserved p moment number k m.0 s m.1 m.2 (eqb-true _ _ v)
unserved p moment (Settled k conn stale) number s m v = cc
unserved p moment (NotLent k why) number s m v = cc
unserved p moment (CheckedIn k conn errored) number s m v = cc
unserved p moment (ConnShut conn reason) number s m v = cc

-- nor one that must follow
unserved_next : (p : Pool) (owed : List PoolEntry) (moment : ℕ) (e : PoolEntry) (number : ℕ) → Spent number p → Unpaid number owed →
    ComesNext owed e (MayStand p moment e) → serves number e ≡ true → ⊥
unserved_next p [] moment e number s u m v = unserved p moment e number s m v
unserved_next p (d ∷ ds) moment e number s u m v =
    let no : serves number d ≡ false = (neither (serves number d) (list_any (serves number) ds) u).0 in
    let yes : serves number d ≡ true = rw m at v in cc

-- no entry refuses it otherwise than as closed or cleared
unmissed : (p : Pool) (moment : ℕ) (e : PoolEntry) (number : ℕ) → Spent number p → MayStand p moment e → misses number e ≡ true → ⊥
unmissed p moment Ready number s m v = cc
unmissed p moment Clear number s m v = cc
unmissed p moment Shut number s m v = cc
unmissed p moment (Entered k) number s m v = cc
unmissed p moment (Left k) number s m v = cc
unmissed p moment (Lent k conn) number s m v = cc
unmissed p moment (Dialled k conn) number s m v = cc
unmissed p moment (Settled k conn stale) number s m v = cc
unmissed p moment (NotLent k Closed) number s m v = cc
unmissed p moment (NotLent k (Cleared g)) number s m v = cc
unmissed p moment (NotLent k Late) number s m v = Spent-cleared p number k m.0 s m.1 (eqb-true _ _ v) m.2.1
unmissed p moment (NotLent k (Lost conn)) number s m v = let no = Spent-dials p number k conn m.0 s m.1 m.2 in let both : false ≡ true = sym no ∙ v in cc
unmissed p moment (CheckedIn k conn errored) number s m v = cc
unmissed p moment (ConnShut conn reason) number s m v = cc

unmissed_next : (p : Pool) (owed : List PoolEntry) (moment : ℕ) (e : PoolEntry) (number : ℕ) → Spent number p → Unmissed number owed →
    ComesNext owed e (MayStand p moment e) → misses number e ≡ true → ⊥
unmissed_next p [] moment e number s u m v = unmissed p moment e number s m v
unmissed_next p (d ∷ ds) moment e number s u m v =
    let no : misses number d ≡ false = (neither (misses number d) (list_any (misses number) ds) u).0 in
    let yes : misses number d ≡ true = rw m at v in cc

-- who is among the numbers of the line waits
among-times : (number : ℕ) (ts : List Ticket) → is_among (numbers_of ts) number ≡ true → 1 ≤ times_waiting number ts
among-times number [] e = absurd (cc)
among-times number (t ∷ ts) e =
    elim (eqb t.number number) as (λ b. (b || is_among (numbers_of ts) number) ≡ true → 1 ≤ cond b 1 0 + times_waiting number ts) [
      | true ↦ λ _. omega arith
      | false ↦ λ k. let rest = among-times number ts k in omega arith
    ] e

-- who waits as the pool is cleared is spent
Spent-clear : (p : Pool) (moment number : ℕ) → Sound p → is_among (numbers_of p.waiting) number ≡ true → Spent number (after p moment Clear)
Spent-clear p moment number s a =
    let there = among-times number p.waiting a in
    let place = s.one_place number in
    record {
      older = All-weaker (λ (t : Ticket). t.generation ≤ p.generation) (λ (t : Ticket). t.number ≡ number → t.generation < p.generation + 1) (λ t l _. omega arith) p.waiting s.current;
      entered = elim (cases_lt number p.entered) [ inl w ↦ w | inr w ↦ absurd (omega (arith, s.entered number w)) ];
      idle = omega arith;
    }

-- an entry behind a clear: neither does it serve the ticket, nor refuse it otherwise
record Passes (number : ℕ) (e : PoolEntry) : Type 0 where
  unserves : serves number e ≡ true → ⊥
  unmisses : misses number e ≡ true → ⊥

-- from a clear on
spent_from : (p : Pool) (owed es : List PoolEntry) (moment number : ℕ) (between : List (Timed PoolEntry)) (last : Timed PoolEntry) → Sound p → Pays p owed →
    state_after waiting_by (state_after waiting_by [] es) owed ≡ numbers_of p.waiting → is_among (state_after waiting_by [] es) number ≡ true →
    Legal (Stands pool_judge) (next_place pool_judge) (record { state = p; owed = owed }) (record { at = moment; what = Clear } ∷ (between ++ last ∷ [])) → Passes number last.what
spent_from p [] es moment number between last s h w a l =
    let start = after p moment Clear in
    let spent = Spent-clear p moment number s (rw (← w) a) in
    let front = IsTrail-front pool_judge start between (last ∷ []) l.1 in
    let stays = Spent-legal number start [] between spent refl refl front in
    let rest = IsTrail-rest pool_judge start between (last ∷ []) l.1 in
    let j = state_after (next_place pool_judge) (nothing_owed start) between in
    record {
      unserves = unserved_next j.state j.owed last.at last.what number stays.spent stays.unpaid rest.0;
      unmisses = unmissed_next j.state j.owed last.at last.what number stays.spent stays.unmissed rest.0;
    }
spent_from p (d ∷ ds) es moment number between last s h w a l = absurd (subst (λ e. Pays p (e ∷ ds)) (sym l.0) h)

behind_clear : (rules : PoolRules) (before : List (Timed PoolEntry)) (moment : ℕ) (between : List (Timed PoolEntry)) (last : Timed PoolEntry) (number : ℕ) →
    IsTrail rules (before ++ record { at = moment; what = Clear } ∷ (between ++ last ∷ [])) →
    is_among (state_after waiting_by [] (entries_of before)) number ≡ true → Passes number last.what
behind_clear rules before moment between last number l a =
    let behind : List (Timed PoolEntry) = record { at = moment; what = Clear } ∷ (between ++ last ∷ []) in
    let front = IsTrail-front pool_judge (fresh_pool rules) before behind l in
    let rest = IsTrail-rest pool_judge (fresh_pool rules) before behind l in
    let j = place_behind rules before in
    spent_from j.state j.owed (entries_of before) moment number between last (Sound-trail rules before front) (Pays-trail rules before front)
    (ReadsAs-legal (λ p. numbers_of p.waiting) waiting_by ReadsAs-waiting_by rules before front) a rest

pub serves-never : (rules : PoolRules) (before : List (Timed PoolEntry)) (moment : ℕ) (between : List (Timed PoolEntry)) (last : Timed PoolEntry) (number : ℕ) →
    IsTrail rules (before ++ record { at = moment; what = Clear } ∷ (between ++ last ∷ [])) →
    is_among (state_after waiting_by [] (entries_of before)) number ≡ true → serves number last.what ≡ false
serves-never rules before moment between last number l a =
    elim (cases_Bool (serves number last.what)) [ inl served ↦ absurd ((behind_clear rules before moment between last number l a).unserves served) | inr not_served ↦ not_served ]

pub misses-never : (rules : PoolRules) (before : List (Timed PoolEntry)) (moment : ℕ) (between : List (Timed PoolEntry)) (last : Timed PoolEntry) (number : ℕ) →
    IsTrail rules (before ++ record { at = moment; what = Clear } ∷ (between ++ last ∷ [])) →
    is_among (state_after waiting_by [] (entries_of before)) number ≡ true → misses number last.what ≡ false
misses-never rules before moment between last number l a =
    elim (cases_Bool (misses number last.what)) [ inl missed ↦ absurd ((behind_clear rules before moment between last number l a).unmisses missed) | inr not_missed ↦ not_missed ]
