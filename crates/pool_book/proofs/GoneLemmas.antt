-- A connection that was shut is lent to nobody afterwards.
use Rattle.std.proofs.Common.{◌≡◌, ℕ, ◌+◌, ◌-◌, ◌<◌, ◌≤◌, Bool, true, false, not, ◌||◌, cond, eqb, List, [], ◌∷◌, ◌++◌, length, map, Option, Some, None, refl, sym, ◌∙◌, subst, arith, inl, inr}
use Rattle.std.specs.List.{list_any}
use Rattle.std.proofs.lemmas.Bool.{eqb-true, eq-eqb, cases_lt, cases_Bool}
use Rattle.std.proofs.lemmas.List.{append-nil}
use Rattle.entry_judge.specs.declared.timed.Timed.{Timed}
use Rattle.entry_judge.specs.Judge.{Legal, state_after}
use Rattle.entry_judge.specs.Groups.{Stands, ComesNext, next_place, place_by, nothing_owed}
use Rattle.entry_judge.specs.GroupLaws.{IsTrail-front, IsTrail-rest}
use Rattle.entry_judge.specs.LegalLaws.{Legal-front, Legal-rest}
use Rattle.entry_judge.specs.InvariantLaws.{Keeps, KeepsOwed, KeepsOwed-legal}
use Rattle.pool_book.specs.declared.rules.PoolRules.{PoolRules}
use Rattle.pool_book.specs.declared.ticket.Ticket.{Ticket}
use Rattle.pool_book.specs.declared.connections.Held.{Held}
use Rattle.pool_book.specs.declared.connections.Available.{Available}
use Rattle.pool_book.specs.declared.answers.CloseReason.{CloseReason}
use Rattle.pool_book.specs.declared.answers.CloseReason.TheVariants.{PoolClosed}
use Rattle.pool_book.specs.Pool.{Pool, fresh_pool, held_of, without_held, without_available, last_of, is_kept, shut_reason}
use Rattle.pool_book.specs.Entries.{PoolEntry, Ready, Clear, Shut, Entered, Left, Lent, Dialled, Settled, NotLent, CheckedIn, ConnShut, Closed, Cleared, Late, Lost, MayStand, after, owes, owes_shut}
use Rattle.pool_book.specs.Judge.{pool_judge, IsTrail, place_behind}
use Rattle.pool_book.specs.Sound.{Sound, times, times_held, times_available, times_of}
use Rattle.pool_book.specs.Laws.{lends}
use Rattle.pool_book.proofs.ListLemmas.{find-passes}
use Rattle.pool_book.proofs.TimesLemmas.{times-found, times-filter_most, times-filter_none, times-push}
use Rattle.pool_book.proofs.SoundLemmas.{Sound-trail, Sound-fresh, Sound-keeps, last_of-Some, times_of-after}
use Rattle.pool_book.proofs.ReadingLemmas.{times-at, last-conn}
use Rattle.pool_book.proofs.LentLemmas.{Pays, Pays-trail, Pays-keeps}

-- a connection that was dialled, and stands nowhere any more
pub record Gone (conn : ℕ) (p : Pool) : Type 0 where
  pub was : conn ≤ p.dialled
  pub nowhere : times_of p conn ≡ 0

Gone-after : (p : Pool) (moment : ℕ) (e : PoolEntry) (conn : ℕ) → Sound p → Gone conn p → MayStand p moment e → Gone conn (after p moment e)
Gone-after p moment e conn s g m =
    let more = times_of-after p moment e conn s m g.was in
    record { was = omega (arith, more.1, g.was); nowhere = omega (arith, more.0, g.nowhere) }

-- each connection that must be shut is gone
abbrev pub AllGone : Pool → List PoolEntry → Type 0
AllGone p [] = Unit {0}
AllGone p (ConnShut conn reason ∷ ds) = Gone conn p × AllGone p ds
AllGone p (d ∷ ds) = AllGone p ds

AllGone-rest : (p : Pool) (d : PoolEntry) (ds : List PoolEntry) → AllGone p (d ∷ ds) → AllGone p ds
AllGone-rest p (ConnShut conn reason) ds h = h.1
AllGone-rest p Ready ds h = h
AllGone-rest p Clear ds h = h
AllGone-rest p Shut ds h = h
AllGone-rest p (Entered number) ds h = h
AllGone-rest p (Left number) ds h = h
AllGone-rest p (Lent number conn) ds h = h
AllGone-rest p (Dialled number conn) ds h = h
AllGone-rest p (Settled number conn stale) ds h = h
AllGone-rest p (NotLent number why) ds h = h
AllGone-rest p (CheckedIn number conn errored) ds h = h

-- a connection that stands somewhere was dialled
was_dialled : (p : Pool) (conn : ℕ) → Sound p → 1 ≤ times_of p conn → conn ≤ p.dialled
was_dialled p conn s h = elim (cases_lt p.dialled conn) [ inl later ↦ absurd (omega (arith, s.dialled conn later)) | inr w ↦ w ]

AllGone-shuts : (p q : Pool) (xs : List Available) → ((conn : ℕ) → 1 ≤ times_available conn xs → Gone conn q) → AllGone q (map (λ a. ConnShut a.conn PoolClosed) xs)
AllGone-shuts p q [] h = tt
AllGone-shuts p q (a ∷ xs) h =
    let here : 1 ≤ times_available a.conn (a ∷ xs) = times-at (λ (x : Available). eqb x.conn a.conn) (a ∷ xs) 0 a refl (eq-eqb _ _ refl) in
    (h a.conn here, AllGone-shuts p q xs (λ k l. h k (omega arith)))

Gone-shut : (p : Pool) (moment conn : ℕ) → Sound p → 1 ≤ times_available conn p.available → Gone conn (after p moment Shut)
Gone-shut p moment conn s h = record { was = was_dialled p conn s (omega arith); nowhere = omega (arith, s.once conn) }

-- a pending connection that is taken out
Gone-pending : (p : Pool) (conn : ℕ) (h : Held) → Sound p → held_of conn p.pending ≡ Some h → Gone conn (record p { pending = without_held conn p.pending })
Gone-pending p conn h s e =
    let there = times-found (λ (x : Held). eqb x.conn conn) p.pending h e in
    let out : times_held conn (without_held conn p.pending) ≡ 0 = times-filter_none (λ (x : Held). eqb x.conn conn) p.pending in
    record { was = was_dialled p conn s (omega arith); nowhere = omega (arith, s.once conn) }

-- a lent connection that comes back and is not kept
Gone-checked_in : (p : Pool) (moment number conn : ℕ) (errored : Bool) (h : Held) → Sound p → held_of conn p.lent ≡ Some h →
    AllGone (after p moment (CheckedIn number conn errored)) (owes_shut p errored (held_of conn p.lent))
Gone-checked_in p moment number conn errored h s e =
    let there = times-found (λ (x : Held). eqb x.conn conn) p.lent h e in
    let same : h.conn ≡ conn = eqb-true _ _ (find-passes (λ (x : Held). eqb x.conn conn) p.lent h e) in
    let out : times_held conn (without_held conn p.lent) ≡ 0 = times-filter_none (λ (x : Held). eqb x.conn conn) p.lent in
    rw (e, same) (elim (is_kept p errored h) as (λ b. AllGone (record p { lent = without_held conn p.lent; available = p.available ++ cond b (record { conn = conn; generation = h.generation; since = moment } ∷ []) [] }) (cond b [] (ConnShut conn (shut_reason p.state errored) ∷ []))) [
      | true ↦ tt
      | false ↦
          let more : times_available conn (p.available ++ []) ≡ times_available conn p.available = rw append-nil refl in
          (record { was = was_dialled p conn s (omega arith); nowhere = omega (arith, s.once conn) }, tt)
    ])

AllGone-owes : (p : Pool) (moment : ℕ) (e : PoolEntry) → Sound p → MayStand p moment e → AllGone (after p moment e) (owes p e)
AllGone-owes p moment Ready s m = tt
AllGone-owes p moment Clear s m = tt
AllGone-owes p moment Shut s m = AllGone-shuts p (after p moment Shut) p.available (λ conn h. Gone-shut p moment conn s h)
AllGone-owes p moment (Entered number) s m = tt
AllGone-owes p moment (Left number) s m = tt
AllGone-owes p moment (Lent number conn) s m = tt
AllGone-owes p moment (Dialled number conn) s m = tt
AllGone-owes p moment (Settled number conn true) s m = (Gone-pending p conn m.0 s m.1, tt)
AllGone-owes p moment (Settled number conn false) s m = tt
AllGone-owes p moment (NotLent number Closed) s m = tt
AllGone-owes p moment (NotLent number (Cleared g)) s m = tt
AllGone-owes p moment (NotLent number Late) s m = tt
AllGone-owes p moment (NotLent number (Lost conn)) s m = (Gone-pending p conn m.0 s m.1, tt)
AllGone-owes p moment (CheckedIn number conn errored) s m = Gone-checked_in p moment number conn errored m.0 s m.1
AllGone-owes p moment (ConnShut conn reason) s m = tt

AllGone-keeps : KeepsOwed pool_judge Sound AllGone
AllGone-keeps = record { keeps = Sound-keeps; behind = AllGone-owes; rest = AllGone-rest }

AllGone-trail : (rules : PoolRules) (ts : List (Timed PoolEntry)) → IsTrail rules ts → AllGone (place_behind rules ts).state (place_behind rules ts).owed
AllGone-trail rules ts l = KeepsOwed-legal pool_judge Sound AllGone AllGone-keeps (fresh_pool rules) [] ts (Sound-fresh rules) tt l

-- behind the entry by which it is shut it is gone
Gone-behind : (p : Pool) (owed : List PoolEntry) (moment conn : ℕ) (reason : CloseReason) → Sound p → AllGone p owed →
    ComesNext owed (ConnShut conn reason) (MayStand p moment (ConnShut conn reason)) →
    Gone conn (place_by pool_judge p owed (record { at = moment; what = ConnShut conn reason })).state
Gone-behind p [] moment conn reason s h m =
    let there = times-at (λ (a : Available). eqb a.conn conn) p.available m.1 m.0 m.2 (eq-eqb _ _ (sym m.4)) in
    let out : times_available conn (without_available conn p.available) ≡ 0 = times-filter_none (λ (a : Available). eqb a.conn conn) p.available in
    record { was = was_dialled p conn s (omega arith); nowhere = omega (arith, s.once conn) }
Gone-behind p (d ∷ ds) moment conn reason s h m = (subst (λ e. AllGone p (e ∷ ds)) (sym m) h).0

-- and stays so, while what must follow is paid
record Stays (conn : ℕ) (p : Pool) (owed : List PoolEntry) : Type 0 where
  gone : Gone conn p
  sound : Sound p
  pays : Pays p owed

Stays-legal : (conn : ℕ) (p : Pool) (owed : List PoolEntry) (ts : List (Timed PoolEntry)) → Stays conn p owed →
    Legal (Stands pool_judge) (next_place pool_judge) (record { state = p; owed = owed }) ts →
    let j = state_after (next_place pool_judge) (record { state = p; owed = owed }) ts in Stays conn j.state j.owed
Stays-legal conn p owed [] k l = k
Stays-legal conn p [] (t ∷ ts) k l =
    Stays-legal conn (after p t.at t.what) (owes p t.what) ts
    (record { gone = Gone-after p t.at t.what conn k.sound k.gone l.0; sound = Sound-keeps.each p t.at t.what k.sound l.0; pays = Pays-keeps.behind p t.at t.what k.sound l.0 }) l.1
Stays-legal conn p (d ∷ ds) (t ∷ ts) k l =
    Stays-legal conn p ds ts (record { gone = k.gone; sound = k.sound; pays = Pays-keeps.rest p d ds k.pays }) l.1

-- nobody is lent it
unlent : (p : Pool) (moment : ℕ) (e : PoolEntry) (conn : ℕ) → Gone conn p → MayStand p moment e → lends conn e ≡ true → ⊥
unlent p moment Ready conn g m v = cc
unlent p moment Clear conn g m v = cc
unlent p moment Shut conn g m v = cc
unlent p moment (Entered number) conn g m v = cc
unlent p moment (Left number) conn g m v = cc
unlent p moment (Lent number c) conn g m v =
    let last = last_of-Some (last_of p.available) c m.3 in
    let same : last.0.conn ≡ conn = last-conn _ _ _ last.1 m.3 ∙ eqb-true _ _ v in
    let there = times-at (λ (a : Available). eqb a.conn conn) p.available (length p.available - 1) last.0 last.1 (eq-eqb _ _ same) in
    omega (arith, g.nowhere)
unlent p moment (Dialled number c) conn g m v = cc
unlent p moment (Settled number c stale) conn g m v = cc
unlent p moment (NotLent number why) conn g m v = cc
unlent p moment (CheckedIn number c errored) conn g m v = cc
unlent p moment (ConnShut c reason) conn g m v = cc

unlent_owed : (p : Pool) (d : PoolEntry) (ds : List PoolEntry) (conn : ℕ) → Gone conn p → Pays p (d ∷ ds) → lends conn d ≡ true → ⊥
unlent_owed p Ready ds conn g h v = cc
unlent_owed p Clear ds conn g h v = cc
unlent_owed p Shut ds conn g h v = cc
unlent_owed p (Entered number) ds conn g h v = cc
unlent_owed p (Left number) ds conn g h v = cc
unlent_owed p (Lent number c) ds conn g h v =
    let same : c ≡ conn = eqb-true _ _ v in
    let there = times-found (λ (x : Held). eqb x.conn conn) p.lent h.1.held (rw same at h.1.found) in
    omega (arith, g.nowhere)
unlent_owed p (Dialled number c) ds conn g h v = cc
unlent_owed p (Settled number c stale) ds conn g h v = cc
unlent_owed p (NotLent number why) ds conn g h v = cc
unlent_owed p (CheckedIn number c errored) ds conn g h v = cc
unlent_owed p (ConnShut c reason) ds conn g h v = cc

unlent_next : (p : Pool) (owed : List PoolEntry) (moment : ℕ) (e : PoolEntry) (conn : ℕ) → Stays conn p owed →
    ComesNext owed e (MayStand p moment e) → lends conn e ≡ true → ⊥
unlent_next p [] moment e conn k m v = unlent p moment e conn k.gone m v
unlent_next p (d ∷ ds) moment e conn k m v = unlent_owed p d ds conn k.gone k.pays (rw m at v)

-- what is paid behind an entry
Pays-next : (p : Pool) (owed : List PoolEntry) (t : Timed PoolEntry) → Sound p → Pays p owed → ComesNext owed t.what (MayStand p t.at t.what) →
    Pays (place_by pool_judge p owed t).state (place_by pool_judge p owed t).owed
Pays-next p [] t s h m = Pays-keeps.behind p t.at t.what s m
Pays-next p (d ∷ ds) t s h m = Pays-keeps.rest p d ds h

Sound-next : (p : Pool) (owed : List PoolEntry) (t : Timed PoolEntry) → Sound p → ComesNext owed t.what (MayStand p t.at t.what) →
    Sound (place_by pool_judge p owed t).state
Sound-next p [] t s m = Sound-keeps.each p t.at t.what s m
Sound-next p (d ∷ ds) t s m = s

never_lent : (rules : PoolRules) (before : List (Timed PoolEntry)) (moment : ℕ) (reason : CloseReason) (between : List (Timed PoolEntry)) (last : Timed PoolEntry) (conn : ℕ) →
    IsTrail rules (before ++ record { at = moment; what = ConnShut conn reason } ∷ (between ++ last ∷ [])) → lends conn last.what ≡ true → ⊥
never_lent rules before moment reason between last conn l v =
    let shut : Timed PoolEntry = record { at = moment; what = ConnShut conn reason } in
    let behind : List (Timed PoolEntry) = shut ∷ (between ++ last ∷ []) in
    let front = IsTrail-front pool_judge (fresh_pool rules) before behind l in
    let rest = IsTrail-rest pool_judge (fresh_pool rules) before behind l in
    let j = place_behind rules before in
    let n = place_by pool_judge j.state j.owed shut in
    let sound = Sound-trail rules before front in
    let pays = Pays-trail rules before front in
    let stays : Stays conn n.state n.owed = record {
      gone = Gone-behind j.state j.owed moment conn reason sound (AllGone-trail rules before front) rest.0;
      sound = Sound-next j.state j.owed shut sound rest.0;
      pays = Pays-next j.state j.owed shut sound pays rest.0;
    } in
    let ahead = Legal-front (Stands pool_judge) (next_place pool_judge) n between (last ∷ []) rest.1 in
    let tail = Legal-rest (Stands pool_judge) (next_place pool_judge) n between (last ∷ []) rest.1 in
    let k = state_after (next_place pool_judge) n between in
    unlent_next k.state k.owed last.at last.what conn (Stays-legal conn n.state n.owed between stays ahead) tail.0 v

pub lends-never : (rules : PoolRules) (before : List (Timed PoolEntry)) (moment : ℕ) (reason : CloseReason) (between : List (Timed PoolEntry)) (last : Timed PoolEntry) (conn : ℕ) →
    IsTrail rules (before ++ record { at = moment; what = ConnShut conn reason } ∷ (between ++ last ∷ [])) → lends conn last.what ≡ false
lends-never rules before moment reason between last conn l =
    elim (cases_Bool (lends conn last.what)) [ inl lent ↦ absurd (never_lent rules before moment reason between last conn l lent) | inr not_lent ↦ not_lent ]
