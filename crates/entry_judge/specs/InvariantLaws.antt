-- What holds along every trail, for the proofs of other crates: an invariant of the states, one of what must follow, and
-- what is read off the entries beside the state.
use Rattle.std.proofs.Common.{ℕ, List, [], ◌∷◌, sym, subst}
use Rattle.entry_judge.specs.declared.timed.Timed.{Timed}
use Rattle.entry_judge.specs.Judge.{Legal, state_after}
use Rattle.entry_judge.specs.Groups.{Judge, Stands, next_place, IsTrail, place_behind, entries_of, entries_and_owed}
use Rattle.entry_judge.specs.LegalLaws.{state_after-append}

-- I holds behind each entry that may stand where it held
pub record Keeps {S E : Type 0} (j : Judge S E) (I : S → Type 0) : Type 0 where
  pub each : (s : S) (moment : ℕ) (e : E) → I s → j.may_stand s moment e → I (j.after s moment e)

pub Keeps-legal : {S E : Type 0} (j : Judge S E) (I : S → Type 0) → Keeps j I → (s : S) (owed : List E) (ts : List (Timed E)) → I s →
    Legal (Stands j) (next_place j) (record { state = s; owed = owed }) ts → I (state_after (next_place j) (record { state = s; owed = owed }) ts).state
Keeps-legal j I k s owed [] i l = i
Keeps-legal j I k s [] (t ∷ ts) i l = Keeps-legal j I k (j.after s t.at t.what) (j.owes s t.at t.what) ts (k.each s t.at t.what i l.0) l.1
Keeps-legal j I k s (d ∷ ds) (t ∷ ts) i l = Keeps-legal j I k s ds ts i l.1

-- D holds of what must follow each such entry, and of what is left of it as it follows
pub record KeepsOwed {S E : Type 0} (j : Judge S E) (I : S → Type 0) (D : S → List E → Type 0) : Type 0 where
  pub keeps : Keeps j I
  pub behind : (s : S) (moment : ℕ) (e : E) → I s → j.may_stand s moment e → D (j.after s moment e) (j.owes s moment e)
  pub rest : (s : S) (d : E) (ds : List E) → D s (d ∷ ds) → D s ds

pub KeepsOwed-legal : {S E : Type 0} (j : Judge S E) (I : S → Type 0) (D : S → List E → Type 0) → KeepsOwed j I D →
    (s : S) (owed : List E) (ts : List (Timed E)) → I s → D s owed → Legal (Stands j) (next_place j) (record { state = s; owed = owed }) ts →
    let p = state_after (next_place j) (record { state = s; owed = owed }) ts in D p.state p.owed
KeepsOwed-legal j I D k s owed [] i d l = d
KeepsOwed-legal j I D k s [] (t ∷ ts) i d l =
    KeepsOwed-legal j I D k (j.after s t.at t.what) (j.owes s t.at t.what) ts (k.keeps.each s t.at t.what i l.0) (k.behind s t.at t.what i l.0) l.1
KeepsOwed-legal j I D k s (x ∷ xs) (t ∷ ts) i d l = KeepsOwed-legal j I D k s xs ts i (k.rest s x xs d) l.1

-- R holds between the state and what is read off the entries so far, with those that must follow
pub record Reads {S E X : Type 0} (j : Judge S E) (I : S → Type 0) (R : S → X → Type 0) (read : X → E → X) : Type 0 where
  pub keeps : Keeps j I
  pub each : (s : S) (moment : ℕ) (e : E) (x : X) → I s → R s x → j.may_stand s moment e →
      R (j.after s moment e) (state_after read (read x e) (j.owes s moment e))

pub Reads-legal : {S E X : Type 0} (j : Judge S E) (I : S → Type 0) (R : S → X → Type 0) (read : X → E → X) → Reads j I R read →
    (s : S) (owed : List E) (ts : List (Timed E)) (x : X) → I s → R s (state_after read x owed) →
    Legal (Stands j) (next_place j) (record { state = s; owed = owed }) ts →
    let p = state_after (next_place j) (record { state = s; owed = owed }) ts in
    R p.state (state_after read (state_after read x (entries_of ts)) p.owed)
Reads-legal j I R read h s owed [] x i r l = r
Reads-legal j I R read h s [] (t ∷ ts) x i r l =
    Reads-legal j I R read h (j.after s t.at t.what) (j.owes s t.at t.what) ts (read x t.what) (h.keeps.each s t.at t.what i l.0) (h.each s t.at t.what x i r l.0) l.1
Reads-legal j I R read h s (d ∷ ds) (t ∷ ts) x i r l =
    Reads-legal j I R read h s ds ts (read x t.what) i (subst (λ e. R s (state_after read (read x e) ds)) (sym l.0) r) l.1

-- from the beginning on
pub Reads-trail : {S E X : Type 0} (j : Judge S E) (I : S → Type 0) (R : S → X → Type 0) (read : X → E → X) → Reads j I R read →
    (s : S) (ts : List (Timed E)) (x : X) → I s → R s x → IsTrail j s ts → R (place_behind j s ts).state (state_after read x (entries_and_owed j s ts))
Reads-trail j I R read h s ts x i r l =
    subst (λ y. R (place_behind j s ts).state y) (sym (state_after-append read x (entries_of ts) (place_behind j s ts).owed))
    (Reads-legal j I R read h s [] ts x i r l)
