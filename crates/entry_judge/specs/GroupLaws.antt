-- Laws of trails and of what must follow in them, for the proofs of other crates too.
use Rattle.std.proofs.Common.{◌≡◌, ℕ, List, [], ◌∷◌, ◌++◌, length, take, Some, refl, sym, ap, ◌∙◌, subst}
use Rattle.std.specs.Prelude.{slice_get}
use Rattle.entry_judge.specs.declared.timed.Timed.{Timed}
use Rattle.entry_judge.specs.Judge.{Legal, state_after}
use Rattle.entry_judge.specs.Groups.{Judge, Stands, next_place, nothing_owed, IsTrail, place_behind, entries_of, timed, group, Goes, LeadsTo}
use Rattle.entry_judge.specs.LegalLaws.{Legal-append, Legal-front, Legal-rest, Legal-at, Legal-from, state_after-append}

-- the front of a trail, what lies behind it, and a trail place by place
pub IsTrail-front : {S E : Type 0} (j : Judge S E) (s : S) (xs ys : List (Timed E)) → IsTrail j s (xs ++ ys) → IsTrail j s xs
IsTrail-front j s xs ys l = Legal-front (Stands j) (next_place j) (nothing_owed s) xs ys l

pub IsTrail-rest : {S E : Type 0} (j : Judge S E) (s : S) (xs ys : List (Timed E)) → IsTrail j s (xs ++ ys) →
    Legal (Stands j) (next_place j) (place_behind j s xs) ys
IsTrail-rest j s xs ys l = Legal-rest (Stands j) (next_place j) (nothing_owed s) xs ys l

pub IsTrail-at : {S E : Type 0} (j : Judge S E) (s : S) (ts : List (Timed E)) → IsTrail j s ts →
    (k : ℕ) (t : Timed E) → slice_get ts k ≡ Some t → Stands j (place_behind j s (take k ts)) t
IsTrail-at j s ts l k t e = Legal-at (Stands j) (next_place j) (nothing_owed s) ts l k t e

pub IsTrail-from : {S E : Type 0} (j : Judge S E) (s : S) (ts : List (Timed E)) →
    ((k : ℕ) (t : Timed E) → slice_get ts k ≡ Some t → Stands j (place_behind j s (take k ts)) t) → IsTrail j s ts
IsTrail-from j s ts h = Legal-from (Stands j) (next_place j) (nothing_owed s) ts h

-- what must follow may follow, at any moment
pub Legal-owed : {S E : Type 0} (j : Judge S E) (s : S) (moment : ℕ) (ds : List E) →
    Legal (Stands j) (next_place j) (record { state = s; owed = ds }) (timed moment ds)
Legal-owed j s moment [] = tt
Legal-owed j s moment (d ∷ ds) = (refl, Legal-owed j s moment ds)

-- and then nothing must
pub state_after-owed : {S E : Type 0} (j : Judge S E) (s : S) (moment : ℕ) (ds : List E) →
    state_after (next_place j) (record { state = s; owed = ds }) (timed moment ds) ≡ nothing_owed s
state_after-owed j s moment [] = refl
state_after-owed j s moment (d ∷ ds) = state_after-owed j s moment ds

-- an entry that may stand leads on, with what must follow it
pub LeadsTo-group : {S E : Type 0} (j : Judge S E) (s : S) (ts : List (Timed E)) (p : S) (moment : ℕ) (e : E) (q : S) →
    LeadsTo j s ts p → Goes j p moment e q → LeadsTo j s (ts ++ timed moment (group j p moment e)) q
LeadsTo-group j s ts p moment e q l g =
    record {
      trail = Legal-append (Stands j) (next_place j) (nothing_owed s) ts (timed moment (group j p moment e)) l.trail
          (subst (λ x. Legal (Stands j) (next_place j) x (timed moment (group j p moment e))) (sym l.place)
          (g.stands, Legal-owed j (j.after p moment e) moment (j.owes p moment e)));
      place = state_after-append (next_place j) (nothing_owed s) ts (timed moment (group j p moment e))
          ∙ ap (λ x. state_after (next_place j) x (timed moment (group j p moment e))) l.place
          ∙ state_after-owed j (j.after p moment e) moment (j.owes p moment e) ∙ ap (λ x. nothing_owed x) (sym g.moves);
    }

-- what must come next comes next, in order, as far as the entries go
owed-first : {S E : Type 0} (j : Judge S E) (s : S) (ds : List E) (ts : List (Timed E)) →
    Legal (Stands j) (next_place j) (record { state = s; owed = ds }) ts → take (length ds) (entries_of ts) ≡ take (length ts) ds
owed-first j s [] [] l = refl
owed-first j s [] (t ∷ ts) l = refl
owed-first j s (d ∷ ds) [] l = refl
owed-first j s (d ∷ ds) (t ∷ ts) l = ap (λ x. x ∷ take (length ds) (entries_of ts)) l.0 ∙ ap (λ xs. d ∷ xs) (owed-first j s ds ts l.1)

pub IsTrail-owed : {S E : Type 0} (j : Judge S E) (s : S) (xs ys : List (Timed E)) → IsTrail j s (xs ++ ys) →
    take (length (place_behind j s xs).owed) (entries_of ys) ≡ take (length ys) (place_behind j s xs).owed
IsTrail-owed j s xs ys l =
    let p = place_behind j s xs in
    owed-first j p.state p.owed ys (IsTrail-rest j s xs ys l)
