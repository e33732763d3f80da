-- Laws of trails of several parts, for the proofs of other crates too.
use Rattle.std.proofs.Common.{◌≡◌, ℕ, zero, suc, ◌+◌, ◌<◌, ◌≤◌, true, false, cond, eqb, List, [], ◌∷◌, ◌++◌, length, Some, refl, sym, ap, ◌∙◌, subst, arith, ◌⊎◌, inl, inr}
use Rattle.std.specs.Prelude.{slice_get, slice_set}
use Rattle.std.proofs.lemmas.Bool.{eq-eqb}
use Rattle.std.proofs.lemmas.Bool.Decides.{eqb_tells}
use Rattle.std.proofs.lemmas.Option.{slice_get_within}
use Rattle.std.proofs.lemmas.List.{append-nil, length-append}
use Rattle.entry_judge.specs.declared.timed.Timed.{Timed}
use Rattle.entry_judge.specs.Groups.{Judge, timed, group, Goes, LeadsTo}
use Rattle.entry_judge.specs.GroupLaws.{LeadsTo-group}
use Rattle.entry_judge.specs.Parts.{OfPart, part_of, at_part, EachLeads}

pub part_of-append : {E : Type 0} (k : ℕ) (xs ys : List (OfPart E)) → part_of k (xs ++ ys) ≡ part_of k xs ++ part_of k ys
part_of-append k [] ys = refl
part_of-append k (x ∷ xs) ys =
    elim (eqb x.part k) as (λ b. cond b (x.step ∷ part_of k (xs ++ ys)) (part_of k (xs ++ ys)) ≡ cond b (x.step ∷ part_of k xs) (part_of k xs) ++ part_of k ys) [
      | true ↦ ap (λ zs. x.step ∷ zs) (part_of-append k xs ys)
      | false ↦ part_of-append k xs ys
    ]

-- a part's own entries, and those of another
part_of-own : {E : Type 0} (k : ℕ) (ts : List (Timed E)) → part_of k (at_part k ts) ≡ ts
part_of-own k [] = refl
part_of-own k (t ∷ ts) = rw (eq-eqb k k refl) (ap (λ zs. t ∷ zs) (part_of-own k ts))

part_of-other : {E : Type 0} (k m : ℕ) (ts : List (Timed E)) → eqb m k ≡ false → part_of k (at_part m ts) ≡ []
part_of-other k m [] h = refl
part_of-other k m (t ∷ ts) h = rw h (part_of-other k m ts h)

pub part_of-append_own : {E : Type 0} (k m : ℕ) (xs : List (OfPart E)) (ts : List (Timed E)) → m ≡ k → part_of k (xs ++ at_part m ts) ≡ part_of k xs ++ ts
part_of-append_own k m xs ts e =
    part_of-append k xs (at_part m ts) ∙ ap (λ zs. part_of k xs ++ zs) (subst (λ n. part_of n (at_part m ts) ≡ ts) e (part_of-own m ts))

pub part_of-append_other : {E : Type 0} (k m : ℕ) (xs : List (OfPart E)) (ts : List (Timed E)) → eqb m k ≡ false → part_of k (xs ++ at_part m ts) ≡ part_of k xs
part_of-append_other k m xs ts e =
    part_of-append k xs (at_part m ts) ∙ ap (λ zs. part_of k xs ++ zs) (part_of-other k m ts e) ∙ append-nil (part_of k xs)

-- lists behind a change at one place
length-set : {X : Type 0} (xs : List X) (m : ℕ) (x : X) → length (slice_set xs m x) ≡ length xs
length-set [] m x = refl
length-set (y ∷ ys) zero x = refl
length-set (y ∷ ys) (suc m) x = omega (arith, length-set ys m x)

slice_get-set_same : {X : Type 0} (xs : List X) (k : ℕ) (x : X) → k < length xs → slice_get (slice_set xs k x) k ≡ Some x
slice_get-set_same [] k x h = absurd (omega arith)
slice_get-set_same (y ∷ ys) zero x h = refl
slice_get-set_same (y ∷ ys) (suc k) x h = slice_get-set_same ys k x (omega arith)

slice_get-set_other : {X : Type 0} (xs : List X) (m k : ℕ) (x : X) → (m ≡ k → ⊥) → slice_get (slice_set xs m x) k ≡ slice_get xs k
slice_get-set_other [] m k x h = refl
slice_get-set_other (y ∷ ys) zero zero x h = absurd (h refl)
slice_get-set_other (y ∷ ys) zero (suc k) x h = refl
slice_get-set_other (y ∷ ys) (suc m) zero x h = refl
slice_get-set_other (y ∷ ys) (suc m) (suc k) x h = slice_get-set_other ys m k x (λ e. h (omega arith))

-- what stands in a list with one more
slice_get-push : {X : Type 0} (xs : List X) (y : X) (k : ℕ) (x : X) → slice_get (xs ++ y ∷ []) k ≡ Some x →
    (slice_get xs k ≡ Some x) ⊎ ((length xs ≤ k) × (y ≡ x))
slice_get-push [] y zero x e = inr (omega arith, cc)
slice_get-push [] y (suc k) x e = absurd (cc)
slice_get-push (z ∷ zs) y zero x e = inl e
slice_get-push (z ∷ zs) y (suc k) x e =
    elim (slice_get-push zs y k x e) [ inl w ↦ inl w | inr w ↦ inr (let below = w.0 in omega arith, w.1) ]

-- a part that begins, begins at the beginning
pub EachLeads-begins : {S E : Type 0} (j : Judge S E) (s : S) (ts : List (OfPart E)) (states : List S) → EachLeads j s ts states →
    EachLeads j s ts (states ++ s ∷ [])
EachLeads-begins j s ts states h = record {
  each = λ k q e. elim (slice_get-push states s k q e) [
    | inl w ↦ h.each k q w
    | inr w ↦ rw (h.later k w.0, w.1) (record { trail = tt; place = refl })
  ];
  later = λ k l. h.later k (shorter k l);
} where
  more : length (states ++ s ∷ []) ≡ length states + 1
  more = omega (arith, length-append states (s ∷ []))

  shorter : (k : ℕ) → length (states ++ s ∷ []) ≤ k → length states ≤ k
  shorter k l = omega (arith, more)

-- a group of one part moves its state alone
pub EachLeads-group : {S E : Type 0} (j : Judge S E) (s : S) (ts : List (OfPart E)) (states : List S) (m : ℕ) (p : S) (moment : ℕ) (e : E) (q : S) →
    EachLeads j s ts states → slice_get states m ≡ Some p → Goes j p moment e q →
    EachLeads j s (ts ++ at_part m (timed moment (group j p moment e))) (slice_set states m q)
EachLeads-group j s ts states m p moment e q h at g =
    let more = timed moment (group j p moment e) in
    let within = slice_get_within states m p at in
    record {
      each = λ k r there. elim (eqb_tells m k) [
        | inl w ↦
            let old : slice_get states k ≡ Some p = subst (λ n. slice_get states n ≡ Some p) w.1 at in
            let new : slice_get (slice_set states m q) k ≡ Some q =
            subst (λ n. slice_get (slice_set states m q) n ≡ Some q) w.1 (slice_get-set_same states m q within) in
            let same : q ≡ r = cc in
            let led = LeadsTo-group j s (part_of k ts) p moment e q (h.each k p old) g in
            subst (λ xs. LeadsTo j s xs r) (sym (part_of-append_own k m ts more w.1)) (subst (λ x. LeadsTo j s (part_of k ts ++ more) x) same led)
        | inr w ↦
            subst (λ xs. LeadsTo j s xs r) (sym (part_of-append_other k m ts more w.0))
            (h.each k r (sym (slice_get-set_other states m k q w.1) ∙ there))
      ];
      later = λ k l.
          let below : length states ≤ k = rw (length-set states m q) at l in
          let other : eqb m k ≡ false = elim (eqb_tells m k) [ inl w ↦ absurd (omega (arith, w.1)) | inr w ↦ w.0 ] in
          part_of-append_other k m ts more other ∙ h.later k below;
    }

-- the empty trail of no parts
pub EachLeads-empty : {S E : Type 0} (j : Judge S E) (s : S) → EachLeads j s [] []
EachLeads-empty j s = record { each = λ k q e. absurd (cc); later = λ k l. refl }
