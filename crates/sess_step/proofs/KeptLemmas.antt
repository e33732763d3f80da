-- Leases that are kept, behind a change of one session.
use Rattle.std.proofs.Common.{◌≡◌, ◌<◌, ℕ, suc, zero, List, [], ◌∷◌, ◌++◌, length, Option, None, Some, refl, sym, ap, ◌∙◌, subst, arith, inl, inr}
use Rattle.std.specs.Prelude.{slice_get, slice_set}
use Rattle.std.proofs.lemmas.Bool.Decides.{eqb_tells}
use Rattle.std.proofs.lemmas.List.{length-append}
use Rattle.std.proofs.lemmas.Option.{slice_get_within}
use Rattle.sess_book.specs.declared.lease.Lease.{Lease}
use Rattle.sess_book.specs.declared.session.Session.{Session}
use Rattle.sess_book.specs.declared.session.Holding.TheVariants as holding
use Rattle.sess_book.proofs.ListLemmas.{length-set, slice_get-push, slice_get-pushed, slice_get-set_other, slice_get-set_same}
use Rattle.sess_step.specs.Inside.{AreKept}

-- what stands at a place stands there with one more behind
pub slice_get-more : {A : Type 0} (xs : List A) (y : A) (k : ℕ) (x : A) → slice_get xs k ≡ Some x → slice_get (xs ++ y ∷ []) k ≡ Some x
slice_get-more [] y k x h = absurd (cc)
slice_get-more (z ∷ zs) y zero x h = h
slice_get-more (z ∷ zs) y (suc k) x h = slice_get-more zs y k x h

-- a place of a list has something
pub slice_get-within : {A : Type 0} (xs : List A) (k : ℕ) → k < length xs → (x : A) × (slice_get xs k ≡ Some x)
slice_get-within [] k lt = absurd (omega (arith, lt))
slice_get-within (x ∷ xs) zero lt = (x, refl)
slice_get-within (x ∷ xs) (suc k) lt = slice_get-within xs k (omega (arith, lt))

-- a new session's lease stands behind the others
pub AreKept-push : (made : List Session) (leases : List (Option Lease)) (y : Session) (l : Lease) → AreKept made leases → l.place ≡ length made → l.lsid ≡ y.lsid →
    AreKept (made ++ y ∷ []) (leases ++ Some l ∷ [])
AreKept-push made leases y l h at id = record {
  count = let a = length-append leases (Some l ∷ []) in let b = length-append made (y ∷ []) in let c = h.count in omega (arith, a, b, c);
  out = λ place x there held. elim (slice_get-push made y place x there) [
    | inl w ↦ let k = h.out place x w held in record { lease = k.lease; there = slice_get-more leases (Some l) place (Some k.lease) k.there; at = k.at; id = k.id }
    | inr w ↦ record {
      lease = l;
      there = subst (λ n. slice_get (leases ++ Some l ∷ []) n ≡ Some (Some l)) (h.count ∙ sym w.0) (slice_get-pushed leases (Some l));
      at = at ∙ sym w.0;
      id = id ∙ ap (λ (s : Session). s.lsid) w.1;
    }
  ];
}

-- where one session changes, its lease is put in its place
pub AreKept-set : (made : List Session) (leases : List (Option Lease)) (place : ℕ) (x y : Session) (l : Lease) → AreKept made leases → slice_get made place ≡ Some x →
    l.place ≡ place → l.lsid ≡ y.lsid → AreKept (slice_set made place y) (slice_set leases place (Some l))
AreKept-set made leases place x y l h here at id =
    let lt : place < length leases = let a = slice_get_within made place x here in let b = h.count in omega (arith, a, b) in
    let old = slice_get-within leases place lt in
    record {
      count = let a = length-set leases place (Some l) in let b = length-set made place y in let c = h.count in omega (arith, a, b, c);
      out = λ p z there held. elim (eqb_tells p place) [
        | inl w ↦
            let now : slice_get (slice_set made place y) p ≡ Some y = subst (λ n. slice_get (slice_set made place y) n ≡ Some y) (sym w.1) (slice_get-set_same made place y x here) in
            let one : y ≡ z = cc in
            record {
              lease = l;
              there = subst (λ n. slice_get (slice_set leases place (Some l)) n ≡ Some (Some l)) (sym w.1) (slice_get-set_same leases place (Some l) old.0 old.1);
              at = at ∙ sym w.1;
              id = id ∙ ap (λ (s : Session). s.lsid) one;
            }
        | inr w ↦
            let k = h.out p z (sym (slice_get-set_other made place p y w.1) ∙ there) held in
            record { lease = k.lease; there = slice_get-set_other leases place p (Some l) w.1 ∙ k.there; at = k.at; id = k.id }
      ];
    }

-- a session that nobody holds has no lease
pub AreKept-left : (made : List Session) (leases : List (Option Lease)) (place : ℕ) (x y : Session) → AreKept made leases → slice_get made place ≡ Some x →
    y.holding ≡ holding.Nobody → AreKept (slice_set made place y) (slice_set leases place None)
AreKept-left made leases place x y h here nobody = record {
  count = let a = length-set leases place None in let b = length-set made place y in let c = h.count in omega (arith, a, b, c);
  out = λ p z there held. elim (eqb_tells p place) [
    | inl w ↦
        let now : slice_get (slice_set made place y) p ≡ Some y = subst (λ n. slice_get (slice_set made place y) n ≡ Some y) (sym w.1) (slice_get-set_same made place y x here) in
        let one : y ≡ z = cc in
        absurd (held (ap (λ (s : Session). s.holding) (sym one) ∙ nobody))
    | inr w ↦
        let k = h.out p z (sym (slice_get-set_other made place p y w.1) ∙ there) held in
        record { lease = k.lease; there = slice_get-set_other leases place p None w.1 ∙ k.there; at = k.at; id = k.id }
  ];
}
