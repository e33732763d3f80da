-- Lists of ids, with one more id or list.
use Rattle.std.proofs.Common.{◌≡◌, ℕ, zero, suc, ◌+◌, ◌<◌, ◌≤◌, List, [], ◌∷◌, ◌++◌, length, take, Some, refl, sym, ap, ◌∙◌, subst, arith, ◌⊎◌, inl, inr}
use Rattle.std.specs.Prelude.{All, Option, None, filter_map, flat_map, option_to_list, slice_get}
use Rattle.std.specs.List.{cons_option}
use Rattle.std.proofs.lemmas.Grind.{flat_map-append}
use Rattle.std.proofs.lemmas.List.{append-nil, length-append}
use Rattle.std.proofs.lemmas.List.Elements.{All-get_or}
use Rattle.std.proofs.lemmas.Option.{slice_get_within, get_or_from_slice_get}
use Rattle.bson_doc.specs.declared.ids.Lsid.{Lsid}
use Rattle.sess_book.specs.declared.session.Session.{Session}
use Rattle.sess_book.specs.declared.session.Kept.{Kept}
use Rattle.sess_book.specs.Ending.{IsParted, MOST_IDS, id_at}
use Rattle.sess_book.proofs.ListLemmas.{slice_get-push}

cons_option-append : {Y : Type 0} (o : Option Y) (xs ys : List Y) → cons_option o (xs ++ ys) ≡ cons_option o xs ++ ys
cons_option-append None xs ys = refl
cons_option-append (Some y) xs ys = refl

-- what f gives of one item more
pub filter_map_more : {X Y : Type 0} (f : X → Option Y) (xs : List X) (i : ℕ) (x : X) → slice_get xs i ≡ Some x →
    filter_map f (take (i + 1) xs) ≡ filter_map f (take i xs) ++ option_to_list (f x)
filter_map_more f [] i x at = absurd (cc)
filter_map_more f (y ∷ ys) zero x at = let one : y ≡ x = cc in subst (λ z. filter_map f (y ∷ []) ≡ option_to_list (f z)) one (only f (f y) y refl) where
  only : {X Y : Type 0} (f : X → Option Y) (o : Option Y) (y : X) → f y ≡ o → filter_map f (y ∷ []) ≡ option_to_list (f y)
  only f None y e = rw e refl
  only f (Some z) y e = rw e refl
filter_map_more f (y ∷ ys) (suc i) x at =
    let next : suc (i + 1) ≡ suc i + 1 = omega arith in
    subst (λ n. filter_map f (take n (y ∷ ys)) ≡ cons_option (f y) (filter_map f (take i ys)) ++ option_to_list (f x)) next
    (ap (λ zs. cons_option (f y) zs) (filter_map_more f ys i x at) ∙ cons_option-append (f y) (filter_map f (take i ys)) (option_to_list (f x)))

-- the ids of one kept session more
pub ids_more : (made : List Session) (kept : List Kept) (i : ℕ) (ids new : List Lsid) (x : Kept) → new ≡ ids ++ option_to_list (id_at made x) →
    ids ≡ filter_map (id_at made) (take i kept) → slice_get kept i ≡ Some x → new ≡ filter_map (id_at made) (take (i + 1) kept)
ids_more made kept i ids new x e so_far at =
    e ∙ ap (λ m. m ++ option_to_list (id_at made x)) so_far ∙ sym (filter_map_more (id_at made) kept i x at)

at-full : (lists : List (List Lsid)) → All (λ l. length l ≡ MOST_IDS) lists → (k : ℕ) (l : List Lsid) → slice_get lists k ≡ Some l → length l ≡ MOST_IDS
at-full lists full k l at =
    subst (λ m. length m ≡ MOST_IDS) (get_or_from_slice_get lists k l [] at) (All-get_or (λ m. length m ≡ MOST_IDS) lists k [] (slice_get_within lists k l at) full)

pub parted_closed : (lists : List (List Lsid)) (last : List Lsid) → All (λ l. length l ≡ MOST_IDS) lists → length last ≤ MOST_IDS → 0 < length last →
    IsParted (lists ++ last ∷ []) (flat_map (λ l. l) lists ++ last)
parted_closed lists last full few some = record {
  all = flat_map-append (λ l. l) lists (last ∷ []) ∙ ap (λ m. flat_map (λ l. l) lists ++ m) (append-nil last);
  some = λ k l at. elim (slice_get-push lists last k l at) [ inl w ↦ let n = at-full lists full k l w in omega (arith, n) | inr w ↦ subst (λ m. 0 < length m) w.1 some ];
  few = λ k l at. elim (slice_get-push lists last k l at) [ inl w ↦ let n = at-full lists full k l w in omega (arith, n) | inr w ↦ subst (λ m. length m ≤ MOST_IDS) w.1 few ];
  full = λ k l at inside. elim (slice_get-push lists last k l at) [
    | inl w ↦ at-full lists full k l w
    | inr w ↦ let n = length-append lists (last ∷ []) in let at_end = w.0 in absurd (omega (arith, n, at_end, inside))
  ];
}

pub parted_none : (lists : List (List Lsid)) (last : List Lsid) → length last ≡ 0 → (0 < length lists → 0 < length last) → IsParted lists (flat_map (λ l. l) lists ++ last)
parted_none [] [] none some = record { all = refl; some = λ k l at. absurd (cc); few = λ k l at. absurd (cc); full = λ k l at inside. absurd (cc) }
parted_none [] (x ∷ xs) none some = absurd (omega (arith, none))
parted_none (l ∷ ls) last none some = absurd (let more = some (omega arith) in omega (arith, none, more))
