-- Lists that are read place by place, and filters of filters.
use Rattle.std.proofs.Common.{◌≡◌, ℕ, zero, suc, ◌+◌, ◌≤◌, Bool, true, false, cond, ◌&&◌, ◌||◌, List, [], ◌∷◌, ◌++◌, Option, None, Some, is_some, refl, sym, ap, ◌∙◌, arith, filter, length, slice_get, take, drop, take_all, true≢false}
use Rattle.std.proofs.lemmas.List.{drop_all, drop_more, take_more}
use Rattle.std.proofs.lemmas.Option.{get_or_from_slice_get, slice_get_within}
use Rattle.std.specs.List.{list_any}
use Rattle.std.specs.Option.{option_map_or}
use Rattle.server_pick.specs.Candidates.{or_else}

pub past_end : {A : Type 0} (xs : List A) (i : ℕ) → slice_get xs i ≡ None → length xs ≤ i
past_end [] i e = omega arith
past_end (x ∷ xs) zero e = absurd (true≢false (ap is_some e))
past_end (x ∷ xs) (suc i) e = let h : length xs ≤ i = past_end xs i e in omega arith

pub drop_at_place : {A : Type 0} (xs : List A) (i : ℕ) (x : A) → slice_get xs i ≡ Some x → drop i xs ≡ x ∷ drop (i + 1) xs
drop_at_place xs i x e = drop_more xs i x (slice_get_within xs i x e) ∙ ap (λ z. z ∷ drop (i + 1) xs) (get_or_from_slice_get xs i x x e)

pub take_at_place : {A : Type 0} (xs : List A) (i : ℕ) (x : A) → slice_get xs i ≡ Some x → take (i + 1) xs ≡ take i xs ++ x ∷ []
take_at_place xs i x e = take_more xs i x (slice_get_within xs i x e) ∙ ap (λ z. take i xs ++ z ∷ []) (get_or_from_slice_get xs i x x e)

pub take_past : {A : Type 0} (xs : List A) (i : ℕ) → slice_get xs i ≡ None → take (i + 1) xs ≡ take i xs
take_past xs i e = let h : length xs ≤ i = past_end xs i e in take_all (i + 1) xs (omega arith) ∙ sym (take_all i xs h)

pub drop_past : {A : Type 0} (xs : List A) (i : ℕ) → slice_get xs i ≡ None → drop i xs ≡ []
drop_past xs i e = drop_all i xs (past_end xs i e)

-- one item that passes settles the search, one that does not goes out of it
pub any_found : {A : Type 0} (p : A → Bool) (xs : List A) (i : ℕ) → option_map_or p (slice_get xs i) false ≡ true → list_any p (drop i xs) ≡ true
any_found {A} p xs i h = by (slice_get xs i) refl h
  where
    by : (o : Option A) → slice_get xs i ≡ o → option_map_or p o false ≡ true → list_any p (drop i xs) ≡ true
    by None e h = absurd (true≢false (sym h))
    by (Some x) e h = ap (list_any p) (drop_at_place xs i x e) ∙ ap (λ b. b || list_any p (drop (i + 1) xs)) h

pub any_passed : {A : Type 0} (p : A → Bool) (xs : List A) (i : ℕ) → option_map_or p (slice_get xs i) false ≡ false → list_any p (drop (i + 1) xs) ≡ list_any p (drop i xs)
any_passed {A} p xs i h = by (slice_get xs i) refl h
  where
    by : (o : Option A) → slice_get xs i ≡ o → option_map_or p o false ≡ false → list_any p (drop (i + 1) xs) ≡ list_any p (drop i xs)
    by None e h =
        let past : length xs ≤ i = past_end xs i e in
        ap (list_any p) (drop_all (i + 1) xs (omega arith) ∙ sym (drop_past xs i e))
    by (Some x) e h = ap (λ b. b || list_any p (drop (i + 1) xs)) (sym h) ∙ sym (ap (list_any p) (drop_at_place xs i x e))

module _ {A : Type 0} (p q r : A → Bool) (h : (x : A) → r x ≡ (p x && q x)) where
  pub filter_both : (xs : List A) → filter r xs ≡ filter q (filter p xs)
  filter_both [] = refl
  filter_both (x ∷ xs) = by (p x) (h x) (filter_both xs)
    where
      by : (b : Bool) → r x ≡ (b && q x) → filter r xs ≡ filter q (filter p xs) → cond (r x) (x ∷ filter r xs) (filter r xs) ≡ filter q (cond b (x ∷ filter p xs) (filter p xs))
      by true e ih = λ i. cond (e i) (x ∷ ih i) (ih i)
      by false e ih = ap (λ b. cond b (x ∷ filter r xs) (filter r xs)) e ∙ ih

  pub any_both : (xs : List A) → list_any r xs ≡ list_any q (filter p xs)
  any_both [] = refl
  any_both (x ∷ xs) = by (p x) (h x) (any_both xs)
    where
      by : (b : Bool) → r x ≡ (b && q x) → list_any r xs ≡ list_any q (filter p xs) → (r x || list_any r xs) ≡ list_any q (cond b (x ∷ filter p xs) (filter p xs))
      by true e ih = λ i. e i || ih i
      by false e ih = ap (λ b. b || list_any r xs) e ∙ ih

module _ {A : Type 0} (p : A → Bool) where
  pub filter_none : ((x : A) → p x ≡ false) → (xs : List A) → filter p xs ≡ []
  filter_none h [] = refl
  filter_none h (x ∷ xs) = ap (λ b. cond b (x ∷ filter p xs) (filter p xs)) (h x) ∙ filter_none h xs

  -- a filter that some item passes is not empty
  pub or_else_some : (xs those : List A) → list_any p xs ≡ true → or_else (filter p xs) those ≡ filter p xs
  or_else_some [] those e = absurd (true≢false (sym e))
  or_else_some (x ∷ xs) those e = by (p x) e (or_else_some xs those)
    where
      by : (b : Bool) → (b || list_any p xs) ≡ true → (list_any p xs ≡ true → or_else (filter p xs) those ≡ filter p xs) → or_else (cond b (x ∷ filter p xs) (filter p xs)) those ≡ cond b (x ∷ filter p xs) (filter p xs)
      by true e ih = refl
      by false e ih = ih e

  pub or_else_none : (xs those : List A) → list_any p xs ≡ false → or_else (filter p xs) those ≡ those
  or_else_none [] those e = refl
  or_else_none (x ∷ xs) those e = by (p x) e (or_else_none xs those)
    where
      by : (b : Bool) → (b || list_any p xs) ≡ false → (list_any p xs ≡ false → or_else (filter p xs) those ≡ those) → or_else (cond b (x ∷ filter p xs) (filter p xs)) those ≡ those
      by true e ih = absurd (true≢false e)
      by false e ih = ih e
