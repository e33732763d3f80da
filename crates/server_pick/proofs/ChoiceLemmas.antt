-- The window and the choice of two, of items and of what they are mapped to.
use Rattle.std.proofs.Common.{◌≡◌, ℕ, zero, suc, ◌+◌, ◌-◌, ◌%◌, Bool, true, false, cond, if◌then◌else◌, List, [], ◌∷◌, ◌++◌, Option, None, Some, refl, sym, ap, ◌∙◌, filter, length, map, slice_get, take, drop, option_map, nat_le, nat_lt}
use Rattle.std.proofs.lemmas.List.{length-map, drop-map, map-append}
use Rattle.std.proofs.lemmas.List.Elements.{All-nil, All-head, All-tail, All-append, All-take, All-drop, All-filter}
use Rattle.std.proofs.lemmas.Option.{slice_get-map}
use Rattle.std.specs.List.{All, remove}
use Rattle.std.specs.Option.{IfSome}
use Rattle.server_pick.specs.Windows.{lesser, least_of, within, window, lighter_of, choice}

module _ {A : Type 0} (P : A → Type 0) where
  pub all_at : (xs : List A) (i : ℕ) → All P xs → IfSome (slice_get xs i) P
  all_at [] i h = tt
  all_at (x ∷ xs) zero h = All-head P x xs h
  all_at (x ∷ xs) (suc i) h = all_at xs i (All-tail P x xs h)

  pub all_remove : (xs : List A) (i : ℕ) → All P xs → All P (remove xs i)
  all_remove xs i h = All-append P (take i xs) (drop (suc i) xs) (All-take P i xs h) (All-drop P (suc i) xs h)

  pub all_within : (mean : A → ℕ) (o : Option ℕ) (threshold : ℕ) (xs : List A) → All P xs → All P (within mean o threshold xs)
  all_within mean None threshold xs h = All-nil P
  all_within mean (Some least) threshold xs h = All-filter (λ x. nat_le (mean x) (least + threshold)) P xs h

  all_lighter : (load : A → ℕ) (o p : Option A) → IfSome o P → IfSome p P → IfSome (lighter_of load o p) P
  all_lighter load None p h k = tt
  all_lighter load (Some x) None h k = h
  all_lighter load (Some x) (Some y) h k = by (nat_lt (load y) (load x))
    where
      by : (b : Bool) → P (if b then y else x)
      by true = k
      by false = h

  pub all_choice : (load : A → ℕ) (w1 w2 : ℕ) (xs : List A) → All P xs → IfSome (choice load w1 w2 xs) P
  all_choice load w1 w2 xs h =
      all_lighter load _ _ (all_at xs (w1 % length xs) h) (all_at (remove xs (w1 % length xs)) (w2 % (length xs - 1)) (all_remove xs (w1 % length xs) h))

-- ---- What items are mapped to

module _ {A B : Type 0} (f : A → B) where
  remove_map : (xs : List A) (i : ℕ) → remove (map f xs) i ≡ map f (remove xs i)
  remove_map xs i = (λ j. take_map i xs j ++ drop-map f (suc i) xs j) ∙ sym (map-append f (take i xs) (drop (suc i) xs))
    where
      take_map : (n : ℕ) (ys : List A) → take n (map f ys) ≡ map f (take n ys)
      take_map zero ys = refl
      take_map (suc n) [] = refl
      take_map (suc n) (y ∷ ys) = ap (λ zs. f y ∷ zs) (take_map n ys)

  module _ (mean : B → ℕ) (own : A → ℕ) where
    least_map : (xs : List A) → All (λ x. mean (f x) ≡ own x) xs → least_of mean (map f xs) ≡ least_of own xs
    least_map [] h = refl
    least_map (x ∷ xs) h =
        let head : mean (f x) ≡ own x = All-head (λ y. mean (f y) ≡ own y) x xs h in
        let rest : least_of mean (map f xs) ≡ least_of own xs = least_map xs (All-tail (λ y. mean (f y) ≡ own y) x xs h) in
        λ i. lesser (Some (head i)) (rest i)

    filter_map_same : (end : ℕ) (xs : List A) → All (λ x. mean (f x) ≡ own x) xs → filter (λ y. nat_le (mean y) end) (map f xs) ≡ map f (filter (λ x. nat_le (own x) end) xs)
    filter_map_same end [] h = refl
    filter_map_same end (x ∷ xs) h =
        let head : mean (f x) ≡ own x = All-head (λ y. mean (f y) ≡ own y) x xs h in
        let rest : filter (λ y. nat_le (mean y) end) (map f xs) ≡ map f (filter (λ y. nat_le (own y) end) xs) = filter_map_same end xs (All-tail (λ y. mean (f y) ≡ own y) x xs h) in
        (λ i. cond (nat_le (head i) end) (f x ∷ rest i) (rest i))
        ∙ by (nat_le (own x) end)
      where
        by : (b : Bool) → cond b (f x ∷ map f (filter (λ x. nat_le (own x) end) xs)) (map f (filter (λ x. nat_le (own x) end) xs)) ≡ map f (cond b (x ∷ filter (λ x. nat_le (own x) end) xs) (filter (λ x. nat_le (own x) end) xs))
        by true = refl
        by false = refl

    pub window_map : (threshold : ℕ) (xs : List A) → All (λ x. mean (f x) ≡ own x) xs → window mean threshold (map f xs) ≡ map f (window own threshold xs)
    window_map threshold xs h = ap (λ o. within mean o threshold (map f xs)) (least_map xs h) ∙ by (least_of own xs)
      where
        by : (o : Option ℕ) → within mean o threshold (map f xs) ≡ map f (within own o threshold xs)
        by None = refl
        by (Some least) = filter_map_same (least + threshold) xs h

  module _ (load : B → ℕ) (own : A → ℕ) where
    lighter_map : (o p : Option A) → IfSome o (λ x. load (f x) ≡ own x) → IfSome p (λ x. load (f x) ≡ own x) → lighter_of load (option_map f o) (option_map f p) ≡ option_map f (lighter_of own o p)
    lighter_map None p h k = refl
    lighter_map (Some x) None h k = refl
    lighter_map (Some x) (Some y) h k = (λ i. Some (if nat_lt (k i) (h i) then f y else f x)) ∙ by (nat_lt (own y) (own x))
      where
        by : (b : Bool) → Some (if b then f y else f x) ≡ Some (f (if b then y else x))
        by true = refl
        by false = refl

    pub choice_map : (w1 w2 : ℕ) (xs : List A) → All (λ x. load (f x) ≡ own x) xs → choice load w1 w2 (map f xs) ≡ option_map f (choice own w1 w2 xs)
    choice_map w1 w2 xs h =
        ap (λ n. lighter_of load (slice_get (map f xs) (w1 % n)) (slice_get (remove (map f xs) (w1 % n)) (w2 % (n - 1)))) (length-map xs f)
        ∙ (λ i. lighter_of load (slice_get-map f xs (w1 % length xs) i) (second i))
        ∙ lighter_map (slice_get xs (w1 % length xs)) (slice_get (remove xs (w1 % length xs)) (w2 % (length xs - 1)))
        (all_at (λ x. load (f x) ≡ own x) xs (w1 % length xs) h) (all_at (λ x. load (f x) ≡ own x) (remove xs (w1 % length xs)) (w2 % (length xs - 1)) (all_remove (λ x. load (f x) ≡ own x) xs (w1 % length xs) h))
      where
        second : slice_get (remove (map f xs) (w1 % length xs)) (w2 % (length xs - 1)) ≡ option_map f (slice_get (remove xs (w1 % length xs)) (w2 % (length xs - 1)))
        second = ap (λ ys. slice_get ys (w2 % (length xs - 1))) (remove_map xs (w1 % length xs)) ∙ slice_get-map f (remove xs (w1 % length xs)) (w2 % (length xs - 1))
