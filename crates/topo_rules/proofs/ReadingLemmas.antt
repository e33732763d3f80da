-- What is read off shared descriptions is what is read off the descriptions.
use Rattle.std.proofs.Common.{◌≡◌, ℤ, Bool, true, false, cond, ◌||◌, List, [], ◌∷◌, map, filter, fold, find, Option, None, Some, refl, ap, option_map}
use Rattle.std.specs.List.{list_any}
use Rattle.std.specs.Option.{unwrap_or}
use Rattle.hello_reply.specs.declared.server_description.ServerDescription.{ServerDescription}
use Rattle.topo_rules.specs.Kinds.{bears_data}
use Rattle.topo_rules.specs.Readings.{lesser, least, lowered, minutes_of}

module _ {A B : Type 0} (f : A → B) where
  pub list_any-shared : (p : B → Bool) (xs : List A) → list_any (λ s. p (f s)) xs ≡ list_any p (map f xs)
  list_any-shared p [] = refl
  list_any-shared p (x ∷ xs) = ap (λ b. p (f x) || b) (list_any-shared p xs)

  pub find-shared : (p : B → Bool) (xs : List A) → option_map f (find (λ s. p (f s)) xs) ≡ find p (map f xs)
  find-shared p [] = refl
  find-shared p (x ∷ xs) = by (p (f x)) (find-shared p xs)
    where
      by : (b : Bool) → option_map f (find (λ s. p (f s)) xs) ≡ find p (map f xs) → option_map f (cond b (Some x) (find (λ s. p (f s)) xs)) ≡ cond b (Some (f x)) (find p (map f xs))
      by true h = refl
      by false h = h

  pub fold-shared : {C : Type 0} (step : C → B → C) (c : C) (xs : List A) → fold (λ c s. step c (f s)) c xs ≡ fold step c (map f xs)
  fold-shared step c [] = refl
  fold-shared step c (x ∷ xs) = fold-shared step (step c (f x)) xs

-- from the first timeout on, the least goes down
lowered_from : (x : Option ℤ) (ds : List ServerDescription) → fold lowered (Some x) ds ≡ Some (fold lesser x (map minutes_of (filter bears_data ds)))
lowered_from x [] = refl
lowered_from x (d ∷ ds) = by (bears_data d) (lowered_from x ds) (lowered_from (lesser x (minutes_of d)) ds)
  where
    by : (b : Bool) → fold lowered (Some x) ds ≡ Some (fold lesser x (map minutes_of (filter bears_data ds)))
        → fold lowered (Some (lesser x (minutes_of d))) ds ≡ Some (fold lesser (lesser x (minutes_of d)) (map minutes_of (filter bears_data ds)))
        → fold lowered (cond b (Some (lesser x (minutes_of d))) (Some x)) ds ≡ Some (fold lesser x (map minutes_of (cond b (d ∷ filter bears_data ds) (filter bears_data ds))))
    by true without with_it = with_it
    by false without with_it = without

pub lowest_is_least : (ds : List ServerDescription) → unwrap_or (fold lowered None ds) None ≡ least (map minutes_of (filter bears_data ds))
lowest_is_least [] = refl
lowest_is_least (d ∷ ds) = by (bears_data d) (lowest_is_least ds) (lowered_from (minutes_of d) ds)
  where
    by : (b : Bool) → unwrap_or (fold lowered None ds) None ≡ least (map minutes_of (filter bears_data ds))
        → fold lowered (Some (minutes_of d)) ds ≡ Some (fold lesser (minutes_of d) (map minutes_of (filter bears_data ds)))
        → unwrap_or (fold lowered (cond b (Some (minutes_of d)) None) ds) None ≡ least (map minutes_of (cond b (d ∷ filter bears_data ds) (filter bears_data ds)))
    by true without with_it = ap (λ o. unwrap_or o None) with_it
    by false without with_it = without
