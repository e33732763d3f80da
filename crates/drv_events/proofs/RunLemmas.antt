use Rattle.std.proofs.Common.{◌≡◌, ℕ, ◌+◌, List, [], ◌∷◌, ◌++◌, length, map, Bool, true, false, not, cond, refl, sym, ap, ◌∙◌, subst, inl, inr, arith}
use Rattle.std.proofs.lemmas.List.{map-append, append_assoc, append-nil, length-append}
use Rattle.std.specs.Prelude.{filter}
use Rattle.drv_events.specs.declared.event.Event.{Event}
use Rattle.drv_events.specs.Hearing.{Hears, AllHear}
use Rattle.drv_events.specs.Runs.{Act, Adds, Tells, told, added, AreAmong, lists_of_added, lists_of, HeardSince, Leads}

-- a list is among itself, what is among some of these is among these, and both may go on alike
AreAmong-same : {X : Type 0} (vs : List X) → AreAmong vs vs
AreAmong-same [] = refl
AreAmong-same (v ∷ vs) = inr (vs, refl, AreAmong-same vs)

AreAmong-nil : {X : Type 0} (vs : List X) → AreAmong [] vs
AreAmong-nil [] = refl
AreAmong-nil (v ∷ vs) = inl (AreAmong-nil vs)

AreAmong-step : {X : Type 0} (us : List X) (w : X) (rest ws : List X) → AreAmong us (w ∷ rest) → ((xs : List X) → AreAmong xs rest → AreAmong xs ws) →
    AreAmong us (w ∷ ws)
AreAmong-step us w rest ws (inl c) behind = inl (behind us c)
AreAmong-step us w rest ws (inr (r, q, c)) behind = inr (r, q, behind r c)

AreAmong-all : {X : Type 0} (us vs ws : List X) → AreAmong us vs → AreAmong vs ws → AreAmong us ws
AreAmong-all us vs [] a b = subst (λ xs. AreAmong us xs) b a
AreAmong-all us vs (w ∷ ws) a (inl b) = inl (AreAmong-all us vs ws a b)
AreAmong-all us vs (w ∷ ws) a (inr (rest, e, b)) =
    AreAmong-step us w rest ws (subst (λ xs. AreAmong us xs) e a) (λ xs c. AreAmong-all xs rest ws c b)

AreAmong-append : {X : Type 0} (us vs ls : List X) → AreAmong us vs → AreAmong (us ++ ls) (vs ++ ls)
AreAmong-append us [] ls h = subst (λ xs. AreAmong (xs ++ ls) ls) (sym h) (AreAmong-same ls)
AreAmong-append us (v ∷ vs) ls (inl h) = inl (AreAmong-append us vs ls h)
AreAmong-append us (v ∷ vs) ls (inr (rest, e, h)) = inr (rest ++ ls, ap (λ xs. xs ++ ls) e, AreAmong-append rest vs ls h)

module _ {S : Type 0} (heard : S → List Event) (leaves : S → Bool) where
  -- one that heard the event stays with what it heard, or is left out
  one-heard : (e : Event) (t : List Event) (x z : S) (us : List S) (ls : List (List Event)) → Hears e (heard x) (heard z) (leaves z) →
      AreAmong (map (λ y. heard y ++ t) us) ls → (b : Bool) → leaves z ≡ b →
      AreAmong (map (λ y. heard y ++ t) (cond (not b) (z ∷ us) us)) ((heard x ++ e ∷ t) ∷ ls)
  one-heard e t x z us ls h a true q = inl a
  one-heard e t x z us ls (inl h) a false q =
      inr (map (λ y. heard y ++ t) us, ap (λ l. (l ++ t) ∷ map (λ y. heard y ++ t) us) h ∙ ap (λ l. l ∷ map (λ y. heard y ++ t) us) (append_assoc (heard x) (e ∷ []) t), a)
  one-heard e t x z us ls (inr h) a false q = absurd cc

  -- so do all
  all-heard : (e : Event) (t : List Event) (xs zs : List S) → AllHear heard leaves e xs zs →
      AreAmong (map (λ y. heard y ++ t) (filter (λ z. not (leaves z)) zs)) (map (λ x. heard x ++ e ∷ t) xs)
  all-heard e t [] zs h = subst (λ us. AreAmong (map (λ y. heard y ++ t) (filter (λ z. not (leaves z)) us)) []) (sym h) refl
  all-heard e t (x ∷ xs) zs (z, h, (rest, q, hs)) =
      subst (λ us. AreAmong (map (λ y. heard y ++ t) (filter (λ w. not (leaves w)) us)) (map (λ w. heard w ++ e ∷ t) (x ∷ xs))) (sym q)
      (one-heard e t x z (filter (λ w. not (leaves w)) rest) (map (λ w. heard w ++ e ∷ t) xs) h (all-heard e t xs rest hs) (leaves z) refl)

  -- a listener that is added stands behind the others
  lists_of-added : (xs : List S) (x : S) (acts : List (Act S)) → lists_of heard (xs ++ x ∷ []) acts ≡ lists_of heard xs (Adds x ∷ acts)
  lists_of-added xs x acts =
      ap (λ ls. ls ++ lists_of_added heard acts) (map-append (λ y. heard y ++ told acts) xs (x ∷ []))
      ∙ append_assoc (map (λ y. heard y ++ told acts) xs) ((heard x ++ told acts) ∷ []) (lists_of_added heard acts)

  pub each-heard : (acts : List (Act S)) (xs ys : List S) (m n : ℕ) → Leads heard leaves acts xs m ys n → HeardSince heard acts xs ys
  each-heard [] xs ys m n (e, f) =
      subst (λ us. AreAmong (map heard us) (lists_of heard xs [])) (sym e)
      (subst (λ ls. AreAmong (map heard xs) ls) (sym (append-nil (map (λ x. heard x ++ []) xs) ∙ nothing-told xs)) (AreAmong-same (map heard xs)))
    where
      nothing-told : (us : List S) → map (λ x. heard x ++ []) us ≡ map heard us
      nothing-told [] = refl
      nothing-told (u ∷ us) = ap (λ l. l ∷ map (λ x. heard x ++ []) us) (append-nil (heard u)) ∙ ap (λ ls. heard u ∷ ls) (nothing-told us)
  each-heard (Adds x ∷ acts) xs ys m n h =
      subst (λ ls. AreAmong (map heard ys) ls) (lists_of-added xs x acts) (each-heard acts (xs ++ x ∷ []) ys m n h)
  each-heard (Tells e ∷ acts) xs ys m n (zs, k, d, c, h) =
      AreAmong-all (map heard ys) (lists_of heard zs acts) (lists_of heard xs (Tells e ∷ acts)) (each-heard acts zs ys k n h)
      (AreAmong-append (map (λ y. heard y ++ told acts) zs) (map (λ x. heard x ++ e ∷ told acts) xs) (lists_of_added heard acts)
      (subst (λ us. AreAmong (map (λ y. heard y ++ told acts) us) (map (λ x. heard x ++ e ∷ told acts) xs)) (sym d.2) (all-heard e (told acts) xs d.0 d.1)))

  pub all-counted : (acts : List (Act S)) (xs ys : List S) (m n : ℕ) → Leads heard leaves acts xs m ys n → n + length ys ≡ m + length xs + added acts
  all-counted [] xs ys m n (e, f) = let same = ap length e in omega arith
  all-counted (Adds x ∷ acts) xs ys m n h =
      let rest = all-counted acts (xs ++ x ∷ []) ys m n h in
      let longer = length-append xs (x ∷ []) in
      omega arith
  all-counted (Tells e ∷ acts) xs ys m n (zs, k, d, c, h) =
      let rest = all-counted acts zs ys k n h in
      omega arith
