-- What listeners heard behind a list of additions and events.
use Rattle.std.specs.Prelude.{◌≡◌, ℕ, ◌+◌, Bool, ◌⊎◌, List, [], ◌∷◌, ◌++◌, length, map}
use Rattle.drv_events.specs.declared.event.Event.{Event}
use Rattle.drv_events.specs.Hearing.{Delivered}

-- What is done to a client's listeners: one is added behind the others, or an event is told to all.
pub data Act (S : Type 0) : Type 0 where
  Adds : S → Act S
  Tells : Event → Act S

-- The events that these acts tell, in order.
abbrev pub told : {S : Type 0} → List (Act S) → List Event
told [] = []
told (Adds x ∷ acts) = told acts
told (Tells e ∷ acts) = e ∷ told acts

-- How many listeners these acts add.
abbrev pub added : {S : Type 0} → List (Act S) → ℕ
added [] = 0
added (Adds x ∷ acts) = 1 + added acts
added (Tells e ∷ acts) = added acts

-- The first are the second with some left out, in the same order.
abbrev pub AreAmong : {X : Type 0} → List X → List X → Type 0
AreAmong us [] = us ≡ []
AreAmong {X} us (v ∷ vs) = AreAmong us vs ⊎ ((rest : List X) × (us ≡ v ∷ rest) × AreAmong rest vs)

module _ {S : Type 0} (heard : S → List Event) where
  -- What each that these acts add has heard if it stays: what it had heard, and what is told since.
  abbrev pub lists_of_added : List (Act S) → List (List Event)
  lists_of_added [] = []
  lists_of_added (Adds x ∷ acts) = (heard x ++ told acts) ∷ lists_of_added acts
  lists_of_added (Tells e ∷ acts) = lists_of_added acts

  -- The same of those that are there from the first, and then of those that are added.
  abbrev pub lists_of : List S → List (Act S) → List (List Event)
  lists_of xs acts = map (λ x. heard x ++ told acts) xs ++ lists_of_added acts

  -- Of all that were there or were added, those that are still there heard just that, in the order in which they were added
  -- (SDAM Monitoring, Event API: every event once, in the order in which they happen).
  abbrev pub HeardSince : List (Act S) → List S → List S → Type 0
  HeardSince acts xs ys = AreAmong (map heard ys) (lists_of xs acts)

  -- The acts lead from those listeners, and so many that had left, to these, and so many.
  abbrev pub Leads : (S → Bool) → List (Act S) → List S → ℕ → List S → ℕ → Type 0
  Leads leaves [] xs m ys n = (ys ≡ xs) × (n ≡ m)
  Leads leaves (Adds x ∷ acts) xs m ys n = Leads leaves acts (xs ++ x ∷ []) m ys n
  Leads leaves (Tells e ∷ acts) xs m ys n =
      (zs : List S) × (k : ℕ) × Delivered heard leaves e xs zs × (k + length zs ≡ m + length xs) × Leads leaves acts zs k ys n
