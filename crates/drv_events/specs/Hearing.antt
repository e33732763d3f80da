-- What an event's delivery does to listeners.
use Rattle.std.specs.Prelude.{◌≡◌, Bool, true, not, ◌⊎◌, List, [], ◌∷◌, ◌++◌, filter}
use Rattle.drv_events.specs.declared.event.Event.{Event}

-- A listener heard the event as its last, or leaves without it (own: a listener that wants memory leaves).
abbrev pub Hears : Event → List Event → List Event → Bool → Type 0
Hears e before after leaving = (after ≡ before ++ e ∷ []) ⊎ ((after ≡ before) × (leaving ≡ true))

module _ {S : Type 0} (heard : S → List Event) (leaves : S → Bool) where
  -- Each of these heard the event once, and so became what stands in its place there (SDAM Monitoring, Event API).
  abbrev pub AllHear : Event → List S → List S → Type 0
  AllHear e [] zs = zs ≡ []
  AllHear e (x ∷ xs) zs = (z : S) × Hears e (heard x) (heard z) (leaves z) × ((rest : List S) × (zs ≡ z ∷ rest) × AllHear e xs rest)

  -- All heard the event, and those are left, in order, that do not leave (own: the standards have no leaving).
  abbrev pub Delivered : Event → List S → List S → Type 0
  Delivered e xs ys = (zs : List S) × AllHear e xs zs × (ys ≡ filter (λ z. not (leaves z)) zs)
