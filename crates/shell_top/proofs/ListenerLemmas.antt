-- How many listeners there are and were, where some were told what a trail tells.
use Rattle.std.proofs.Common.{◌≡◌, ℕ, ◌+◌, Bool, List, [], ◌∷◌, length, map, refl, arith}
use Rattle.drv_events.specs.declared.event.Event.{Event}
use Rattle.drv_events.specs.declared.hooks.HooksOf.{HooksOf}
use Rattle.drv_events.specs.Runs.{Act, Leads, Tells, added}
use Rattle.desk_hooks.specs.Hearing.{AreTold}
use Rattle.desk_share.specs.Shared.{listeners_in}

module _ {L : Type 0} (heard_by : L → List Event) (leaves : L → Bool) where
  none-added : (es : List Event) → added {S = L} (map (λ e. Tells e) es) ≡ 0
  none-added [] = refl
  none-added (e ∷ es) = none-added es

  pub listeners-told : ((acts : List (Act L)) (xs ys : List L) (m n : ℕ) → Leads heard_by leaves acts xs m ys n → n + length ys ≡ m + length xs + added acts) →
      (events : List Event) (old new : HooksOf L) → AreTold heard_by leaves events old new → listeners_in new ≡ listeners_in old
  listeners-told law events old new told =
      let none : added {S = L} (map (λ e. Tells e) events) ≡ 0 = none-added events in
      let all = law (map (λ e. Tells e) events) old.listeners.items new.listeners.items old.left new.left told in
      omega (arith, all, none)
