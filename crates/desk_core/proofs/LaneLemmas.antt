-- Of the commands before a place, which are answered.
use Rattle.std.proofs.Common.{◌≡◌, ℕ, ◌+◌, true, List, Some, inl, inr, sym, ap, ◌∙◌}
use Rattle.std.specs.Prelude.{slice_get}
use Rattle.cmd_build.specs.declared.command.Command.{Command}
use Rattle.desk_trail.specs.States.{CommandState}
use Rattle.desk_core.specs.Nexts.{AreAnsweredTo}
use Rattle.desk_core.proofs.DueLemmas.{before_or_at}

same-at : {A : Type 0} (xs : List A) (k n : ℕ) (x y : A) → slice_get xs n ≡ Some y → k ≡ n → slice_get xs k ≡ Some x → x ≡ y
same-at xs k n x y here e there = let same : Some x ≡ Some y = sym there ∙ ap (λ i. slice_get xs i) e ∙ here in cc

-- Each command of the lane before a place is answered, and so is one more, where that is no command of the lane or is answered.
pub AreAnswered-next : (commands : List Command) (operations : List CommandState) (lane place : ℕ) (d : Command) (y : CommandState) → slice_get commands place ≡ Some d →
    slice_get operations place ≡ Some y → (d.lane ≡ lane → y.is_finished ≡ true) → AreAnsweredTo commands operations lane place →
    AreAnsweredTo commands operations lane (place + 1)
AreAnswered-next commands operations lane place d y at there answered h = λ k c x below given runs of_lane. elim (before_or_at k place below) [
  | inl a ↦ h k c x a given runs of_lane
  | inr b ↦
      let is : c ≡ d = same-at commands k place c d at b given in
      let so : x ≡ y = same-at operations k place x y there b runs in
      ap (λ (z : CommandState). z.is_finished) so ∙ answered (sym (ap (λ (z : Command). z.lane) is) ∙ of_lane)
]
