-- What a trail tells of failed calls of the net, to which entries are appended.
use Rattle.std.proofs.Common.{◌≡◌, ◌≤◌, ◌⊎◌, inl, inr, ℕ, Bool, true, false, ◌||◌, List, ◌++◌, refl, sym, ap, ◌∙◌, arith}
use Rattle.std.proofs.lemmas.List.Folds.{list_any-append}
use Rattle.net_link.specs.Causes.{Rose}
use Rattle.desk_trail.specs.declared.step.Step.{Step}
use Rattle.wired_trail.specs.Faults.{tells_fault}
use Rattle.desk_core.specs.Appends.{tell_fault}
use Rattle.desk_share.specs.Shared.{AreOfNet}

rose-later : (a b c : ℕ) → Rose a b → b ≤ c → Rose a c
rose-later a b c rose later = omega (arith, rose, later)

rose-before : (a b c : ℕ) → a ≤ b → Rose b c → Rose a c
rose-before a b c later rose = omega (arith, rose, later)

either : (a b : Bool) → (a || b) ≡ true → (a ≡ true) ⊎ (b ≡ true)
either true b e = inl refl
either false b e = inr e

-- By entries that tell one only where one failed.
pub faults-more : (before old new : ℕ) (steps added all : List Step) → all ≡ steps ++ added → old ≤ new → (tell_fault added ≡ true → Rose old new) →
    AreOfNet before old steps → AreOfNet before new all
faults-more before old new steps added all grown later rose are = record {
  later = omega (arith, later, are.later);
  told = λ e. by (either (tell_fault steps) (tell_fault added) (sym (list_any-append (λ (s : Step). tells_fault s.entry) steps added) ∙ ap tell_fault (sym grown) ∙ e));
}
  where
    by : (tell_fault steps ≡ true) ⊎ (tell_fault added ≡ true) → Rose before new
    by (inl e) = rose-later before old new (are.told e) later
    by (inr e) = rose-before before old new are.later (rose e)

-- By entries of which none tells one.
pub faults-quiet : (before old new : ℕ) (steps added all : List Step) → all ≡ steps ++ added → old ≤ new → tell_fault added ≡ false →
    AreOfNet before old steps → AreOfNet before new all
faults-quiet before old new steps added all grown later quiet are =
    faults-more before old new steps added all grown later (λ (e : tell_fault added ≡ true). absurd (let never : ⊥ = cc in never)) are
