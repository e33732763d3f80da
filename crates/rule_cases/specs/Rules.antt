-- What the pickers of case files allow.
use Rattle.std.specs.Prelude.{ℕ, Bool, true, false, ◌==◌, ◌%◌}
use Rattle.rule_cases.specs.declared.selections.picker.Rule.{Rule}
use Rattle.rule_cases.specs.declared.selections.picker.Rule.TheVariants.{All, Nothing, Second}

-- By how many candidates it was asked of before: all, none, or every second one.
abbrev pub allowed : Rule → ℕ → Bool
allowed All asked = true
allowed Nothing asked = false
allowed Second asked = asked % 2 == 1
