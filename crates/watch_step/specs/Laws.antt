-- What the laws on checks speak of.
use Rattle.std.specs.Prelude.{ℕ, min, List, [], ◌∷◌, Option, fold, map}
use Rattle.entry_judge.specs.declared.timed.Timed.{Timed}
use Rattle.entry_judge.specs.Groups.{IsTrail, place_behind}
use Rattle.watch_step.specs.Checks.{Checks, first_check, soonest_check}
use Rattle.watch_step.specs.Entries.{CheckEntry, Began, Ended, Asked, checks_judge}

-- What happens to a server's checks from its beginning on, each entry where it may stand.
abbrev pub IsHistory : ℕ → ℕ → List (Timed CheckEntry) → Type 0
IsHistory beat first ts = IsTrail checks_judge (first_check beat first) ts

-- The checks behind a history.
abbrev pub checks_behind : ℕ → ℕ → List (Timed CheckEntry) → Checks
checks_behind beat first ts = (place_behind checks_judge (first_check beat first) ts).state

-- The entry ends no check.
abbrev pub EndsNone : CheckEntry → Type 0
EndsNone (Ended again) = ⊥
EndsNone e = Unit {0}

-- None of the entries ends a check.
abbrev pub NoneEnds : List (Timed CheckEntry) → Type 0
NoneEnds [] = Unit {0}
NoneEnds (t ∷ ts) = EndsNone t.what × NoneEnds ts

-- The moments of the asks ahead of the next check's beginning.
abbrev pub ask_before : ℕ → CheckEntry → List ℕ → List ℕ
ask_before moment Began later = []
ask_before moment Asked later = moment ∷ later
ask_before moment (Ended again) later = later

abbrev pub asks_before : List (Timed CheckEntry) → List ℕ
asks_before [] = []
asks_before (t ∷ ts) = ask_before t.at t.what (asks_before ts)

-- The least of a moment and of the soonest ones that asks may name, behind a check that ended or where none did.
abbrev pub least_due : Option ℕ → ℕ → List ℕ → ℕ
least_due ended due asks = fold min due (map (soonest_check ended) asks)
