-- What the answers of a book say.
use Rattle.std.specs.Prelude.{Bool}
use Rattle.topo_rules.specs.declared.change.Change.{Change}
use Rattle.topo_book.specs.declared.taken.Taken.{Taken}
use Rattle.topo_book.specs.declared.taken.Taken.TheVariants as answer
use Rattle.topo_book.specs.declared.verdict.Verdict.{Verdict}
use Rattle.topo_book.specs.declared.verdict.Verdict.TheVariants as verdict
use Rattle.topo_book.specs.Fresh.{is_accepted_verdict}

-- The verdict that an answer tells.
abbrev pub verdict_of : Taken → Verdict
verdict_of (answer.Accepted change) = verdict.Accepted
verdict_of answer.Gone = verdict.Gone
verdict_of (answer.StaleVersion kept came) = verdict.StaleVersion kept came
verdict_of (answer.StaleGeneration kept came) = verdict.StaleGeneration kept came

abbrev pub is_accepted : Taken → Bool
is_accepted taken = is_accepted_verdict (verdict_of taken)

-- A fact about what an accepted event changed.
abbrev pub IfAccepted : Taken → (Change → Type 0) → Type 0
IfAccepted (answer.Accepted change) P = P change
IfAccepted _ P = Unit {0}
