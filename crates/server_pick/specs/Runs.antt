-- What a picker keeps when it is asked of candidates, one after another.
use Rattle.std.specs.Prelude.{◌≡◌, Bool, List, [], ◌∷◌, if◌then◌else◌}
use Rattle.host_name.specs.Addresses.{Address}
use Rattle.server_pick.specs.declared.candidate.Candidate.{Candidate}

-- What is kept with one more candidate ahead, by the picker's answer.
abbrev pub with_answer : Bool → Candidate → List Address → List Address
with_answer keeps c rest = if keeps then c.host ∷ rest else rest

-- A picker goes from state to state, once for each candidate, in order, and these are the hosts that it allowed.
abbrev pub Runs : {S : Type 0} → (S → Candidate → Bool) → (S → Candidate → S → Type 0) → S → List Candidate → List Address → S → Type 0
Runs allows follows p [] kept q = (kept ≡ []) × (q ≡ p)
Runs {S} allows follows p (c ∷ cs) kept q =
    (r : S) × follows p c r × ((rest : List Address) × (kept ≡ with_answer (allows p c) c rest) × Runs allows follows r cs rest q)
