-- What a picker keeps of candidates, as the candidates themselves.
use Rattle.std.specs.Prelude.{◌≡◌, Bool, if◌then◌else◌, List, [], ◌∷◌, ◌++◌}
use Rattle.server_pick.specs.declared.candidate.Candidate.{Candidate}

-- The candidate where it is kept.
abbrev pub kept_of : Bool → Candidate → List Candidate
kept_of keeps c = if keeps then c ∷ [] else []

-- A picker goes from state to state, once for each candidate, in order, and these are the candidates that it allowed.
abbrev pub Asks : {S : Type 0} → (S → Candidate → Bool) → (S → Candidate → S → Type 0) → S → List Candidate → List Candidate → S → Type 0
Asks allows follows p [] kept q = (kept ≡ []) × (q ≡ p)
Asks {S} allows follows p (c ∷ cs) kept q =
    (r : S) × follows p c r × ((rest : List Candidate) × (kept ≡ kept_of (allows p c) c ++ rest) × Asks allows follows r cs rest q)

-- A picker was asked of the first candidate, which went behind the others where it was kept; of none nothing was asked.
abbrev pub AsksFirst : {S : Type 0} → (S → Candidate → Bool) → (S → Candidate → S → Type 0) → S → List Candidate → List Candidate → S → Type 0
AsksFirst allows follows p [] after q = (after ≡ []) × (q ≡ p)
AsksFirst allows follows p (c ∷ cs) after q = follows p c q × (after ≡ cs ++ kept_of (allows p c) c)
