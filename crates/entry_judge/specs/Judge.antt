-- Which lists of entries are legal, and where they lead.
use Rattle.std.specs.Prelude.{List, [], ◌∷◌}

-- Each entry may stand in the state to which those ahead of it lead (own: a trail is judged entry by entry).
abbrev pub Legal : {S E : Type 0} → (S → E → Type 0) → (S → E → S) → S → List E → Type 0
Legal May next s [] = Unit {0}
Legal May next s (e ∷ es) = May s e × Legal May next (next s e) es

-- The state to which entries lead (own: a fold).
abbrev pub state_after : {S E : Type 0} → (S → E → S) → S → List E → S
state_after next s [] = s
state_after next s (e ∷ es) = state_after next (next s e) es
