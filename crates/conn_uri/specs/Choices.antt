-- What the options of a connection string choose.
use Rattle.std.specs.Prelude.{ℕ, List, [], ◌∷◌, ◌++◌, Option, None, Some, fold, unwrap_or}
use Rattle.std.specs.Option.{option_and_then}
use Rattle.conn_uri.specs.Configurations.{defaults}
use Rattle.conn_uri.specs.Options.{taken, option_named}
use Rattle.conn_uri.specs.declared.chosen.Chosen.{Chosen}
use Rattle.conn_uri.specs.declared.said.Said.{Said}

-- One more name is told.
abbrev pub warned : List ℕ → Chosen → Chosen
warned name c = record c { warnings = c.warnings ++ name ∷ [] }

-- What one piece of the options makes of what was chosen: where no option has the name, or its value does not read, the piece
-- is ignored and its name told; an empty piece says nothing (Connection String, Warnings; own: the empty piece).
abbrev pub took : Chosen → Option Said → Chosen
took c None = c
took c (Some s) = unwrap_or (option_and_then (λ o. taken o s.value c) (option_named s.name)) (warned s.name c)

-- What all pieces choose, in order.
abbrev pub chosen_of : List (Option Said) → Chosen
chosen_of pieces = fold took defaults pieces
