-- The modes of read preferences and their names (Server Selection, Read Preference, mode).
use Rattle.std.specs.Prelude.{ℕ, List, [], ◌∷◌, Option, find, codes}
use Rattle.bson_doc.specs.Documents.{is_text}
use Rattle.read_pref.specs.declared.mode.Mode.{Mode}
use Rattle.read_pref.specs.declared.mode.Mode.TheVariants as mode

-- The mode's name in connection strings, scripts and commands.
abbrev pub name_of : Mode → List ℕ
name_of mode.Primary = codes "primary"
name_of mode.PrimaryPreferred = codes "primaryPreferred"
name_of mode.Secondary = codes "secondary"
name_of mode.SecondaryPreferred = codes "secondaryPreferred"
name_of mode.Nearest = codes "nearest"

-- All modes, in the standard's order.
abbrev pub modes : List Mode
modes = mode.Primary ∷ mode.PrimaryPreferred ∷ mode.Secondary ∷ mode.SecondaryPreferred ∷ mode.Nearest ∷ []

-- The mode of that name, byte by byte; none where no mode has it.
abbrev pub mode_named : List ℕ → Option Mode
mode_named name = find (λ m. is_text (name_of m) name) modes
