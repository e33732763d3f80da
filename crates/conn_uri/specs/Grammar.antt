-- The parts of a connection string: mongodb://hosts[/[database]][?options] (Connection String, General Syntax).
use Rattle.std.specs.Prelude.{ℕ, ◌+◌, ◌-◌, ◌==◌, Bool, nat_eq, if◌then◌else◌, List, [], ◌∷◌, Option, None, Some, length, drop, codes}
use Rattle.std.specs.List.{starts_with}
use Rattle.host_name.specs.Grammar.{is_in, before, behind}

-- Text of the string, and the place of its first byte, from 0.
pub record Part : Type 0 where
  pub at : ℕ
  pub text : List ℕ

-- The scheme.
abbrev pub SCHEME : List ℕ
SCHEME = codes "mongodb://"

-- What stands behind the scheme; none where the text does not begin with it.
abbrev pub body_of : List ℕ → Option Part
body_of text = if starts_with nat_eq text SCHEME then Some (record { at = 10; text = drop 10 text }) else None

-- What stands before the first such byte, all where there is none.
abbrev pub before_part : ℕ → Part → Part
before_part mark p = record { at = p.at; text = before mark p.text }

-- What stands behind it, up to the end.
abbrev pub behind_part : ℕ → Part → Part
behind_part mark p = record { at = p.at + (length p.text - length (behind mark p.text)); text = behind mark p.text }

-- Ahead of the options is what stands before the first '?'.
abbrev pub ahead : Part → Part
ahead body = before_part 63 body

-- The hosts end at the first '/' or '?' (own: the slash may be left out ahead of the question mark).
abbrev pub hosts_part : Part → Part
hosts_part body = before_part 47 (ahead body)

-- The database stands behind that slash.
abbrev pub db_part : Part → Part
db_part body = behind_part 47 (ahead body)

-- The options stand behind the question mark.
abbrev pub options_part : Part → Part
options_part body = behind_part 63 body

-- The byte at the front of the first piece.
abbrev pub onto : ℕ → ℕ → List Part → List Part
onto at b [] = record { at = at; text = b ∷ [] } ∷ []
onto at b (p ∷ ps) = record { at = at; text = b ∷ p.text } ∷ ps

-- The pieces between the marks, of a text from that place on: one more than there are marks.
abbrev pub pieces_from : ℕ → ℕ → List ℕ → List Part
pieces_from mark at [] = record { at = at; text = [] } ∷ []
pieces_from mark at (b ∷ rest) =
    if b == mark then record { at = at; text = [] } ∷ pieces_from mark (at + 1) rest else onto at b (pieces_from mark (at + 1) rest)

unfoldable pub pieces : ℕ → Part → List Part
pieces mark p = pieces_from mark p.at p.text

-- The hosts are parted by commas, the options by '&'.
abbrev pub host_pieces : Part → List Part
host_pieces body = pieces 44 (hosts_part body)

abbrev pub option_pieces : Part → List Part
option_pieces body = pieces 38 (options_part body)

-- An option is a name and a value, cut at the first '='; without one the value is empty (own).
abbrev pub name_part : Part → Part
name_part p = before_part 61 p

abbrev pub value_part : Part → Part
value_part p = behind_part 61 p
