-- What a writer of elements wrote (bsonspec 1.1, e_list).
use Rattle.std.specs.Prelude.{◌≡◌, ◌≤◌, ◌+◌, ℕ, List, [], ◌∷◌, ◌++◌, length, take, drop}
use Rattle.std.specs.List.{AllByRecursion}
use Rattle.bson_doc.specs.declared.name.Name.{Name}
use Rattle.bson_doc.specs.declared.value.Value.{Value}
use Rattle.bson_doc.specs.declared.kind.Kind.{Kind}
use Rattle.bson_doc.specs.wire.Kinds.{byte_of}
use Rattle.bson_doc.specs.wire.Limits.{most_bytes}
use Rattle.bson_doc.specs.wire.Spelled.{document, spelled_elements}
use Rattle.bson_doc.specs.wire.Spelling.{IsName}
use Rattle.bson_wire.specs.Written.{ElementSpells}

-- These elements were written behind what was there, and each is an element wherever enough levels are left.
pub record Writes (old new : List ℕ) (es : List (Name × Value)) : Type 0 where
  pub bytes : new ≡ old ++ spelled_elements es
  pub known : AllByRecursion ElementSpells es

-- Four bytes were left for a total.
abbrev pub room : List ℕ
room = 0 ∷ 0 ∷ 0 ∷ 0 ∷ []

-- A document or an array of that name began: its type byte, its name, 00, and room for its total, which begins at that place.
pub record Begins (kind : Kind) (name old new : List ℕ) (start : ℕ) : Type 0 where
  pub bytes : new ≡ old ++ (byte_of kind ∷ (name ++ 0 ∷ room))
  pub place : start + 4 ≡ length new
  pub is_name : IsName name

-- An outermost document began: room for its total, which begins at that place.
pub record BeginsFirst (old new : List ℕ) (start : ℕ) : Type 0 where
  pub bytes : new ≡ old ++ room
  pub place : start + 4 ≡ length new

-- What stands behind a total's room at a place ended: 00 behind it, and the total.
pub record Ends (start : ℕ) (old new : List ℕ) : Type 0 where
  pub bytes : new ≡ take start old ++ document (drop (start + 4) old)
  pub size : length (document (drop (start + 4) old)) ≤ most_bytes
