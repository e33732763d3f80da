-- What a writer has to know of what it wrote: that it spells the value. A document that is in memory does not say of
-- itself that its names are names and its texts UTF-8; a writer reads it off each part as it walks.
use Rattle.std.specs.Prelude.{ℕ, ◌<◌, ◌≤◌}
use Rattle.bson_doc.specs.Documents.{depth_inside}
use Rattle.bson_doc.specs.declared.name.Name.{Name}
use Rattle.bson_doc.specs.declared.value.Document.{Document}
use Rattle.bson_doc.specs.declared.value.Value.{Value, Value-F, out-Value}
use Rattle.bson_doc.specs.declared.value.Value.TheOpen as layer
use Rattle.bson_wire.specs.declared.fault.EncodeFault.{EncodeFault}
use Rattle.bson_wire.specs.declared.fault.EncodeFault.TheVariants as fault
use Rattle.bson_doc.specs.wire.Limits.{most_bytes}
use Rattle.bson_doc.specs.wire.Spelling.{IsName, IsPayload, SpellsWithin}
use Rattle.bson_doc.specs.wire.Spelled.{payload}

-- The payload spells the value, where enough levels are left.
abbrev pub PayloadSpells : Value → Type 0
PayloadSpells v =
    (levels : ℕ) → depth_inside v ≤ levels → IsPayload (SpellsWithin levels) (payload v).0 (payload v).1 (out-Value v)

-- The same of an element, whose name is one.
abbrev pub ElementSpells : Name × Value → Type 0
ElementSpells e = IsName e.0 × PayloadSpells e.1

-- The value holds no document.
abbrev pub IsPlainLayer : Value-F Value Document → Type 0
IsPlainLayer (layer.Doc d) = ⊥
IsPlainLayer (layer.Array items) = ⊥
IsPlainLayer (layer.Scope code scope) = ⊥
IsPlainLayer _ = Unit {0}

abbrev pub IsPlain : Value → Type 0
IsPlain v = IsPlainLayer (out-Value v)

-- What stops a writer of so many bytes: that they are too many, or want of memory.
abbrev pub Stops : ℕ → EncodeFault → Type 0
Stops n fault.Deep = ⊥
Stops n fault.Long = most_bytes < n
Stops n fault.Memory = Unit {0}
