-- How ids compare (bsonspec 1.1, ObjectId; Driver Sessions, lsid; own: the order of session ids).
use Rattle.std.specs.Prelude.{Bool, nat_eq}
use Rattle.std.specs.declared.cmp.Ordering.{Ordering}
use Rattle.std.specs.Ordering.{nat_cmp, on}
use Rattle.std.specs.Cmp.Lexicographic.{pointwise, slice_cmp}
use Rattle.bson_doc.specs.declared.ids.Oid.{Oid}
use Rattle.bson_doc.specs.declared.ids.Lsid.{Lsid}

-- Two ObjectIds are equal where their bytes are.
abbrev pub is_same_oid : Oid → Oid → Bool
is_same_oid = on (λ (a : Oid). a.0) (pointwise nat_eq)

-- ObjectIds stand in the order of their bytes, from the first on.
abbrev pub oid_cmp : Oid → Oid → Ordering
oid_cmp = on (λ (a : Oid). a.0) (slice_cmp nat_cmp)

-- Two session ids are equal where their bytes are.
abbrev pub is_same_lsid : Lsid → Lsid → Bool
is_same_lsid = on (λ (a : Lsid). a.0) (pointwise nat_eq)

-- Session ids stand in the order of their bytes, from the first on.
abbrev pub lsid_cmp : Lsid → Lsid → Ordering
lsid_cmp = on (λ (a : Lsid). a.0) (slice_cmp nat_cmp)
