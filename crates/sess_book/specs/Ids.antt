-- The ids of server sessions (Driver Sessions, Generating a Session ID locally; RFC 4122, version 4).
use Rattle.std.specs.Prelude.{ℕ, ◌+◌, ◌*◌, ◌^◌, Bool}
use Rattle.std.specs.Int.{w128, to_be_bytes}
use Rattle.std.specs.Ordering.{is_eq}
use Rattle.uuid.specs.Parts.{with_variant, with_version}
use Rattle.uuid.specs.declared.Variant.TheVariants.{RFC4122}
use Rattle.uuid.specs.declared.Version.TheVariants.{Random}
use Rattle.bson_doc.specs.Ids.{lsid_cmp}
use Rattle.bson_doc.specs.declared.ids.Lsid.{Lsid}

-- A version 4 UUID of two random words: the first word is its first eight bytes, the second its last eight, each with the highest
-- byte first; then the bits of the variant and of the version are set.
abbrev pub id_of : ℕ → ℕ → Lsid
id_of w1 w2 = record { 0 = with_version (with_variant (to_be_bytes w128 (w1 * 2 ^ 64 + w2)) RFC4122) Random }

-- Two ids have the same bytes.
abbrev pub is_same_id : Lsid → Lsid → Bool
is_same_id a b = is_eq (lsid_cmp a b)
