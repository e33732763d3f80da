-- The definitions at values worked out by hand.
use Rattle.std.proofs.Common.{◌≡◌, ◌++◌, pos, negsuc, Float, [], ◌∷◌, Ok, Err, codes, decimal, refl}
use Rattle.serde_json.specs.Data.{unsigned, float, number, array, object, no_items, item, no_members, member}
use Rattle.bson_doc.specs.declared.value.Value.TheVariants as value
use Rattle.bson_text.specs.declared.fault.TextFault.TheVariants as fault
use Rattle.bson_text.specs.Documents.{integer_value}
use Rattle.bson_text.specs.Reading.{reading}

-- {"a":1,"b":2147483648}
two_members : reading (object (member (codes "a") (number (unsigned 1)) (member (codes "b") (number (unsigned 2147483648)) no_members)))
    ≡ Ok (record { elements = (codes "a", value.Int32 (pos 1)) ∷ (codes "b", value.Int64 (pos 2147483648)) ∷ [] })
two_members = refl

-- {"a":x} with a float x
fraction_at_a : (x : Float) → reading (object (member (codes "a") (number (float x)) no_members)) ≡ Err (fault.Fraction (codes "a"))
fraction_at_a x = refl

-- {"a":[0,9223372036854775808]}
too_big_at_a_1 : reading (object (member (codes "a") (array (item (number (unsigned 0)) (item (number (unsigned 9223372036854775808)) no_items))) no_members))
    ≡ Err (fault.TooBig (codes "a." ++ decimal 1))
too_big_at_a_1 = refl

-- []
no_object : reading (array no_items) ≡ Err fault.Shape
no_object = refl

least_int32 : integer_value (negsuc 2147483647) ≡ value.Int32 (negsuc 2147483647)
least_int32 = refl

below_int32 : integer_value (negsuc 2147483648) ≡ value.Int64 (negsuc 2147483648)
below_int32 = refl
