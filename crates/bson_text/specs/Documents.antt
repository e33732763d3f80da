-- The document that a JSON value stands for (RFC 8259, Values; bsonspec 1.1, element; own: which kind of number).
use Rattle.std.specs.Prelude.{◌^◌, ℤ, pos, negsuc, List, [], ◌∷◌, nat_lt, if◌then◌else◌}
use Rattle.bson_doc.specs.declared.name.Name.{Name}
use Rattle.bson_doc.specs.declared.value.Document.{Document}
use Rattle.bson_doc.specs.declared.value.Value.{Value}
use Rattle.bson_doc.specs.declared.value.Value.TheVariants as value
use Rattle.serde_json.specs.Data.{Num, unsigned, negative, float, Data, null, boolean, number, string, array, object, Items, no_items, item, Members, no_members, member}

-- An integer is an int32 where it is from -2^31 to 2^31 - 1, and an int64 otherwise; `negsuc n` is -1 - n.
abbrev pub integer_value : ℤ → Value
integer_value (pos n) = if nat_lt n (2 ^ 31) then value.Int32 (pos n) else value.Int64 (pos n)
integer_value (negsuc n) = if nat_lt n (2 ^ 31) then value.Int32 (negsuc n) else value.Int64 (negsuc n)

-- A number's value; a float is a flaw and has none, and null stands in its place here.
abbrev pub number_value : Num → Value
number_value (unsigned n) = integer_value (pos n)
number_value (negative z) = integer_value z
number_value (float x) = value.Null

abbrev mutual
  -- The value of the same kind. What has a flaw (`Flaws`) has no value, and something stands in its place here.
  pub value_from : Data → Value
  value_from null = value.Null
  value_from (boolean b) = value.Bool b
  value_from (number n) = number_value n
  value_from (string s) = value.Str s
  value_from (array ds) = value.Array (values_from ds)
  value_from (object ms) = value.Doc (record { elements = elements_from ms })

  -- The values of an array's items, in order.
  pub values_from : Items → List Value
  values_from no_items = []
  values_from (item d ds) = value_from d ∷ values_from ds

  -- An element for each member, in order.
  pub elements_from : Members → List (Name × Value)
  elements_from no_members = []
  elements_from (member k d ms) = (k, value_from d) ∷ elements_from ms

-- The document of an object's members.
abbrev pub document_from : Members → Document
document_from ms = record { elements = elements_from ms }
