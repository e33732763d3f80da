-- A hello's bytes frame its message (MongoDB wire protocol, OP_MSG).
use Rattle.std.proofs.Common.{◌≡◌, ◌≤◌, ◌%◌, ℕ, zero, suc, ℤ, pos, ◌+◌, ◌&&◌, Bool, true, false, List, [], ◌∷◌, ◌++◌, length, codes, None, refl, ap, ◌∙◌, arith}
use Rattle.std.specs.Prelude.{FitsSigned, IsUtf8, nat_lt}
use Rattle.std.specs.Int.{w32}
use Rattle.std.specs.List.{AllByRecursion, list_all}
use Rattle.std.specs.Str.{IsAscii}
use Rattle.std.proofs.lemmas.Bool.{ltb-true}
use Rattle.std.proofs.lemmas.Str.{IsUtf8-from_ascii}
use Rattle.bson_doc.specs.Names.{HasNoZero}
use Rattle.bson_doc.specs.Documents.{depth_inside, depth_of, document_step, value_step}
use Rattle.bson_doc.specs.declared.value.Document.{Document}
use Rattle.bson_doc.specs.declared.value.Value.{Value, Value-F, fold_out-Value, map-Value, out-Value}
use Rattle.bson_doc.specs.declared.value.Value.TheVariants as value
use Rattle.bson_doc.specs.declared.value.Value.TheVariants.{outs-Int32, outs-Str}
use Rattle.bson_doc.specs.wire.Spelling.{IsName, Spells}
use Rattle.bson_doc.specs.wire.Spelled.{spelled}
use Rattle.bson_wire.specs.Written.{ElementSpells}
use Rattle.bson_wire.proofs.Lengths.{length-string}
use Rattle.bson_wire.proofs.Written.{depth_inside-Doc, depth_of-elements, doc_spells, outermost_spells}
use Rattle.bson_wire.proofs.PlainWritten.{int32_spells, str_spells}
use Rattle.msg_wire.specs.Flags.{refused_bit}
use Rattle.msg_wire.specs.Framing.{Framed, frame, message_of}
use Rattle.msg_wire.proofs.Framings.{Framed-frame, length-frame}
use Rattle.cmd_build.specs.Handshakes.{admin_fields, client, client_fields, driver, hello_document, system}
use Rattle.cmd_build.proofs.SizeLemmas.{fields_length, fields_length-++, fields_length-∷, length-Doc, length-Int32, length-Str, length-spelled}

-- ---- Texts and names

abbrev low : List ℕ → Bool
low text = list_all (λ b. nat_lt b 128) text

low-rest : (b : Bool) (c : Bool) → (b && c) ≡ true → (b ≡ true) × (c ≡ true)
low-rest true c h = (refl, h)
low-rest false c h = absurd (cc)

ascii : (text : List ℕ) → low text ≡ true → IsAscii text
ascii [] h i = omega arith
ascii (b ∷ bs) h zero = ltb-true b 128 (low-rest (nat_lt b 128) (low bs) h).0
ascii (b ∷ bs) h (suc i) = ascii bs (low-rest (nat_lt b 128) (low bs) h).1 i

utf8 : (text : List ℕ) → low text ≡ true → IsUtf8 text
utf8 text h = IsUtf8-from_ascii text (ascii text h)

name-is : (text : List ℕ) → HasNoZero text → low text ≡ true → IsName text
name-is text z u = record { no_zero = z; utf8 = utf8 text u }

text-spells : (name text : List ℕ) → HasNoZero name → low name ≡ true → low text ≡ true → length text ≤ 100 → ElementSpells (name, value.Str text)
text-spells name text z u v small = (name-is name z u, str_spells (value.Str text) text refl (utf8 text v) (omega (arith, length-string text)))

-- ---- Depths

by_layer : (v : Value) (w : Value-F Value Document) → out-Value v ≡ w → depth_inside v ≡ value_step (map-Value Value Document ℕ ℕ depth_inside depth_of w)
by_layer v w e = fold_out-Value ℕ ℕ value_step document_step v ∙ ap (λ u. value_step (map-Value Value Document ℕ ℕ depth_inside depth_of u)) e

depth-Str : (text : List ℕ) → depth_inside (value.Str text) ≡ 0
depth-Str text = by_layer _ _ (outs-Str text)

depth-Int32 : (n : ℤ) → depth_inside (value.Int32 n) ≡ 0
depth-Int32 n = by_layer _ _ (outs-Int32 n)

depth-driver : depth_of driver ≡ 1
depth-driver = rw (depth_of-elements driver, depth-Str (codes "mdc"), depth-Str (codes "1")) refl

depth-system : depth_of system ≡ 1
depth-system = rw (depth_of-elements system, depth-Str (codes "Linux")) refl

depth-client : depth_of client ≡ 2
depth-client = rw (depth_of-elements client, depth_inside-Doc (value.Doc driver) driver refl, depth_inside-Doc (value.Doc system) system refl, depth-driver, depth-system) refl

depth-hello : (first : Bool) → depth_of (hello_document first) ≤ 100
depth-hello true = rw (depth_of-elements (hello_document true), depth-Int32 (pos 1), depth_inside-Doc (value.Doc client) client refl, depth-client, depth-Str (codes "1"), depth-Str (codes "admin")) (omega arith)
depth-hello false = rw (depth_of-elements (hello_document false), depth-Int32 (pos 1), depth-Str (codes "1"), depth-Str (codes "admin")) (omega arith)

-- ---- Sizes

size-admin : fields_length admin_fields ≡ 33
size-admin = omega (
  arith,
  fields_length-∷ (codes "apiVersion") (value.Str (codes "1")) ((codes "$db", value.Str (codes "admin")) ∷ []),
  fields_length-∷ (codes "$db") (value.Str (codes "admin")) [],
  length-Str (codes "1"),
  length-Str (codes "admin"),
)

size-driver : length (spelled driver) ≡ 34
size-driver = omega (
  arith,
  length-spelled driver,
  fields_length-∷ (codes "name") (value.Str (codes "mdc")) ((codes "version", value.Str (codes "1")) ∷ []),
  fields_length-∷ (codes "version") (value.Str (codes "1")) [],
  length-Str (codes "mdc"),
  length-Str (codes "1"),
)

size-system : length (spelled system) ≡ 21
size-system = omega (arith, length-spelled system, fields_length-∷ (codes "type") (value.Str (codes "Linux")) [], length-Str (codes "Linux"))

size-client : length (spelled client) ≡ 72
size-client = omega (
  arith,
  length-spelled client,
  fields_length-∷ (codes "driver") (value.Doc driver) ((codes "os", value.Doc system) ∷ []),
  fields_length-∷ (codes "os") (value.Doc system) [],
  length-Doc driver,
  length-Doc system,
  size-driver,
  size-system,
)

size-fields : (first : Bool) → fields_length (client_fields first) ≤ 80
size-fields true = omega (arith, fields_length-∷ (codes "client") (value.Doc client) [], length-Doc client, size-client)
size-fields false = omega arith

size-hello : (first : Bool) → length (spelled (hello_document first)) ≤ 200
size-hello first = omega (
  arith,
  length-spelled (hello_document first),
  fields_length-∷ (codes "hello") (value.Int32 (pos 1)) (client_fields first ++ admin_fields),
  length-Int32 (pos 1),
  fields_length-++ (client_fields first) admin_fields,
  size-fields first,
  size-admin,
)

-- ---- What it spells

driver-spells : AllByRecursion ElementSpells driver.elements
driver-spells = (text-spells (codes "name") (codes "mdc") refl refl refl (omega arith), (text-spells (codes "version") (codes "1") refl refl refl (omega arith), tt))

system-spells : AllByRecursion ElementSpells system.elements
system-spells = (text-spells (codes "type") (codes "Linux") refl refl refl (omega arith), tt)

client-spells : AllByRecursion ElementSpells client.elements
client-spells = (
  (name-is (codes "driver") refl refl, doc_spells (value.Doc driver) driver refl driver-spells (omega (arith, size-driver))),
  ((name-is (codes "os") refl refl, doc_spells (value.Doc system) system refl system-spells (omega (arith, size-system))), tt),
)

admin-spells : AllByRecursion ElementSpells admin_fields
admin-spells = (text-spells (codes "apiVersion") (codes "1") refl refl refl (omega arith), (text-spells (codes "$db") (codes "admin") refl refl refl (omega arith), tt))

one-spells : ElementSpells (codes "hello", value.Int32 (pos 1))
one-spells = (name-is (codes "hello") refl refl, int32_spells (value.Int32 (pos 1)) (pos 1) refl (omega arith))

fields-spell : (first : Bool) → AllByRecursion ElementSpells (hello_document first).elements
fields-spell true = (one-spells, ((name-is (codes "client") refl refl, doc_spells (value.Doc client) client refl client-spells (omega (arith, size-client))), admin-spells))
fields-spell false = (one-spells, admin-spells)

hello-spells : (first : Bool) → Spells (spelled (hello_document first)) (hello_document first)
hello-spells first = outermost_spells (spelled (hello_document first)) (hello_document first) refl (fields-spell first) (omega (arith, size-hello first)) (depth-hello first)

id-fits : (place : ℕ) → FitsSigned w32 (pos (place % 2147483647 + 1))
id-fits place = omega arith

zero-fits : FitsSigned w32 (pos 0)
zero-fits = omega arith

none : refused_bit 0 ≡ None
unfolding refused_bit
none = refl

pub hello-framed : (first : Bool) (place : ℕ) → Framed (frame (pos (place % 2147483647 + 1)) (pos 0) 0 (hello_document first)) (message_of (pos (place % 2147483647 + 1)) (pos 0) 0 (hello_document first))
hello-framed first place =
    let id = pos (place % 2147483647 + 1) in
    Framed-frame id (pos 0) 0 (hello_document first) (id-fits place) zero-fits (omega arith) none refl (hello-spells first)
    (omega (arith, length-frame id (pos 0) 0 (hello_document first), size-hello first))
