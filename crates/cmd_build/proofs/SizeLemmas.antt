-- Sizes of commands by their parts.
use Rattle.std.proofs.Common.{◌≡◌, ℕ, suc, zero, ℤ, ◌==◌, ◌+◌, ◌-◌, ◌^◌, ◌<◌, ◌≤◌, min, pos, Bool, true, false, None, Some, Option, nat_lt, if◌then◌else◌, List, [], ◌∷◌, ◌++◌, length, map, drop, get_or, decimal, codes, refl, sym, ap, ◌∙◌, arith}
use Rattle.std.proofs.lemmas.Bool.{ltb-false}
use Rattle.std.proofs.lemmas.Fmt.{decimal_digit}
use Rattle.std.proofs.lemmas.List.{drop_more, length-append}
use Rattle.std.specs.Option.{option_copied, option_map, option_or}
use Rattle.bson_doc.specs.declared.cluster_time.ClusterTime.{ClusterTime}
use Rattle.bson_doc.specs.declared.ids.Lsid.{Lsid}
use Rattle.bson_doc.specs.declared.value.Document.{Document}
use Rattle.bson_doc.specs.declared.value.Value.{Value, Array, Doc}
use Rattle.bson_doc.specs.declared.value.Value.TheVariants as value
use Rattle.bson_wire.specs.Spelled.{element, numbered, payload, spelled, spelled_elements}
use Rattle.bson_wire.proofs.Lengths.{length-element, length-string}
use Rattle.bson_wire.proofs.Payloads.{payload-Array, payload-Binary, payload-Bool, payload-Doc, payload-Int32, payload-Int64, payload-Str}
use Rattle.bson_wire.proofs.Written.{length-document}
use Rattle.read_pref.specs.Modes.{name_of}
use Rattle.read_pref.specs.Preferences.{Preference}
use Rattle.read_pref.specs.declared.mode.Mode.{Mode}
use Rattle.read_pref.specs.declared.tag.Tag.{Tag}
use Rattle.cmd_build.specs.Commands.{Field, act_fields, command_document, concern_of, db_of, delete_statement, given, majority, modification, number_of, preference_document, preference_of, sent_mode, sent_tags, session, session_of, tag_document, tag_field, tag_sets_field, tag_value, time_of, update_statement}
use Rattle.cmd_build.specs.Ops.{writes}
use Rattle.cmd_build.specs.Sizes.{documents_of, excess, first_over, message_size, over}
use Rattle.cmd_build.specs.declared.command.Act.{Act}
use Rattle.cmd_build.specs.declared.command.Act.TheVariants as act
use Rattle.cmd_build.specs.declared.command.Command.{Command}
use Rattle.cmd_build.specs.declared.extras.Extras.{Extras}
use Rattle.cmd_build.specs.declared.extras.Sizes.{Sizes}

-- ---- payloads

abbrev pub payload_length : Value → ℕ
payload_length v = length (payload v).1

pub length-Str : (text : List ℕ) → payload_length (value.Str text) ≡ length text + 5
length-Str text = rw (payload-Str (value.Str text) text refl) (length-string text)

pub length-Doc : (d : Document) → payload_length (Doc d) ≡ length (spelled d)
length-Doc d = rw (payload-Doc (Doc d) d refl) refl

pub length-Bool : (b : Bool) → payload_length (value.Bool b) ≡ 1
length-Bool b = rw (payload-Bool (value.Bool b) b refl) refl

pub length-Int32 : (n : ℤ) → payload_length (value.Int32 n) ≡ 4
length-Int32 n = rw (payload-Int32 (value.Int32 n) n refl) refl

pub length-Int64 : (n : ℤ) → payload_length (value.Int64 n) ≡ 8
length-Int64 n = rw (payload-Int64 (value.Int64 n) n refl) refl

pub length-Binary : (subtype : ℕ) (held : List ℕ) → payload_length (value.Binary subtype held) ≡ length held + 5
length-Binary subtype held = rw (payload-Binary (value.Binary subtype held) subtype held refl) (omega arith)

pub length-Array : (items : List Value) → payload_length (Array items) ≡ length (numbered 0 (map payload items)) + 5
length-Array items = rw (payload-Array (Array items) items refl) (length-document (numbered 0 (map payload items)))

-- ---- fields

abbrev pub fields_length : List Field → ℕ
fields_length fields = length (spelled_elements fields)

pub fields_length-∷ : (name : List ℕ) (v : Value) (es : List Field) → fields_length ((name, v) ∷ es) ≡ length name + payload_length v + 2 + fields_length es
fields_length-∷ name v es = omega (arith, length-append (element name (payload v)) (spelled_elements es), length-element name (payload v))

pub fields_length-++ : (es fs : List Field) → fields_length (es ++ fs) ≡ fields_length es + fields_length fs
fields_length-++ [] fs = omega arith
fields_length-++ (e ∷ es) fs =
    omega (arith, length-append (element e.0 (payload e.1)) (spelled_elements (es ++ fs)), length-append (element e.0 (payload e.1)) (spelled_elements es), fields_length-++ es fs)

pub length-spelled : (d : Document) → length (spelled d) ≡ fields_length d.elements + 5
length-spelled d = length-document (spelled_elements d.elements)

-- The array of one document.
pub length-one : (d : Document) → payload_length (Array (Doc d ∷ [])) ≡ length (spelled d) + 8
length-one d =
    omega (arith, length-Array (Doc d ∷ []), length-append (element (decimal 0) (payload (Doc d))) [], length-element (decimal 0) (payload (Doc d)), length-Doc d, digit)
  where
    digit : length (decimal 0) ≡ 1
    digit = ap length (decimal_digit 0 (omega arith))

-- ---- statements

pub length-update_statement : (filter change : Document) (multi upsert : Bool) → length (spelled (update_statement filter change multi upsert)) ≡ length (spelled filter) + length (spelled change) + 28
length-update_statement filter change multi upsert = omega (
  arith,
  length-spelled (update_statement filter change multi upsert),
  fields_length-∷ (codes "q") (Doc filter) ((codes "u", Doc change) ∷ (codes "multi", value.Bool multi) ∷ (codes "upsert", value.Bool upsert) ∷ []),
  fields_length-∷ (codes "u") (Doc change) ((codes "multi", value.Bool multi) ∷ (codes "upsert", value.Bool upsert) ∷ []),
  fields_length-∷ (codes "multi") (value.Bool multi) ((codes "upsert", value.Bool upsert) ∷ []),
  fields_length-∷ (codes "upsert") (value.Bool upsert) [],
  length-Doc filter,
  length-Doc change,
  length-Bool multi,
  length-Bool upsert,
)

pub length-delete_statement : (filter : Document) (all : Bool) → length (spelled (delete_statement filter all)) ≡ length (spelled filter) + 19
length-delete_statement filter all = omega (
  arith,
  length-spelled (delete_statement filter all),
  fields_length-∷ (codes "q") (Doc filter) ((codes "limit", value.Int32 (if all then pos 0 else pos 1)) ∷ []),
  fields_length-∷ (codes "limit") (value.Int32 (if all then pos 0 else pos 1)) [],
  length-Doc filter,
  length-Int32 (if all then pos 0 else pos 1),
)

-- The fields of a write command with one statement.
pub length-batch : (name list coll : List ℕ) (one : Document)
    → fields_length ((name, value.Str coll) ∷ (list, Array (Doc one ∷ [])) ∷ (codes "ordered", value.Bool true) ∷ []) ≡ length name + length coll + length list + length (spelled one) + 27
length-batch name list coll one = omega (
  arith,
  fields_length-∷ name (value.Str coll) ((list, Array (Doc one ∷ [])) ∷ (codes "ordered", value.Bool true) ∷ []),
  fields_length-∷ list (Array (Doc one ∷ [])) ((codes "ordered", value.Bool true) ∷ []),
  fields_length-∷ (codes "ordered") (value.Bool true) [],
  length-Str coll,
  length-one one,
  length-Bool true,
)

-- ---- tags

-- The first of some items that are looked at one by one.
drop_one : {X : Type 0} (xs : List X) (i : ℕ) (x : X) → i < length xs → x ≡ get_or xs i x → drop i xs ≡ x ∷ drop (i + 1) xs
drop_one {X = X} xs i x lt is = drop_more xs i x lt ∙ ap (λ (y : X). y ∷ drop (i + 1) xs) (sym is)

pub length-tags_left : (tags : List Tag) (i : ℕ) (t : Tag) → i < length tags → t ≡ get_or tags i t
    → fields_length (map tag_field (drop i tags)) ≡ (length t.name + length t.value + 7) + fields_length (map tag_field (drop (i + 1) tags))
length-tags_left tags i t lt is =
    omega (arith, ap (λ (ts : List Tag). fields_length (map tag_field ts)) (drop_one tags i t lt is), fields_length-∷ t.name (value.Str t.value) (map tag_field (drop (i + 1) tags)), length-Str t.value)

numbered_one : (i : ℕ) (v : Value) (vs : List Value) → length (numbered i (map payload (v ∷ vs))) ≡ (length (decimal i) + payload_length v + 2) + length (numbered (i + 1) (map payload vs))
numbered_one i v vs =
    let next : suc i ≡ i + 1 = omega arith in
    omega (
      arith,
      ap (λ (k : ℕ). length (numbered k (map payload vs))) next,
      length-append (element (decimal i) (payload v)) (numbered (suc i) (map payload vs)),
      length-element (decimal i) (payload v),
    )

pub length-tag_value : (tags : List Tag) → payload_length (tag_value tags) ≡ fields_length (map tag_field tags) + 5
length-tag_value tags = length-Doc (tag_document tags) ∙ length-spelled (tag_document tags)

pub length-sets_left : (sets : List (List Tag)) (i : ℕ) (tags : List Tag) → i < length sets → tags ≡ get_or sets i tags
    → length (numbered i (map payload (map tag_value (drop i sets)))) ≡ (length (decimal i) + fields_length (map tag_field tags) + 7) + length (numbered (i + 1) (map payload (map tag_value (drop (i + 1) sets))))
length-sets_left sets i tags lt is =
    ap (λ (ts : List (List Tag)). length (numbered i (map payload (map tag_value ts)))) (drop_one sets i tags lt is)
    ∙ numbered_one i (tag_value tags) (map tag_value (drop (i + 1) sets)) ∙ omega (arith, length-tag_value tags)

pub not_zero : (n : ℕ) → false ≡ (n == 0) → 0 < n
not_zero zero e = absurd (let never : ⊥ = cc in never)
not_zero (suc n) e = omega arith

pub length-tag_sets_field : (sets : List (List Tag)) → 0 < length sets → fields_length (tag_sets_field sets) ≡ length (numbered 0 (map payload (map tag_value sets))) + 11
length-tag_sets_field [] some = absurd (let never : ⊥ = omega (arith, some) in never)
length-tag_sets_field (set ∷ sets) some =
    omega (arith, fields_length-∷ (codes "tags") (Array (map tag_value (set ∷ sets))) [], length-Array (map tag_value (set ∷ sets)))

-- ---- what stands behind an act

pub length-majority : length (spelled majority) ≡ 21
length-majority = omega (arith, length-spelled majority, fields_length-∷ (codes "w") (value.Str (codes "majority")) [], length-Str (codes "majority"))

concern_there : (b : Bool) → true ≡ b → fields_length (given (codes "writeConcern") (if b then Some (Doc majority) else None)) ≡ 35
concern_there true e = omega (arith, fields_length-∷ (codes "writeConcern") (Doc majority) [], length-Doc majority, length-majority)
concern_there false e = absurd (let never : ⊥ = cc in never)

pub length-concern : (a : Act) → true ≡ writes a → fields_length (given (codes "writeConcern") (concern_of a)) ≡ 35
length-concern a e = concern_there (writes a) e

preference_there : (sets : List (List Tag)) (mode : Mode)
    → fields_length (given (codes "$readPreference") (Some (Doc (preference_document sets mode)))) ≡ length (name_of mode) + fields_length (tag_sets_field sets) + 33
preference_there sets mode = omega (
  arith,
  fields_length-∷ (codes "$readPreference") (Doc (preference_document sets mode)) [],
  length-Doc (preference_document sets mode),
  length-spelled (preference_document sets mode),
  fields_length-∷ (codes "mode") (value.Str (name_of mode)) (tag_sets_field sets),
  length-Str (name_of mode),
)

pub length-preference : (a : Act) (extras : Extras) (mode : Mode) → sent_mode a extras.mode ≡ Some mode
    → fields_length (given (codes "$readPreference") (preference_of a extras)) ≡ length (name_of mode) + fields_length (tag_sets_field (sent_tags a (option_copied extras.read))) + 33
length-preference a extras mode e =
    let sets = sent_tags a (option_copied extras.read) in
    ap (λ (m : Option Mode). fields_length (given (codes "$readPreference") (option_map (λ mode. Doc (preference_document sets mode)) m))) e ∙ preference_there sets mode

pub length-no_preference : (a : Act) (extras : Extras) → sent_mode a extras.mode ≡ None → fields_length (given (codes "$readPreference") (preference_of a extras)) ≡ 0
length-no_preference a extras e =
    let sets = sent_tags a (option_copied extras.read) in
    ap (λ (m : Option Mode). fields_length (given (codes "$readPreference") (option_map (λ mode. Doc (preference_document sets mode)) m))) e

pub length-session : (id : Lsid) → fields_length (given (codes "lsid") (session_of (Some id))) ≡ length id.0 + 20
length-session id = omega (
  arith,
  fields_length-∷ (codes "lsid") (Doc (session id)) [],
  length-Doc (session id),
  length-spelled (session id),
  fields_length-∷ (codes "id") (value.Binary 4 id.0) [],
  length-Binary 4 id.0,
)

pub length-number : (n : ℤ) → fields_length (given (codes "txnNumber") (number_of (Some n))) ≡ 19
length-number n = omega (arith, fields_length-∷ (codes "txnNumber") (value.Int64 n) [], length-Int64 n)

pub length-time : (t : ClusterTime) → fields_length (given (codes "$clusterTime") (time_of (Some t))) ≡ length (spelled t.body) + 14
length-time t = omega (arith, fields_length-∷ (codes "$clusterTime") (Doc t.body) [], length-Doc t.body)

pub length-modification : (change : Document) → fields_length (modification (Some change) ∷ []) ≡ length (spelled change) + 8
length-modification change = omega (arith, fields_length-∷ (codes "update") (Doc change) [], length-Doc change)

pub length-removal : fields_length (modification None ∷ []) ≡ 9
length-removal = omega (arith, fields_length-∷ (codes "remove") (value.Bool true) [], length-Bool true)

-- ---- the acts

pub length-Insert : (coll : List ℕ) (doc : Document) → fields_length (act_fields coll (act.Insert doc)) ≡ length coll + length (spelled doc) + 42
length-Insert coll doc = omega (arith, length-batch (codes "insert") (codes "documents") coll doc)

pub length-Update : (coll : List ℕ) (filter change : Document) (multi upsert : Bool)
    → fields_length (act_fields coll (act.Update filter change multi upsert)) ≡ length coll + length (spelled filter) + length (spelled change) + 68
length-Update coll filter change multi upsert =
    omega (arith, length-batch (codes "update") (codes "updates") coll (update_statement filter change multi upsert), length-update_statement filter change multi upsert)

pub length-Delete : (coll : List ℕ) (filter : Document) (all : Bool) → fields_length (act_fields coll (act.Delete filter all)) ≡ length coll + length (spelled filter) + 59
length-Delete coll filter all =
    omega (arith, length-batch (codes "delete") (codes "deletes") coll (delete_statement filter all), length-delete_statement filter all)

pub length-FindAndModify : (coll : List ℕ) (filter : Document) (change : Option Document)
    → fields_length (act_fields coll (act.FindAndModify filter change)) ≡ length coll + length (spelled filter) + fields_length (modification change ∷ []) + 27
length-FindAndModify coll filter change = omega (
  arith,
  fields_length-∷ (codes "findAndModify") (value.Str coll) ((codes "query", Doc filter) ∷ modification change ∷ []),
  fields_length-∷ (codes "query") (Doc filter) (modification change ∷ []),
  length-Str coll,
  length-Doc filter,
)

pub length-Find : (coll : List ℕ) (filter : Document) (read : Option Preference) → fields_length (act_fields coll (act.Find filter read)) ≡ length coll + length (spelled filter) + 44
length-Find coll filter read = omega (
  arith,
  fields_length-∷ (codes "find") (value.Str coll) ((codes "filter", Doc filter) ∷ (codes "limit", value.Int32 (pos 1)) ∷ (codes "singleBatch", value.Bool true) ∷ []),
  fields_length-∷ (codes "filter") (Doc filter) ((codes "limit", value.Int32 (pos 1)) ∷ (codes "singleBatch", value.Bool true) ∷ []),
  fields_length-∷ (codes "limit") (value.Int32 (pos 1)) ((codes "singleBatch", value.Bool true) ∷ []),
  fields_length-∷ (codes "singleBatch") (value.Bool true) [],
  length-Str coll,
  length-Doc filter,
  length-Int32 (pos 1),
  length-Bool true,
)

-- ---- the whole

pub length-parts : (a b c d e f : List Field) → fields_length (a ++ b ++ c ++ d ++ e ++ f) ≡ fields_length a + fields_length b + fields_length c + fields_length d + fields_length e + fields_length f
length-parts a b c d e f =
    omega (arith, fields_length-++ (a ++ b ++ c ++ d ++ e) f, fields_length-++ (a ++ b ++ c ++ d) e, fields_length-++ (a ++ b ++ c) d, fields_length-++ (a ++ b) c, fields_length-++ a b)

pub length-middle : (db : List ℕ) (es : List Field) → fields_length ((codes "apiVersion", value.Str (codes "1")) ∷ (codes "$db", value.Str db) ∷ es) ≡ length db + 28 + fields_length es
length-middle db es = omega (
  arith,
  fields_length-∷ (codes "apiVersion") (value.Str (codes "1")) ((codes "$db", value.Str db) ∷ es),
  fields_length-∷ (codes "$db") (value.Str db) es,
  length-Str (codes "1"),
  length-Str db,
)

pub length-command_document : (c : Command) (db : List ℕ) (extras : Extras) (time : Option ClusterTime)
    → length (spelled (command_document c db extras time)) ≡ fields_length (act_fields c.coll c.act) + fields_length (given (codes "writeConcern") (concern_of c.act))
    + (length (db_of c.db db) + 28 + fields_length (given (codes "$readPreference") (preference_of c.act extras)))
    + fields_length (given (codes "lsid") (session_of extras.lsid)) + fields_length (given (codes "txnNumber") (number_of extras.number)) + fields_length (given (codes "$clusterTime") (time_of time)) + 5
length-command_document c db extras time =
    let preference = given (codes "$readPreference") (preference_of c.act extras) in
    let parts = length-parts (act_fields c.coll c.act) (given (codes "writeConcern") (concern_of c.act))
    ((codes "apiVersion", value.Str (codes "1")) ∷ (codes "$db", value.Str (db_of c.db db)) ∷ preference)
    (given (codes "lsid") (session_of extras.lsid)) (given (codes "txnNumber") (number_of extras.number)) (given (codes "$clusterTime") (time_of time)) in
    let whole = length-spelled (command_document c db extras time) ∙ ap (λ n. n + 5) parts in
    omega (arith, whole, length-middle (db_of c.db db) preference)

-- A message whose document has so many bytes.
pub told_with_header : (told size parts : ℕ) → size ≡ parts → told ≡ min (parts + 21) (2 ^ 64 - 1) → told ≡ min (size + 21) (2 ^ 64 - 1)
told_with_header told size parts same e = omega (arith, same, e)

-- ---- what is too large

-- Where neither of two is there, the second is not.
option_or-None : {A : Type 0} (a b : Option A) → option_or a b ≡ None → b ≡ None
option_or-None None b e = e
option_or-None (Some x) b e = absurd (let never : ⊥ = cc in never)

chosen-None : {A : Type 0} (t : Bool) (x : A) → (if t then Some x else None) ≡ None → t ≡ false
chosen-None true x e = absurd (let never : ⊥ = cc in never)
chosen-None false x e = refl

-- Where nothing is too large, the message is not.
pub fits_message : (c : Command) (db : List ℕ) (extras : Extras) (time : Option ClusterTime) (sizes : Sizes) → sizes.max_message < 2 ^ 32
    → excess c db extras time sizes ≡ None → length (spelled (command_document c db extras time)) + 21 ≤ sizes.max_message
fits_message c db extras time sizes small e =
    let last = option_or-None (first_over sizes.max_doc (documents_of c.act)) (over sizes.max_message (message_size (command_document c db extras time))) e in
    let test = chosen-None (nat_lt sizes.max_message (message_size (command_document c db extras time))) _ last in
    omega (arith, small, ltb-false sizes.max_message (message_size (command_document c db extras time)) test)
