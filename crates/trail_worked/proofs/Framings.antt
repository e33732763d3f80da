-- The bytes of the worked inserts, and of the farewell, frame their messages.
use Rattle.std.proofs.Common.{◌≡◌, ◌<◌, ◌≤◌, ℕ, ◌^◌, pos, Bool, true, ◌&&◌, ltb, List, [], ◌∷◌, ◌++◌, length, codes, None, Some, refl, sym, ap, ◌∙◌, subst, arith}
use Rattle.std.specs.List.{AllByRecursion}
use Rattle.std.specs.Str.{IsAscii}
use Rattle.std.proofs.lemmas.Bool.{and_parts, ltb-true}
use Rattle.std.proofs.lemmas.Fmt.{decimal_digit}
use Rattle.std.proofs.lemmas.List.Elements.{All-cons, All-nil}
use Rattle.std.proofs.lemmas.Str.{IsUtf8-from_ascii}
use Rattle.std.proofs.lemmas.Str.Ascii.{IsAscii-cons, IsAscii-nil}
use Rattle.bson_doc.specs.Documents.{depth_inside, depth_of, document_step, value_step}
use Rattle.bson_doc.specs.Names.{HasNoZero}
use Rattle.bson_doc.specs.declared.kind.Kind.TheVariants as kinds
use Rattle.bson_doc.specs.declared.kind.PlainKind.TheVariants as plain
use Rattle.bson_doc.specs.declared.value.Document.{Document}
use Rattle.bson_doc.specs.declared.value.Value.{Value, Array, Doc, map-Value, fold_out-Value}
use Rattle.bson_doc.specs.declared.value.Value.TheVariants as value
use Rattle.bson_doc.specs.declared.value.Value.TheVariants.{outs-Binary, outs-Str}
use Rattle.bson_doc.specs.wire.Spelling.{IsName}
use Rattle.bson_doc.proofs.Depths.{depth_of-elements, depth_inside-Array}
use Rattle.bson_wire.specs.Spelled.{binary, document, element, numbered, payload, spelled, spelled_items, string}
use Rattle.bson_wire.specs.Written.{ElementSpells, PayloadSpells}
use Rattle.bson_wire.proofs.Payloads.{payload-Array, payload-Binary, payload-Doc, payload-Str}
use Rattle.bson_wire.proofs.PlainWritten.{binary_spells, bool_spells, int64_spells, str_spells}
use Rattle.bson_wire.proofs.Written.{array_spells, depth_inside-Doc, doc_spells, outermost_spells}
use Rattle.msg_wire.specs.Flags.{refused_bit}
use Rattle.msg_wire.specs.Framing.{Framed, frame, message_of}
use Rattle.msg_wire.proofs.Framings.{Framed-frame, length-frame}
use Rattle.cmd_build.specs.Commands.{Field, command_document, majority, no_extras, session}
use Rattle.cmd_build.specs.Handshakes.{ended_session, farewell_document}
use Rattle.cmd_build.specs.declared.extras.Extras.{Extras}
use Rattle.cmd_build.proofs.DepthLemmas.{depth_of-command_document}
use Rattle.trail_worked.specs.LeasedAgain.{session_id}
use Rattle.trail_worked.specs.Words.{an_insert}
use Rattle.trail_worked.proofs.Bytes.{spelled-plain, spelled-numbered}

-- ---- Fields, and documents inside others

abbrev AreSpelled : List Field → Type 0
AreSpelled fields = AllByRecursion ElementSpells fields

abbrev are_ascii : List ℕ → Bool
are_ascii [] = true
are_ascii (b ∷ bs) = ltb b 128 && are_ascii bs

IsAscii-from_test : (t : List ℕ) → are_ascii t ≡ true → IsAscii t
IsAscii-from_test [] e = IsAscii-nil
IsAscii-from_test (b ∷ bs) e =
    let parts = and_parts (ltb b 128) (are_ascii bs) e in
    IsAscii-cons b bs (ltb-true b 128 parts.0) (IsAscii-from_test bs parts.1)

name : (t : List ℕ) → HasNoZero t → are_ascii t ≡ true → IsName t
name t no_zero ascii = record { no_zero = no_zero; utf8 = IsUtf8-from_ascii t (IsAscii-from_test t ascii) }

text : (t : List ℕ) → are_ascii t ≡ true → length (string t) ≤ 48000000 → PayloadSpells (value.Str t)
text t ascii small = str_spells (value.Str t) t refl (IsUtf8-from_ascii t (IsAscii-from_test t ascii)) small

inner : (d : Document) (bytes : List ℕ) → AreSpelled d.elements → spelled d ≡ bytes → length bytes ≤ 48000000 → PayloadSpells (Doc d)
inner d bytes known e small = doc_spells (Doc d) d refl known (subst (λ b. length b ≤ 48000000) (sym e) small)

-- an array of one document
abbrev items : List ℕ → List ℕ
items bytes = document (element (codes "0") (kinds.Doc, bytes) ++ [])

spelled-one : (d : Document) (bytes : List ℕ) → spelled d ≡ bytes → spelled_items (Doc d ∷ []) ≡ items bytes
spelled-one d bytes e =
    ap (λ p. document (numbered 0 (p ∷ []))) (payload-Doc (Doc d) d refl)
    ∙ ap (λ n. document (element n (kinds.Doc, spelled d) ++ [])) (decimal_digit 0 (omega arith))
    ∙ ap items e

array : (d : Document) (bytes : List ℕ) → AreSpelled d.elements → spelled d ≡ bytes → length bytes ≤ 48000000 → length (items bytes) ≤ 48000000 → PayloadSpells (Array (Doc d ∷ []))
array d bytes known e small all =
    array_spells (Array (Doc d ∷ [])) (Doc d ∷ []) refl (inner d bytes known e small, tt)
    (subst (λ b. length b ≤ 48000000) (sym (spelled-one d bytes e)) all)

-- ---- The documents of the inserts and of the farewell

abbrev of_majority : List ℕ
of_majority = document (element (codes "w") (kinds.Plain plain.Str, string (codes "majority")) ++ [])

spelled-majority : spelled majority ≡ of_majority
spelled-majority = ap (λ p. document (element (codes "w") p ++ [])) (payload-Str (value.Str (codes "majority")) (codes "majority") refl)

abbrev of_session : List ℕ
of_session = document (element (codes "id") (kinds.Plain plain.Binary, binary 4 session_id.0) ++ [])

spelled-session : spelled (session session_id) ≡ of_session
spelled-session = ap (λ p. document (element (codes "id") p ++ [])) (payload-Binary (value.Binary 4 session_id.0) 4 session_id.0 refl)

majority_spells : AreSpelled majority.elements
majority_spells = ((name (codes "w") refl refl, text (codes "majority") refl (omega arith)), tt)

session_spells : AreSpelled (session session_id).elements
session_spells = ((name (codes "id") refl refl, binary_spells (value.Binary 4 session_id.0) 4 session_id.0 refl (omega arith)), tt)

-- the fields of the insert, and those behind them
insert_spells : (rest : List Field) → AreSpelled rest →
    AreSpelled (
    (codes "insert", value.Str (codes "things")) ∷ (codes "documents", Array (Doc (record { elements = [] }) ∷ [])) ∷ (codes "ordered", value.Bool true)
    ∷ (codes "writeConcern", Doc majority) ∷ (codes "apiVersion", value.Str (codes "1")) ∷ (codes "$db", value.Str (codes "test")) ∷ rest
    )
insert_spells rest known = (
  (name (codes "insert") refl refl, text (codes "things") refl (omega arith)),
  (
    (name (codes "documents") refl refl, array (record { elements = [] }) (document []) tt refl (omega arith) (omega arith)),
    (
      (name (codes "ordered") refl refl, bool_spells (value.Bool true) true refl),
      (
        (name (codes "writeConcern") refl refl, inner majority of_majority majority_spells spelled-majority (omega arith)),
        (
          (name (codes "apiVersion") refl refl, text (codes "1") refl (omega arith)),
          ((name (codes "$db") refl refl, text (codes "test") refl (omega arith)), known),
        ),
      ),
    ),
  ),
)

abbrev session_fields : ℕ → List Field
session_fields number = (codes "lsid", Doc (session session_id)) ∷ (codes "txnNumber", value.Int64 (pos number)) ∷ []

numbered_spells : (number : ℕ) → number < 2 ^ 63 → AreSpelled (session_fields number)
numbered_spells number fits = (
  (name (codes "lsid") refl refl, inner (session session_id) of_session session_spells spelled-session (omega arith)),
  ((name (codes "txnNumber") refl refl, int64_spells (value.Int64 (pos number)) (pos number) refl (record { sfits = fits })), tt),
)

farewell_spells : AreSpelled (farewell_document (session_id ∷ [])).elements
farewell_spells = (
  (name (codes "endSessions") refl refl, array (session session_id) of_session session_spells spelled-session (omega arith) (omega arith)),
  (
    (name (codes "apiVersion") refl refl, text (codes "1") refl (omega arith)),
    ((name (codes "$db") refl refl, text (codes "admin") refl (omega arith)), tt),
  ),
)

-- ---- How deep they are

insert_depth : (extras : Extras) → depth_of (command_document an_insert (codes "test") extras None) ≤ 100
insert_depth extras =
    let shallow = All-cons (λ (d : Document). depth_of d ≤ 1) (record { elements = [] }) [] (omega (arith, depth_of-elements (record { elements = [] }))) (All-nil (λ (d : Document). depth_of d ≤ 1)) in
    omega (arith, depth_of-command_document 1 an_insert (codes "test") extras None shallow)

depth_inside-Str : (t : List ℕ) → depth_inside (value.Str t) ≡ 0
depth_inside-Str t = fold_out-Value ℕ ℕ value_step document_step (value.Str t) ∙ ap (λ w. value_step (map-Value Value Document ℕ ℕ depth_inside depth_of w)) (outs-Str t)

depth_inside-Binary : (subtype : ℕ) (held : List ℕ) → depth_inside (value.Binary subtype held) ≡ 0
depth_inside-Binary subtype held =
    fold_out-Value ℕ ℕ value_step document_step (value.Binary subtype held) ∙ ap (λ w. value_step (map-Value Value Document ℕ ℕ depth_inside depth_of w)) (outs-Binary subtype held)

farewell_depth : depth_of (farewell_document (session_id ∷ [])) ≤ 100
farewell_depth = omega (
  arith,
  depth_of-elements (farewell_document (session_id ∷ [])),
  depth_inside-Array (ended_session session_id ∷ []),
  depth_inside-Doc (ended_session session_id) (session session_id) refl,
  depth_of-elements (session session_id),
  depth_inside-Binary 4 session_id.0,
  depth_inside-Str (codes "1"),
  depth_inside-Str (codes "admin"),
)

-- ---- The messages

no_flag_refused : refused_bit 0 ≡ None
unfolding refused_bit
no_flag_refused = refl

framed_by : (id : ℕ) (d : Document) (bytes : List ℕ) → id < 2 ^ 31 → AreSpelled d.elements → spelled d ≡ bytes → length bytes ≤ 1000 → depth_of d ≤ 100 →
    Framed (frame (pos id) (pos 0) 0 d) (message_of (pos id) (pos 0) 0 d)
framed_by id d bytes fits known e small deep =
    let size : length (spelled d) ≤ 1000 = subst (λ b. length b ≤ 1000) (sym e) small in
    Framed-frame (pos id) (pos 0) 0 d (record { sfits = fits }) (record { sfits = omega arith }) (omega arith) no_flag_refused refl (outermost_spells (spelled d) d refl known (omega (arith, size)) deep) (omega (arith, size, length-frame (pos id) (pos 0) 0 d))

-- the insert without a session
pub framed_plain : (id : ℕ) → id < 2 ^ 31 →
    Framed (frame (pos id) (pos 0) 0 (command_document an_insert (codes "test") no_extras None)) (message_of (pos id) (pos 0) 0 (command_document an_insert (codes "test") no_extras None))
framed_plain id fits =
    framed_by id (command_document an_insert (codes "test") no_extras None) _ fits (insert_spells [] tt) (spelled-plain None None) (omega arith) (insert_depth no_extras)

abbrev numbered_extras : ℕ → Extras
numbered_extras number = record { lsid = Some session_id; number = Some (pos number); mode = None; read = None }

-- the insert of the session with a number
pub framed_numbered : (id number : ℕ) → id < 2 ^ 31 → number < 2 ^ 63 →
    Framed (frame (pos id) (pos 0) 0 (command_document an_insert (codes "test") (numbered_extras number) None)) (message_of (pos id) (pos 0) 0 (command_document an_insert (codes "test") (numbered_extras number) None))
framed_numbered id number fits fits_number =
    framed_by id (command_document an_insert (codes "test") (numbered_extras number) None) _ fits (insert_spells (session_fields number) (numbered_spells number fits_number)) (spelled-numbered None None session_id (pos number)) (omega arith) (insert_depth (numbered_extras number))

-- the farewell of the session
spelled-farewell : spelled (farewell_document (session_id ∷ []))
    ≡ document (element (codes "endSessions") (kinds.Array, items of_session) ++ (element (codes "apiVersion") (kinds.Plain plain.Str, string (codes "1")) ++ (element (codes "$db") (kinds.Plain plain.Str, string (codes "admin")) ++ [])))
spelled-farewell =
    let all : payload (Array (ended_session session_id ∷ [])) ≡ (kinds.Array, items of_session) =
    payload-Array (Array (ended_session session_id ∷ [])) (ended_session session_id ∷ []) refl ∙ ap (λ (b : List ℕ). (kinds.Array, b)) (spelled-one (session session_id) of_session spelled-session) in
    λ i. document (element (codes "endSessions") (all i) ++ (element (codes "apiVersion") (payload-Str (value.Str (codes "1")) (codes "1") refl i) ++ (element (codes "$db") (payload-Str (value.Str (codes "admin")) (codes "admin") refl i) ++ [])))

pub framed_farewell : (id : ℕ) → id < 2 ^ 31 → Framed (frame (pos id) (pos 0) 0 (farewell_document (session_id ∷ []))) (message_of (pos id) (pos 0) 0 (farewell_document (session_id ∷ [])))
framed_farewell id fits = framed_by id (farewell_document (session_id ∷ [])) _ fits farewell_spells spelled-farewell (omega arith) farewell_depth
