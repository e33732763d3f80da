-- The bytes of the worked trails' inserts, and that they are not too large.
use Rattle.std.proofs.Common.{◌≡◌, ℕ, ℤ, ◌+◌, pos, true, List, [], ◌∷◌, ◌++◌, length, codes, Option, None, Some, refl, sym, ap, ◌∙◌, arith, eqb, get_or}
use Rattle.std.proofs.lemmas.Fmt.{decimal_digit}
use denote.Ref.{Bor}
use Rattle.std.specs.Option.{option_or}
use Rattle.bson_doc.specs.declared.ids.Lsid.{Lsid}
use Rattle.bson_doc.specs.declared.kind.Kind.TheVariants as kinds
use Rattle.bson_doc.specs.declared.kind.PlainKind.TheVariants as plain
use Rattle.bson_doc.specs.declared.value.Value.{Array, Doc}
use Rattle.bson_doc.specs.declared.value.Value.TheVariants as value
use Rattle.bson_wire.specs.Spelled.{Payload, binary, document, element, int64, numbered, payload, spelled, string}
use Rattle.bson_wire.proofs.Payloads.{payload-Array, payload-Binary, payload-Bool, payload-Doc, payload-Int64, payload-Str}
use Rattle.cmd_build.specs.Commands.{command_document, majority, session}
use Rattle.cmd_build.specs.Sizes.{Excess, excess, first_over, over, told}
use Rattle.read_pref.specs.Preferences.{Preference}
use Rattle.read_pref.specs.declared.mode.Mode.{Mode}
use Rattle.msg_wire.specs.Framing.{frame, framing, header}
use Rattle.trail_worked.specs.LeasedAgain.{session_id}
use Rattle.trail_worked.specs.OneInsert.{insert_bytes, insert_message}
use Rattle.trail_worked.specs.Words.{an_insert}
use Rattle.trail_worked.proofs.Where.{clash}

str : (t : List ℕ) → payload (value.Str t) ≡ (kinds.Plain plain.Str, string t)
str t = payload-Str (value.Str t) t refl

-- one item of an array, under that name
abbrev items : List ℕ → Payload
items name = (kinds.Array, document (element name (kinds.Doc, document []) ++ []))

docs : payload (Array (Doc (record { elements = [] }) ∷ [])) ≡ items (codes "0")
docs =
    payload-Array (Array (Doc (record { elements = [] }) ∷ [])) (Doc (record { elements = [] }) ∷ []) refl
    ∙ ap (λ p. (kinds.Array, document (numbered 0 (p ∷ [])))) (payload-Doc (Doc (record { elements = [] })) (record { elements = [] }) refl)
    ∙ ap items (decimal_digit 0 (omega arith))

concern : payload (Doc majority) ≡ (kinds.Doc, document (element (codes "w") (kinds.Plain plain.Str, string (codes "majority")) ++ []))
concern =
    payload-Doc (Doc majority) majority refl
    ∙ ap (λ p. (kinds.Doc, document (element (codes "w") p ++ []))) (str (codes "majority"))

of_session : (id : Lsid) → payload (Doc (session id)) ≡ (kinds.Doc, document (element (codes "id") (kinds.Plain plain.Binary, binary 4 id.0) ++ []))
of_session id =
    payload-Doc (Doc (session id)) (session id) refl
    ∙ ap (λ p. (kinds.Doc, document (element (codes "id") p ++ []))) (payload-Binary (value.Binary 4 id.0) 4 id.0 refl)

abbrev fields : (p q r s t u : Payload) → List ℕ → List ℕ
fields p q r s t u rest =
    document (element (codes "insert") p ++ (element (codes "documents") q ++ (element (codes "ordered") r
    ++ (element (codes "writeConcern") s ++ (element (codes "apiVersion") t ++ (element (codes "$db") u ++ rest))))))

abbrev with_fields : List ℕ → List ℕ
with_fields rest =
    fields (kinds.Plain plain.Str, string (codes "things")) (items (codes "0"))
    (kinds.Plain plain.Bool, 1 ∷ []) (kinds.Doc, document (element (codes "w") (kinds.Plain plain.Str, string (codes "majority")) ++ []))
    (kinds.Plain plain.Str, string (codes "1")) (kinds.Plain plain.Str, string (codes "test")) rest

front : (rest : List ℕ) →
    fields (payload (value.Str (codes "things"))) (payload (Array (Doc (record { elements = [] }) ∷ []))) (payload (value.Bool true))
    (payload (Doc majority)) (payload (value.Str (codes "1"))) (payload (value.Str (codes "test"))) rest
    ≡ with_fields rest
front rest = λ i. fields (str (codes "things") i) (docs i) (payload-Bool (value.Bool true) true refl i) (concern i) (str (codes "1") i) (str (codes "test") i) rest

module _ (mode : Option Mode) (read : Option (Bor Preference)) where
  pub spelled-plain : spelled (command_document an_insert (codes "test") (record { lsid = None; number = None; mode = mode; read = read }) None) ≡ with_fields []
  spelled-plain = front []

  spelled-leased : (id : Lsid) →
      spelled (command_document an_insert (codes "test") (record { lsid = Some id; number = None; mode = mode; read = read }) None)
      ≡ with_fields (element (codes "lsid") (kinds.Doc, document (element (codes "id") (kinds.Plain plain.Binary, binary 4 id.0) ++ [])) ++ [])
  spelled-leased id = front _ ∙ (λ i. with_fields (element (codes "lsid") (of_session id i) ++ []))

  pub spelled-numbered : (id : Lsid) (number : ℤ) →
      spelled (command_document an_insert (codes "test") (record { lsid = Some id; number = Some number; mode = mode; read = read }) None)
      ≡ with_fields (element (codes "lsid") (kinds.Doc, document (element (codes "id") (kinds.Plain plain.Binary, binary 4 id.0) ++ []))
      ++ (element (codes "txnNumber") (kinds.Plain plain.Int64, int64 number) ++ []))
  spelled-numbered id number = front _ ∙ (λ i.
      with_fields (element (codes "lsid") (of_session id i) ++ (element (codes "txnNumber") (payload-Int64 (value.Int64 number) number refl i) ++ [])))

  abbrev pub not_over : List ℕ → Option Excess
  not_over bytes = option_or (first_over 16777216 (record { elements = [] } ∷ [])) (over 48000000 (told (length bytes + 21)))

  pub fits_plain : excess an_insert (codes "test") (record { lsid = None; number = None; mode = mode; read = read }) None (record { max_doc = 16777216; max_message = 48000000 }) ≡ None
  fits_plain = ap not_over spelled-plain

  pub fits_leased : (id : Lsid) → not_over (with_fields (element (codes "lsid") (kinds.Doc, document (element (codes "id") (kinds.Plain plain.Binary, binary 4 id.0) ++ [])) ++ [])) ≡ None →
      excess an_insert (codes "test") (record { lsid = Some id; number = None; mode = mode; read = read }) None (record { max_doc = 16777216; max_message = 48000000 }) ≡ None
  fits_leased id e = ap not_over (spelled-leased id) ∙ e

  pub fits_numbered : (id : Lsid) (number : ℤ) →
      not_over (with_fields (element (codes "lsid") (kinds.Doc, document (element (codes "id") (kinds.Plain plain.Binary, binary 4 id.0) ++ []))
      ++ (element (codes "txnNumber") (kinds.Plain plain.Int64, int64 number) ++ []))) ≡ None →
      excess an_insert (codes "test") (record { lsid = Some id; number = Some number; mode = mode; read = read }) None (record { max_doc = 16777216; max_message = 48000000 }) ≡ None
  fits_numbered id number e = ap not_over (spelled-numbered id number) ∙ e

-- the insert of the first worked trail, written out
pub insert-literal : insert_bytes (pos 3) ≡ insert_message
unfolding frame framing header
insert-literal = ap (λ bytes. framing (pos 3) (pos 0) 0 bytes) (spelled-plain None None)

-- the lowest byte of the number of an insert with a session
abbrev pub lowest_of_number : List ℕ → ℕ
lowest_of_number bytes = get_or bytes 192 0

numbered-literal : (id number : ℤ) (mode : Option Mode) (read : Option (Bor Preference)) →
    frame id (pos 0) 0 (command_document an_insert (codes "test") (record { lsid = Some session_id; number = Some number; mode = mode; read = read }) None)
    ≡ framing id (pos 0) 0 (with_fields (element (codes "lsid") (kinds.Doc, document (element (codes "id") (kinds.Plain plain.Binary, binary 4 session_id.0) ++ []))
    ++ (element (codes "txnNumber") (kinds.Plain plain.Int64, int64 number) ++ [])))
unfolding frame
numbered-literal id number mode read = ap (λ bytes. framing id (pos 0) 0 bytes) (spelled-numbered mode read session_id number)

-- the numbers 1 and 2 give other bytes
pub numbers-apart : (mode mode' : Option Mode) (read read' : Option (Bor Preference)) →
    frame (pos 7) (pos 0) 0 (command_document an_insert (codes "test") (record { lsid = Some session_id; number = Some (pos 2); mode = mode; read = read }) None)
    ≡ frame (pos 7) (pos 0) 0 (command_document an_insert (codes "test") (record { lsid = Some session_id; number = Some (pos 1); mode = mode'; read = read' }) None) → ⊥
unfolding framing header
numbers-apart mode mode' read read' e =
    clash (sym (numbered-literal (pos 7) (pos 2) mode read) ∙ e ∙ numbered-literal (pos 7) (pos 1) mode' read') (λ bytes. eqb (lowest_of_number bytes) 2) refl refl
