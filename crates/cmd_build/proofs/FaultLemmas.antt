-- What stops a writer of fields: a part of them that stops it does so with the rest beside it, and inside a document.
use Rattle.std.proofs.Common.{◌≡◌, ◌<◌, ◌≤◌, ◌+◌, ℕ, List, [], ◌∷◌, ◌++◌, length, drop, true, Option, Some, decimal, codes, Result, Ok, Err, refl, sym, ap, subst, ◌∙◌, arith}
use Rattle.std.specs.Prelude.{IfErr, IsErrAnd}
use Rattle.std.specs.Option.{option_copied, option_map}
use Rattle.std.proofs.lemmas.Fmt.{decimal_digit}
use Rattle.std.proofs.lemmas.List.{length-append}
use Rattle.std.proofs.lemmas.Result.{err_from_is_err_and}
use Rattle.std.proofs.Math.Seq.{drop-append_seam}
use Rattle.bson_doc.specs.Documents.{depth_of}
use Rattle.bson_doc.specs.declared.value.Document.{Document}
use Rattle.bson_doc.specs.declared.value.Value.{Value, Array, Doc}
use Rattle.bson_doc.specs.declared.value.Value.TheVariants as value
use Rattle.bson_doc.proofs.Depths.{depth_of-elements, depth_inside-Array}
use Rattle.bson_wire.specs.Limits.{most_bytes, most_levels}
use Rattle.bson_wire.specs.Spelled.{binary, document, element, payload, spelled, spelled_elements, string}
use Rattle.bson_wire.specs.Writes.{Writes}
use Rattle.bson_wire.specs.Written.{Stops}
use Rattle.bson_wire.specs.declared.fault.EncodeFault.{EncodeFault}
use Rattle.bson_wire.specs.declared.fault.EncodeFault.TheVariants as fault
use Rattle.bson_wire.proofs.Lengths.{length-element, length-string}
use Rattle.read_pref.specs.declared.mode.Mode.{Mode}
use Rattle.cmd_build.specs.Batches.{BeginsBatch, Stopped}
use Rattle.cmd_build.specs.Commands.{Field, given, preference_document, preference_of, sent_mode, sent_tags}
use Rattle.cmd_build.specs.declared.command.Act.{Act}
use Rattle.cmd_build.specs.declared.extras.Extras.{Extras}
use Rattle.cmd_build.proofs.DepthLemmas.{depth_inside-Doc, inside-append}
use Rattle.cmd_build.proofs.SizeLemmas.{fields_length, fields_length-++, fields_length-∷, length-Array, length-Binary, length-Doc, length-Str, length-spelled}

-- ---- calls

-- What the exit of a `?` returns is the fault of the call.
pub passed : {T : Type 0} (P : EncodeFault → Type 0) {e : EncodeFault} (r : Result T EncodeFault) → IsErrAnd r (λ y. y ≡ e) → P e → IfErr r P
passed {T} P {e} r out p =
    let q = err_from_is_err_and r out in
    rw (q.1, q.2) p

-- What holds of a fault of the last call.
pub passed-on : {T : Type 0} {P Q : EncodeFault → Type 0} (r : Result T EncodeFault) → ((e : EncodeFault) → P e → Q e) → IfErr r P → IfErr r Q
passed-on (Ok x) more h = tt
passed-on (Err e) more h = more e h

-- ---- more fields

-- Fields whose document is as deep and has as many bytes at least.
stopped-more : (es fs : List Field) (e : EncodeFault) → depth_of (record { elements = es }) ≤ depth_of (record { elements = fs }) → fields_length es ≤ fields_length fs → Stopped es e → Stopped fs e
stopped-more es fs fault.Deep deep long h = omega (arith, deep, h)
stopped-more es fs fault.Long deep long h = omega (arith, long, h, length-spelled (record { elements = es }), length-spelled (record { elements = fs }))
stopped-more es fs fault.Memory deep long h = tt

pub stopped-front : (es fs : List Field) (e : EncodeFault) → Stopped es e → Stopped (es ++ fs) e
stopped-front es fs e h = stopped-more es (es ++ fs) e
    (omega (arith, depth_of-elements (record { elements = es }), depth_of-elements (record { elements = es ++ fs }), inside-append es fs)) (omega (arith, fields_length-++ es fs)) h

pub stopped-rest : (es fs : List Field) (e : EncodeFault) → Stopped fs e → Stopped (es ++ fs) e
stopped-rest es fs e h = stopped-more fs (es ++ fs) e
    (omega (arith, depth_of-elements (record { elements = fs }), depth_of-elements (record { elements = es ++ fs }), inside-append es fs)) (omega (arith, fields_length-++ es fs)) h

-- ---- one field

-- A payload of so many bytes.
stopped-size : (n : ℕ) (name : List ℕ) (v : Value) (e : EncodeFault) → n ≤ fields_length ((name, v) ∷ []) → Stops n e → Stopped ((name, v) ∷ []) e
stopped-size n name v fault.Deep le h = absurd h
stopped-size n name v fault.Long le h = omega (arith, le, h, length-spelled (record { elements = (name, v) ∷ [] }))
stopped-size n name v fault.Memory le h = tt

pub stopped-text : (name text : List ℕ) (e : EncodeFault) → Stops (length (string text)) e → Stopped ((name, value.Str text) ∷ []) e
stopped-text name text e h =
    stopped-size (length (string text)) name (value.Str text) e (omega (arith, fields_length-∷ name (value.Str text) [], length-Str text, length-string text)) h

pub stopped-binary : (name : List ℕ) (subtype : ℕ) (held : List ℕ) (e : EncodeFault) → Stops (length (binary subtype held)) e → Stopped ((name, value.Binary subtype held) ∷ []) e
stopped-binary name subtype held e h =
    stopped-size (length (binary subtype held)) name (value.Binary subtype held) e (omega (arith, fields_length-∷ name (value.Binary subtype held) [], length-Binary subtype held)) h

-- A document that is in memory.
pub stopped-held : (name : List ℕ) (d : Document) (e : EncodeFault) → (e ≡ fault.Deep → most_levels < depth_of d) → (e ≡ fault.Long → most_bytes < length (spelled d)) →
    Stopped ((name, Doc d) ∷ []) e
stopped-held name d fault.Deep deep long = omega (arith, deep refl, depth_inside-Doc d, depth_of-elements (record { elements = (name, Doc d) ∷ [] }))
stopped-held name d fault.Long deep long = omega (arith, long refl, fields_length-∷ name (Doc d) [], length-Doc d, length-spelled (record { elements = (name, Doc d) ∷ [] }))
stopped-held name d fault.Memory deep long = tt

pub held-stops : {T : Type 0} (r : Result T EncodeFault) (name : List ℕ) (d : Document) → IfErr r (λ e. e ≡ fault.Deep → most_levels < depth_of d) →
    IfErr r (λ e. e ≡ fault.Long → most_bytes < length (spelled d)) → IfErr r (Stopped ((name, Doc d) ∷ []))
held-stops (Ok x) name d deep long = tt
held-stops (Err e) name d deep long = stopped-held name d e deep long

-- The read preference of a find.
pub stopped-preference : (a : Act) (extras : Extras) (mode : Mode) (d : Document) (e : EncodeFault) → sent_mode a extras.mode ≡ Some mode →
    d ≡ preference_document (sent_tags a (option_copied extras.read)) mode → Stopped ((codes "$readPreference", Doc d) ∷ []) e → Stopped (given (codes "$readPreference") (preference_of a extras)) e
stopped-preference a extras mode d e sent is h =
    let sets = sent_tags a (option_copied extras.read) in
    subst (λ (m : Option Mode). Stopped (given (codes "$readPreference") (option_map (λ mode. Doc (preference_document sets mode)) m)) e) (sym sent)
    (subst (λ (d : Document). Stopped ((codes "$readPreference", Doc d) ∷ []) e) is h)

-- ---- documents and arrays that are written inside

pub stopped-document : (name : List ℕ) (es : List Field) (e : EncodeFault) → Stopped es e → Stopped ((name, Doc (record { elements = es })) ∷ []) e
stopped-document name es e h =
    let d : Document = record { elements = es } in
    stopped-more es ((name, Doc d) ∷ []) e (omega (arith, depth_inside-Doc d, depth_of-elements (record { elements = (name, Doc d) ∷ [] })))
    (omega (arith, fields_length-∷ name (Doc d) [], length-Doc d, length-spelled d)) h

-- An array of one value.
stopped-array : (name : List ℕ) (v : Value) (e : EncodeFault) → Stopped ((codes "0", v) ∷ []) e → Stopped ((name, Array (v ∷ [])) ∷ []) e
stopped-array name v e h = stopped-more ((codes "0", v) ∷ []) ((name, Array (v ∷ [])) ∷ []) e deep long h
  where
    deep : depth_of (record { elements = (codes "0", v) ∷ [] }) ≤ depth_of (record { elements = (name, Array (v ∷ [])) ∷ [] })
    deep = omega (arith, depth_of-elements (record { elements = (codes "0", v) ∷ [] }), depth_of-elements (record { elements = (name, Array (v ∷ [])) ∷ [] }), depth_inside-Array (v ∷ []))

    digit : length (decimal 0) ≡ 1
    digit = ap length (decimal_digit 0 (omega arith))

    long : fields_length ((codes "0", v) ∷ []) ≤ fields_length ((name, Array (v ∷ [])) ∷ [])
    long = omega (
      arith,
      fields_length-∷ (codes "0") v [],
      fields_length-∷ name (Array (v ∷ [])) [],
      length-Array (v ∷ []),
      length-append (element (decimal 0) (payload v)) [],
      length-element (decimal 0) (payload v),
      digit,
    )

-- The end of what holds the fields.
pub end-stops : {T : Type 0} {at1 at2 : List ℕ} {es : List Field} (start : ℕ) (r : Result T EncodeFault) → start + 4 ≡ length at1 → Writes at1 at2 es →
    IfErr r (Stops (length (document (drop (start + 4) at2)))) → IfErr r (Stopped es)
end-stops {T} {at1} {at2} {es} start r place writes h = passed-on r of-size (subst (λ (xs : List ℕ). IfErr r (Stops (length (document xs)))) behind h)
  where
    behind : drop (start + 4) at2 ≡ spelled_elements es
    behind = ap (λ (xs : List ℕ). drop (start + 4) xs) writes.bytes ∙ ap (λ (n : ℕ). drop n (at1 ++ spelled_elements es)) place ∙ drop-append_seam at1 (spelled_elements es)

    of-size : (e : EncodeFault) → Stops (length (document (spelled_elements es))) e → Stopped es e
    of-size fault.Deep s = absurd s
    of-size fault.Long s = s
    of-size fault.Memory s = tt

-- ---- a write command with one statement

abbrev pub batch_fields : List ℕ → List ℕ → List ℕ → Value → List Field
batch_fields name coll list v = (name, value.Str coll) ∷ (list, Array (v ∷ [])) ∷ (codes "ordered", value.Bool true) ∷ []

pub stopped-begin : (name coll list : List ℕ) (v : Value) (e : EncodeFault) → Stops (length (string coll)) e → Stopped (batch_fields name coll list v) e
stopped-begin name coll list v e h = stopped-front ((name, value.Str coll) ∷ []) ((list, Array (v ∷ [])) ∷ (codes "ordered", value.Bool true) ∷ []) e (stopped-text name coll e h)

pub stopped-statement : (name coll list : List ℕ) (v : Value) (e : EncodeFault) → Stopped ((codes "0", v) ∷ []) e → Stopped (batch_fields name coll list v) e
stopped-statement name coll list v e h =
    stopped-rest ((name, value.Str coll) ∷ []) ((list, Array (v ∷ [])) ∷ (codes "ordered", value.Bool true) ∷ []) e
    (stopped-front ((list, Array (v ∷ [])) ∷ []) ((codes "ordered", value.Bool true) ∷ []) e (stopped-array list v e h))

pub batch-stops : {T : Type 0} {name coll list old at1 at2 : List ℕ} {v : Value} (start : ℕ) (r : Result T EncodeFault) → BeginsBatch name coll list old at1 start →
    Writes at1 at2 ((codes "0", v) ∷ []) → IfErr r (Stops (length (document (drop (start + 4) at2)))) → IfErr r (Stopped (batch_fields name coll list v))
batch-stops {T} {name} {coll} {list} {old} {at1} {at2} {v} start r begins one h = passed-on r (stopped-statement name coll list v) (end-stops start r begins.begins.place one h)
