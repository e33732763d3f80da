-- What a command's fields are, as they are written.
use Rattle.std.proofs.Common.{◌≡◌, ◌≤◌, ◌+◌, ℕ, List, [], ◌∷◌, ◌++◌, length, take, drop, Bool, true, Option, None, Some, if◌then◌else◌, codes, append_assoc, subst, ap, ◌∙◌, arith}
use Rattle.std.proofs.lemmas.List.{length-append}
use Rattle.std.proofs.Math.Seq.{drop-append_seam, take-append_seam}
use Rattle.bson_doc.specs.declared.cluster_time.ClusterTime.{ClusterTime}
use Rattle.bson_doc.specs.declared.value.Value.{Value, Array, Doc}
use Rattle.bson_doc.specs.declared.value.Value.TheVariants as value
use Rattle.bson_wire.specs.Limits.{most_bytes}
use Rattle.bson_wire.specs.Spelled.{document, spelled_elements}
use Rattle.bson_wire.specs.Writes.{BeginsFirst, Ends, Writes, room}
use Rattle.bson_wire.specs.declared.fault.EncodeFault.{EncodeFault}
use Rattle.bson_wire.proofs.WriteLemmas.{wrote-array, wrote-more}
use Rattle.cmd_build.specs.Batches.{BeginsBatch, EndsBatch, Stopped, WroteAll, extra_fields, front_fields}
use Rattle.cmd_build.specs.Commands.{Field, act_fields, command_document, command_fields, concern_of, db_of, given, majority, number_of, preference_of, session_of, time_of}
use Rattle.cmd_build.specs.declared.command.Command.{Command}
use Rattle.cmd_build.specs.declared.extras.Extras.{Extras}

-- A write command with one statement.
pub wrote-batch : {name coll list old at1 at2 new : List ℕ} {start : ℕ} {v : Value} → BeginsBatch name coll list old at1 start → Writes at1 at2 ((codes "0", v) ∷ []) →
    EndsBatch start at2 new → Writes old new ((name, value.Str coll) ∷ (list, Array (v ∷ [])) ∷ (codes "ordered", value.Bool true) ∷ [])
wrote-batch begins one ends = wrote-more begins.named (wrote-more (wrote-array begins.begins one ends.ends) ends.ordered)

-- The write concern of a write.
pub concern-given : (b : Bool) (old new : List ℕ) → b ≡ true → Writes old new ((codes "writeConcern", Doc majority) ∷ []) →
    Writes old new (given (codes "writeConcern") (if b then Some (Doc majority) else None))
concern-given b old new e w = rw e w

-- An outermost document whose elements were written between its beginning and its end.
pub wrote-first : {old at1 at2 new : List ℕ} {start : ℕ} {es : List Field} → BeginsFirst old at1 start → Writes at1 at2 es → Ends start at2 new →
    WroteAll old new (record { elements = es })
wrote-first {old} {at1} {at2} {new} {start} {es} begins writes ends = record { bytes = whole; known = writes.known; size = subst (λ (xs : List ℕ). length (document xs) ≤ most_bytes) inside ends.size }
  where
    at : start ≡ length old
    at = omega (arith, begins.place, ap length begins.bytes, length-append old room)

    inside : drop (start + 4) at2 ≡ spelled_elements es
    inside = ap (λ (xs : List ℕ). drop (start + 4) xs) writes.bytes ∙ ap (λ (n : ℕ). drop n (at1 ++ spelled_elements es)) begins.place ∙ drop-append_seam at1 (spelled_elements es)

    ahead : take start at2 ≡ old
    ahead =
        ap (λ (xs : List ℕ). take start xs) (writes.bytes ∙ ap (λ (xs : List ℕ). xs ++ spelled_elements es) begins.bytes ∙ append_assoc old room (spelled_elements es))
        ∙ ap (λ (n : ℕ). take n (old ++ (room ++ spelled_elements es))) at ∙ take-append_seam old (room ++ spelled_elements es)

    whole : new ≡ old ++ document (spelled_elements es)
    whole = ends.bytes ∙ ap (λ (xs : List ℕ). xs ++ document (drop (start + 4) at2)) ahead ∙ ap (λ (xs : List ℕ). old ++ document xs) inside

pub concern-stopped : (b : Bool) (e : EncodeFault) → b ≡ true → Stopped ((codes "writeConcern", Doc majority) ∷ []) e →
    Stopped (given (codes "writeConcern") (if b then Some (Doc majority) else None)) e
concern-stopped b e is h = rw is h

-- The two parts in which a command's fields are written are all of them.
regroup : (x m p l n t : List Field) → (x ++ m) ++ (((p ++ l) ++ n) ++ t) ≡ (((x ++ (m ++ p)) ++ l) ++ n) ++ t
regroup x m p l n t = simp append_assoc

pub fields-are : (c : Command) (db : List ℕ) (extras : Extras) (time : Option ClusterTime) → front_fields c db ++ extra_fields c.act extras time ≡ command_fields c db extras time
fields-are c db extras time =
    regroup (act_fields c.coll c.act ++ given (codes "writeConcern") (concern_of c.act)) ((codes "apiVersion", value.Str (codes "1")) ∷ (codes "$db", value.Str (db_of c.db db)) ∷ [])
    (given (codes "$readPreference") (preference_of c.act extras)) (given (codes "lsid") (session_of extras.lsid)) (given (codes "txnNumber") (number_of extras.number))
    (given (codes "$clusterTime") (time_of time))

pub fields-whole : (c : Command) (db : List ℕ) (extras : Extras) (time : Option ClusterTime) (old new : List ℕ) →
    WroteAll old new (record { elements = front_fields c db ++ extra_fields c.act extras time }) → WroteAll old new (command_document c db extras time)
fields-whole c db extras time old new w = subst (λ (es : List Field). WroteAll old new (record { elements = es })) (fields-are c db extras time) w
