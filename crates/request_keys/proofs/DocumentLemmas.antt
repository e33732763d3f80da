-- What a command's document says of its session and its number.
use Rattle.std.proofs.Common.{◌≡◌, ℕ, ℤ, true, false, List, [], ◌∷◌, ◌++◌, length, codes, cond, find, Option, None, Some, refl, ap, ◌∙◌}
use Rattle.std.specs.Option.{option_and_then, option_map, option_or}
use Rattle.std.proofs.lemmas.Bool.{eq-eqb}
use Rattle.bson_doc.specs.Documents.{is_text, value_of}
use Rattle.bson_doc.specs.Readings.{document_in, document_of, int64_of}
use Rattle.bson_doc.specs.declared.cluster_time.ClusterTime.{ClusterTime}
use Rattle.bson_doc.specs.declared.ids.Lsid.{Lsid}
use Rattle.bson_doc.specs.declared.value.Document.{Document}
use Rattle.bson_doc.specs.declared.value.Value.{Doc, Value}
use Rattle.bson_doc.specs.declared.value.Value.TheVariants as value
use Rattle.bson_doc.specs.declared.value.Value.TheVariants.{outs-Doc}
use Rattle.cmd_build.specs.Commands.{Field, act_fields, command_document, command_fields, concern_of, db_of, given, modification, preference_of, session, session_of, time_of}
use Rattle.cmd_build.specs.Commands as sent
use Rattle.cmd_build.specs.declared.command.Act.{Act}
use Rattle.cmd_build.specs.declared.command.Act.TheVariants as act
use Rattle.cmd_build.specs.declared.command.Command.{Command}
use Rattle.cmd_build.specs.declared.extras.Extras.{Extras}
use Rattle.cmd_outcome.specs.Replies.{field}
use Rattle.member_core.specs.Keys.{id_from, lsid_of, number_of}

-- ---- Fields

-- one list behind another
found-append : (target : List ℕ) (xs ys : List Field) → value_of target (xs ++ ys) ≡ option_or (value_of target xs) (value_of target ys)
found-append target [] ys = refl
found-append target (x ∷ xs) ys =
    elim (is_text x.0 target) as (λ b.
    option_map (λ (e : Field). e.1) (cond b (Some x) (find (λ (e : Field). is_text e.0 target) (xs ++ ys)))
    ≡ option_or (option_map (λ (e : Field). e.1) (cond b (Some x) (find (λ (e : Field). is_text e.0 target) xs))) (value_of target ys)) [
      | true ↦ refl
      | false ↦ found-append target xs ys
    ]

-- six lists one behind another
found-parts : (target : List ℕ) (a b c d e f : List Field) → value_of target a ≡ None → value_of target b ≡ None → value_of target c ≡ None →
    value_of target (a ++ b ++ c ++ d ++ e ++ f) ≡ option_or (option_or (value_of target d) (value_of target e)) (value_of target f)
found-parts target a b c d e f x y z =
    found-append target (a ++ b ++ c ++ d ++ e) f
    ∙ ap (λ o. option_or o (value_of target f)) (found-append target (a ++ b ++ c ++ d) e
    ∙ ap (λ o. option_or o (value_of target e)) (found-append target (a ++ b ++ c) d
    ∙ ap (λ o. option_or o (value_of target d)) (found-append target (a ++ b) c
    ∙ ap (λ o. option_or o (value_of target c)) (found-append target a b ∙ ap (λ o. option_or o (value_of target b)) x ∙ y) ∙ z)))

-- a field of another name, and of that name
given-other : (target name : List ℕ) (v : Option Value) → is_text name target ≡ false → value_of target (given name v) ≡ None
given-other target name None n = refl
given-other target name (Some v) n = rw n refl

given-own : (target : List ℕ) (v : Option Value) → is_text target target ≡ true → value_of target (given target v) ≡ v
given-own target None y = refl
given-own target (Some v) y = rw y refl

-- none of an act's fields is of a session
lsid-act : (coll : List ℕ) (a : Act) → value_of (codes "lsid") (act_fields coll a) ≡ None
lsid-act coll (act.Insert doc) = refl
lsid-act coll (act.Update filter change multi upsert) = refl
lsid-act coll (act.Delete filter all) = refl
lsid-act coll (act.FindAndModify filter None) = refl
lsid-act coll (act.FindAndModify filter (Some change)) = refl
lsid-act coll (act.Find filter read) = refl

number-act : (coll : List ℕ) (a : Act) → value_of (codes "txnNumber") (act_fields coll a) ≡ None
number-act coll (act.Insert doc) = refl
number-act coll (act.Update filter change multi upsert) = refl
number-act coll (act.Delete filter all) = refl
number-act coll (act.FindAndModify filter None) = refl
number-act coll (act.FindAndModify filter (Some change)) = refl
number-act coll (act.Find filter read) = refl

-- ---- The whole

abbrev middle : Command → List ℕ → Extras → List Field
middle c db extras = (codes "apiVersion", value.Str (codes "1")) ∷ (codes "$db", value.Str (db_of c.db db)) ∷ given (codes "$readPreference") (preference_of c.act extras)

first-of : (o : Option Value) → option_or (option_or o None) None ≡ o
first-of None = refl
first-of (Some v) = refl

second-of : (o : Option Value) → option_or (option_or None o) None ≡ o
second-of None = refl
second-of (Some v) = refl

lsid-field : (c : Command) (db : List ℕ) (extras : Extras) (time : Option ClusterTime) → value_of (codes "lsid") (command_fields c db extras time) ≡ session_of extras.lsid
lsid-field c db extras time =
    let target = codes "lsid" in
    found-parts target (act_fields c.coll c.act) (given (codes "writeConcern") (concern_of c.act)) (middle c db extras) (given target (session_of extras.lsid))
    (given (codes "txnNumber") (sent.number_of extras.number)) (given (codes "$clusterTime") (time_of time)) (lsid-act c.coll c.act) (given-other target (codes "writeConcern") (concern_of c.act) refl)
    (given-other target (codes "$readPreference") (preference_of c.act extras) refl)
    ∙ ap (λ o. option_or (option_or o (value_of target (given (codes "txnNumber") (sent.number_of extras.number)))) (value_of target (given (codes "$clusterTime") (time_of time))))
    (given-own target (session_of extras.lsid) refl)
    ∙ ap (λ o. option_or (option_or (session_of extras.lsid) o) (value_of target (given (codes "$clusterTime") (time_of time)))) (given-other target (codes "txnNumber") (sent.number_of extras.number) refl)
    ∙ ap (λ o. option_or (option_or (session_of extras.lsid) None) o) (given-other target (codes "$clusterTime") (time_of time) refl)
    ∙ first-of (session_of extras.lsid)

number-field : (c : Command) (db : List ℕ) (extras : Extras) (time : Option ClusterTime) → value_of (codes "txnNumber") (command_fields c db extras time) ≡ sent.number_of extras.number
number-field c db extras time =
    let target = codes "txnNumber" in
    found-parts target (act_fields c.coll c.act) (given (codes "writeConcern") (concern_of c.act)) (middle c db extras) (given (codes "lsid") (session_of extras.lsid))
    (given target (sent.number_of extras.number)) (given (codes "$clusterTime") (time_of time)) (number-act c.coll c.act) (given-other target (codes "writeConcern") (concern_of c.act) refl)
    (given-other target (codes "$readPreference") (preference_of c.act extras) refl)
    ∙ ap (λ o. option_or (option_or o (value_of target (given target (sent.number_of extras.number)))) (value_of target (given (codes "$clusterTime") (time_of time))))
    (given-other target (codes "lsid") (session_of extras.lsid) refl)
    ∙ ap (λ o. option_or (option_or None o) (value_of target (given (codes "$clusterTime") (time_of time)))) (given-own target (sent.number_of extras.number) refl)
    ∙ ap (λ o. option_or (option_or None (sent.number_of extras.number)) o) (given-other target (codes "$clusterTime") (time_of time) refl)
    ∙ second-of (sent.number_of extras.number)

doc-of : (d : Document) → document_of (Doc d) ≡ Some d
doc-of d = ap document_in (outs-Doc d)

id-of : (id : Lsid) → length id.0 ≡ 16 → id_from (value.Binary 4 id.0) ≡ Some id
id-of id n = rw (eq-eqb (length id.0) 16 n) refl

session-is : (id : Lsid) → length id.0 ≡ 16 → option_and_then (λ lsid. option_and_then id_from (field (codes "id") lsid)) (option_and_then document_of (session_of (Some id))) ≡ Some id
session-is id n =
    ap (λ o. option_and_then (λ lsid. option_and_then id_from (field (codes "id") lsid)) o) (doc-of (session id)) ∙ id-of id n

number-is : (number : Option ℤ) → option_and_then int64_of (sent.number_of number) ≡ number
number-is None = refl
number-is (Some n) = refl

-- its session's id, and its number
pub document-number : (c : Command) (db : List ℕ) (extras : Extras) (time : Option ClusterTime) → number_of (command_document c db extras time) ≡ extras.number
document-number c db extras time = ap (option_and_then int64_of) (number-field c db extras time) ∙ number-is extras.number

pub document-lsid : (c : Command) (db : List ℕ) (extras : Extras) (time : Option ClusterTime) (id : Lsid) → extras.lsid ≡ Some id → length id.0 ≡ 16 →
    lsid_of (command_document c db extras time) ≡ Some id
document-lsid c db extras time id e n =
    ap (λ o. option_and_then (λ lsid. option_and_then id_from (field (codes "id") lsid)) (option_and_then document_of o)) (lsid-field c db extras time ∙ ap session_of e) ∙ session-is id n
