-- How deep the documents of commands lie.
use Rattle.std.proofs.Common.{◌≡◌, ℕ, ℤ, ◌+◌, ◌≤◌, max, pos, true, false, Bool, None, Some, Option, List, [], ◌∷◌, ◌++◌, map, codes, if◌then◌else◌, refl, ap, ◌∙◌, arith}
use Rattle.std.specs.Option.{option_copied, option_map}
use Rattle.std.proofs.lemmas.List.Elements.{All-head, All-tail}
use Rattle.bson_doc.specs.Documents.{depth_of, depth_inside, greatest, value_step, document_step}
use Rattle.bson_doc.specs.declared.cluster_time.ClusterTime.{ClusterTime}
use Rattle.bson_doc.specs.declared.ids.Lsid.{Lsid}
use Rattle.bson_doc.specs.declared.value.Document.{Document}
use Rattle.bson_doc.specs.declared.value.Value.{Value, Value-F, Array, Doc, map-Value, out-Value, fold_out-Value}
use Rattle.bson_doc.specs.declared.value.Value.TheVariants as value
use Rattle.bson_doc.specs.declared.value.Value.TheVariants.{outs-Binary, outs-Bool, outs-Doc, outs-Int32, outs-Int64, outs-Str}
use Rattle.bson_doc.proofs.Depths.{depth_of-elements, depth_inside-Array}
use Rattle.read_pref.specs.Modes.{name_of}
use Rattle.read_pref.specs.declared.mode.Mode.{Mode}
use Rattle.read_pref.specs.declared.tag.Tag.{Tag}
use Rattle.cmd_build.specs.Commands.{Field, act_fields, command_document, concern_of, db_of, delete_statement, given, majority, modification, number_of, preference_document, preference_of, sent_mode, sent_tags, session, session_of, tag_document, tag_field, tag_sets_field, tag_value, time_of, update_statement}
use Rattle.cmd_build.specs.Ops.{writes}
use Rattle.cmd_build.specs.Sizes.{IsWithin, levels_of_time}
use Rattle.cmd_build.specs.declared.command.Act.{Act}
use Rattle.cmd_build.specs.declared.command.Act.TheVariants as act
use Rattle.cmd_build.specs.declared.command.Command.{Command}
use Rattle.cmd_build.specs.declared.extras.Extras.{Extras}

-- ---- values

by_layer : (v : Value) (w : Value-F Value Document) → out-Value v ≡ w → depth_inside v ≡ value_step (map-Value Value Document ℕ ℕ depth_inside depth_of w)
by_layer v w e = fold_out-Value ℕ ℕ value_step document_step v ∙ ap (λ u. value_step (map-Value Value Document ℕ ℕ depth_inside depth_of u)) e

pub depth_inside-Doc : (d : Document) → depth_inside (Doc d) ≡ depth_of d
depth_inside-Doc d = by_layer _ _ (outs-Doc d)

depth_inside-Str : (text : List ℕ) → depth_inside (value.Str text) ≡ 0
depth_inside-Str text = by_layer _ _ (outs-Str text)

depth_inside-Bool : (b : Bool) → depth_inside (value.Bool b) ≡ 0
depth_inside-Bool b = by_layer _ _ (outs-Bool b)

depth_inside-Int32 : (n : ℤ) → depth_inside (value.Int32 n) ≡ 0
depth_inside-Int32 n = by_layer _ _ (outs-Int32 n)

depth_inside-Int64 : (n : ℤ) → depth_inside (value.Int64 n) ≡ 0
depth_inside-Int64 n = by_layer _ _ (outs-Int64 n)

depth_inside-Binary : (subtype : ℕ) (held : List ℕ) → depth_inside (value.Binary subtype held) ≡ 0
depth_inside-Binary subtype held = by_layer _ _ (outs-Binary subtype held)

-- ---- fields

-- How deep the values of fields lie.
abbrev pub inside : List Field → ℕ
inside fields = greatest (λ e. depth_inside e.1) fields

pub inside-append : (es fs : List Field) → inside (es ++ fs) ≡ max (inside es) (inside fs)
inside-append [] fs = omega arith
inside-append (e ∷ es) fs = omega (arith, inside-append es fs)

-- ---- what an act asks for

within_update : (levels : ℕ) (filter change : Document) (multi upsert : Bool) → depth_of filter ≤ levels → depth_of change ≤ levels
    → depth_of (update_statement filter change multi upsert) ≤ levels + 1
within_update levels filter change multi upsert f g = rw (
  depth_of-elements (update_statement filter change multi upsert),
  depth_inside-Doc filter,
  depth_inside-Doc change,
  depth_inside-Bool multi,
  depth_inside-Bool upsert,
) (omega (arith, f, g))

within_delete : (levels : ℕ) (filter : Document) (all : Bool) → depth_of filter ≤ levels → depth_of (delete_statement filter all) ≤ levels + 1
within_delete levels filter all f = rw (
  depth_of-elements (delete_statement filter all),
  depth_inside-Doc filter,
  depth_inside-Int32 (if all then pos 0 else pos 1),
) (omega (arith, f))

within_modification : (levels : ℕ) (filter : Document) (change : Option Document) → IsWithin levels (act.FindAndModify filter change)
    → depth_inside (modification change).1 ≤ levels
within_modification levels filter (Some change) all =
    rw (depth_inside-Doc change) (All-head (λ d. depth_of d ≤ levels) change [] (All-tail (λ d. depth_of d ≤ levels) filter (change ∷ []) all))
within_modification levels filter None all = rw (depth_inside-Bool true) (omega arith)

-- One document in an array.
one_document : (d : Document) → depth_inside (Array (Doc d ∷ [])) ≡ depth_of d + 1
one_document d = omega (arith, depth_inside-Array (Doc d ∷ []), depth_inside-Doc d)

inside-act_fields : (levels : ℕ) (coll : List ℕ) (a : Act) → IsWithin levels a → inside (act_fields coll a) ≤ levels + 2
inside-act_fields levels coll (act.Insert doc) all = rw (
  depth_inside-Str coll,
  one_document doc,
  depth_inside-Bool true,
) (omega (arith, All-head (λ d. depth_of d ≤ levels) doc [] all))
inside-act_fields levels coll (act.Update filter change multi upsert) all =
    let first = All-head (λ d. depth_of d ≤ levels) filter (change ∷ []) all in
    let second = All-head (λ d. depth_of d ≤ levels) change [] (All-tail (λ d. depth_of d ≤ levels) filter (change ∷ []) all) in
    rw (
      depth_inside-Str coll,
      one_document (update_statement filter change multi upsert),
      depth_inside-Bool true,
    ) (omega (arith, within_update levels filter change multi upsert first second))
inside-act_fields levels coll (act.Delete filter every) all = rw (
  depth_inside-Str coll,
  one_document (delete_statement filter every),
  depth_inside-Bool true,
) (omega (arith, within_delete levels filter every (All-head (λ d. depth_of d ≤ levels) filter [] all)))
inside-act_fields levels coll (act.FindAndModify filter change) all = rw (
  depth_inside-Str coll,
  depth_inside-Doc filter,
) (omega (arith, within_modification levels filter change all, first_within levels filter change all))
  where
    first_within : (levels : ℕ) (filter : Document) (change : Option Document) → IsWithin levels (act.FindAndModify filter change) → depth_of filter ≤ levels
    first_within levels filter change all = All-head (λ d. depth_of d ≤ levels) filter _ all
inside-act_fields levels coll (act.Find filter read) all = rw (
  depth_inside-Str coll,
  depth_inside-Doc filter,
  depth_inside-Int32 (pos 1),
  depth_inside-Bool true,
) (omega (arith, All-head (λ d. depth_of d ≤ levels) filter [] all))

-- ---- what stands behind

inside-concern : (b : Bool) → inside (given (codes "writeConcern") (if b then Some (Doc majority) else None)) ≤ 1
inside-concern true = rw (depth_inside-Doc majority, depth_of-elements majority, depth_inside-Str (codes "majority")) (omega arith)
inside-concern false = omega arith

inside-tag_fields : (tags : List Tag) → inside (map tag_field tags) ≡ 0
inside-tag_fields [] = refl
inside-tag_fields (t ∷ tags) = omega (arith, depth_inside-Str t.value, inside-tag_fields tags)

depth_inside-tag_value : (tags : List Tag) → depth_inside (tag_value tags) ≡ 1
depth_inside-tag_value tags = omega (arith, depth_inside-Doc (tag_document tags), depth_of-elements (tag_document tags), inside-tag_fields tags)

inside-tag_values : (sets : List (List Tag)) → greatest depth_inside (map tag_value sets) ≤ 1
inside-tag_values [] = omega arith
inside-tag_values (set ∷ sets) = omega (arith, depth_inside-tag_value set, inside-tag_values sets)

inside-tag_sets_field : (sets : List (List Tag)) → inside (tag_sets_field sets) ≤ 2
inside-tag_sets_field [] = omega arith
inside-tag_sets_field (set ∷ sets) = omega (arith, depth_inside-Array (map tag_value (set ∷ sets)), inside-tag_values (set ∷ sets))

inside-preference : (sets : List (List Tag)) (mode : Option Mode) → inside (given (codes "$readPreference") (option_map (λ m. Doc (preference_document sets m)) mode)) ≤ 3
inside-preference sets None = omega arith
inside-preference sets (Some mode) = rw (
  depth_inside-Doc (preference_document sets mode),
  depth_of-elements (preference_document sets mode),
  depth_inside-Str (name_of mode),
) (omega (arith, inside-tag_sets_field sets))

inside-session : (lsid : Option Lsid) → inside (given (codes "lsid") (session_of lsid)) ≤ 1
inside-session None = omega arith
inside-session (Some id) = rw (depth_inside-Doc (session id), depth_of-elements (session id), depth_inside-Binary 4 id.0) (omega arith)

inside-number : (number : Option ℤ) → inside (given (codes "txnNumber") (number_of number)) ≡ 0
inside-number None = refl
inside-number (Some n) = rw (depth_inside-Int64 n) refl

inside-time : (time : Option ClusterTime) → inside (given (codes "$clusterTime") (time_of time)) ≡ levels_of_time time
inside-time None = refl
inside-time (Some time) = rw (depth_inside-Doc time.body) (omega arith)

-- Six parts one after another.
inside-parts : (a b c d e f : List Field) → inside (a ++ b ++ c ++ d ++ e ++ f) ≡ max (max (max (max (max (inside a) (inside b)) (inside c)) (inside d)) (inside e)) (inside f)
inside-parts a b c d e f = omega (arith, inside-append (a ++ b ++ c ++ d ++ e) f, inside-append (a ++ b ++ c ++ d) e, inside-append (a ++ b ++ c) d, inside-append (a ++ b) c, inside-append a b)

inside-middle : (db : List ℕ) (es : List Field) → inside ((codes "apiVersion", value.Str (codes "1")) ∷ (codes "$db", value.Str db) ∷ es) ≡ inside es
inside-middle db es = omega (arith, depth_inside-Str (codes "1"), depth_inside-Str db)

-- A command has at most three levels around its documents, one around its cluster time, and four with its read preference.
pub depth_of-command_document : (levels : ℕ) (c : Command) (db : List ℕ) (extras : Extras) (time : Option ClusterTime) → IsWithin levels c.act
    → depth_of (command_document c db extras time) ≤ max 4 (max (levels + 3) (levels_of_time time + 1))
depth_of-command_document levels c db extras time within =
    let preference = given (codes "$readPreference") (preference_of c.act extras) in
    let parts = inside-parts (act_fields c.coll c.act) (given (codes "writeConcern") (concern_of c.act))
    ((codes "apiVersion", value.Str (codes "1")) ∷ (codes "$db", value.Str (db_of c.db db)) ∷ preference)
    (given (codes "lsid") (session_of extras.lsid)) (given (codes "txnNumber") (number_of extras.number)) (given (codes "$clusterTime") (time_of time)) in
    let whole = depth_of-elements (command_document c db extras time) ∙ ap (λ n. 1 + n) parts in
    omega (
      arith,
      whole,
      inside-middle (db_of c.db db) preference,
      inside-act_fields levels c.coll c.act within,
      inside-concern (writes c.act),
      inside-preference (sent_tags c.act (option_copied extras.read)) (sent_mode c.act extras.mode),
      inside-session extras.lsid,
      inside-number extras.number,
      inside-time time,
    )
