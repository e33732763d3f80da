-- Answers are never too deep.
use Rattle.std.proofs.Common.{◌≡◌, ℕ, ℤ, ◌+◌, ◌≤◌, max, pos, true, false, not, Bool, None, Some, Option, List, [], ◌∷◌, ◌++◌, map, codes, refl, ap, ◌∙◌, arith}
use Rattle.bson_doc.specs.Documents.{depth_of, depth_inside, greatest, value_step, document_step}
use Rattle.bson_doc.specs.declared.ids.Oid.{Oid}
use Rattle.bson_doc.specs.declared.value.Document.{Document}
use Rattle.bson_doc.specs.declared.value.Value.{Value, Value-F, Doc, map-Value, out-Value, fold_out-Value}
use Rattle.bson_doc.specs.declared.value.Value.TheVariants as value
use Rattle.bson_doc.specs.declared.value.Value.TheVariants.{outs-Bool, outs-Doc, outs-Double, outs-Int32, outs-Int64, outs-Oid, outs-Str}
use Rattle.bson_doc.proofs.Depths.{depth_of-elements, depth_inside-Array}
use Rattle.host_name.specs.Addresses.{Address, address_text}
use Rattle.member_core.specs.Members.{MemberState, takes_writes}
use Rattle.member_core.specs.Replies.{Field, concern, concern_error, election_fields, election_id, empty_cursor, find_reply, hello_reply, host_value, limit_fields, modified, ok, own_fields, own_text, plain_ok, primary_field, process_id, refusal, role_fields, set_fields, topology_version, write_result}

-- ---- Values

by_layer : (v : Value) (w : Value-F Value Document) → out-Value v ≡ w → depth_inside v ≡ value_step (map-Value Value Document ℕ ℕ depth_inside depth_of w)
by_layer v w e = fold_out-Value ℕ ℕ value_step document_step v ∙ ap (λ u. value_step (map-Value Value Document ℕ ℕ depth_inside depth_of u)) e

depth_inside-Doc : (d : Document) → depth_inside (Doc d) ≡ depth_of d
depth_inside-Doc d = by_layer _ _ (outs-Doc d)

depth_inside-Double : (raw : List ℕ) → depth_inside (value.Double raw) ≡ 0
depth_inside-Double raw = by_layer _ _ (outs-Double raw)

depth_inside-Str : (text : List ℕ) → depth_inside (value.Str text) ≡ 0
depth_inside-Str text = by_layer _ _ (outs-Str text)

depth_inside-Oid : (id : Oid) → depth_inside (value.Oid id) ≡ 0
depth_inside-Oid id = by_layer _ _ (outs-Oid id)

depth_inside-Bool : (b : Bool) → depth_inside (value.Bool b) ≡ 0
depth_inside-Bool b = by_layer _ _ (outs-Bool b)

depth_inside-Int32 : (n : ℤ) → depth_inside (value.Int32 n) ≡ 0
depth_inside-Int32 n = by_layer _ _ (outs-Int32 n)

depth_inside-Int64 : (n : ℤ) → depth_inside (value.Int64 n) ≡ 0
depth_inside-Int64 n = by_layer _ _ (outs-Int64 n)

-- ---- Fields

-- How deep the values of fields lie.
abbrev inside : List Field → ℕ
inside fields = greatest (λ e. depth_inside e.1) fields

inside-append : (es fs : List Field) → inside (es ++ fs) ≡ max (inside es) (inside fs)
inside-append [] fs = omega arith
inside-append (e ∷ es) fs = omega (arith, inside-append es fs)

inside-ok : inside (ok ∷ []) ≡ 0
inside-ok = omega (arith, depth_inside-Double (0 ∷ 0 ∷ 0 ∷ 0 ∷ 0 ∷ 0 ∷ 0xf0 ∷ 0x3f ∷ []))

-- ---- Answers of few fields

pub depth_of-plain_ok : depth_of plain_ok ≡ 1
depth_of-plain_ok = omega (arith, depth_of-elements plain_ok, inside-ok)

inside-modified : (is_update : Bool) → inside (modified is_update) ≡ 0
inside-modified true = omega (arith, depth_inside-Int32 (pos 1))
inside-modified false = refl

inside-concern_error : (lead : Bool) → inside (concern_error lead) ≤ 1
inside-concern_error true = omega arith
inside-concern_error false = omega (arith, depth_inside-Doc concern, depth_of-elements concern, depth_inside-Int32 (pos 64))

pub depth_of-write_result : (is_update lead : Bool) → depth_of (write_result is_update lead) ≤ 2
depth_of-write_result is_update lead = omega (
  arith,
  depth_of-elements (write_result is_update lead),
  inside-append ((codes "n", value.Int32 (pos 1)) ∷ modified is_update) (ok ∷ concern_error lead),
  inside-append (ok ∷ []) (concern_error lead),
  depth_inside-Int32 (pos 1),
  inside-modified is_update,
  inside-ok,
  inside-concern_error lead,
)

pub depth_of-refusal : depth_of refusal ≤ 2
depth_of-refusal = omega (
  arith,
  depth_of-elements refusal,
  depth_inside-Double (0 ∷ 0 ∷ 0 ∷ 0 ∷ 0 ∷ 0 ∷ 0 ∷ 0 ∷ []),
  depth_inside-Int32 (pos 10107),
  depth_inside-Array (value.Str (codes "RetryableWriteError") ∷ []),
  depth_inside-Str (codes "RetryableWriteError"),
)

pub depth_of-find_reply : depth_of find_reply ≤ 3
depth_of-find_reply = omega (
  arith,
  depth_of-elements find_reply,
  depth_inside-Doc empty_cursor,
  depth_of-elements empty_cursor,
  depth_inside-Array [],
  depth_inside-Int64 (pos 0),
  inside-ok,
)

-- ---- A hello

inside-role_fields : (m : MemberState) → inside (role_fields m) ≡ 0
inside-role_fields m = omega (arith, depth_inside-Bool (takes_writes m), depth_inside-Bool (not (takes_writes m)))

depth_inside-hosts : (hosts : List Address) → greatest depth_inside (map host_value hosts) ≡ 0
depth_inside-hosts [] = refl
depth_inside-hosts (host ∷ hosts) = omega (arith, depth_inside-Str (address_text host), depth_inside-hosts hosts)

inside-set_fields : (m : MemberState) → inside (set_fields m) ≤ 1
inside-set_fields m = omega (arith, depth_inside-Str m.set, depth_inside-Int32 (pos 1), depth_inside-Array (map host_value m.hosts), depth_inside-hosts m.hosts)

inside-primary_field : (is_primary : Bool) (text : List ℕ) → inside (primary_field is_primary text) ≡ 0
inside-primary_field true text = omega (arith, depth_inside-Str text)
inside-primary_field false text = refl

inside-own_fields : (m : MemberState) → inside (own_fields m) ≡ 0
inside-own_fields m = omega (arith, depth_inside-Str (own_text m), inside-primary_field (takes_writes m) (own_text m))

inside-election_fields : (election : Option ℕ) → inside (election_fields election) ≡ 0
inside-election_fields (Some number) = omega (arith, depth_inside-Oid (election_id number))
inside-election_fields None = refl

inside-limit_fields : inside limit_fields ≡ 0
inside-limit_fields = omega (
  arith,
  depth_inside-Int32 (pos 16777216),
  depth_inside-Int32 (pos 48000000),
  depth_inside-Int32 (pos 100000),
  depth_inside-Int32 (pos 0),
  depth_inside-Int32 (pos 21),
  depth_inside-Int32 (pos 30),
)

inside-last : (m : MemberState) → inside ((codes "topologyVersion", Doc (topology_version m)) ∷ ok ∷ []) ≤ 1
inside-last m = omega (
  arith,
  depth_inside-Doc (topology_version m),
  depth_of-elements (topology_version m),
  depth_inside-Oid (process_id m.place),
  depth_inside-Int64 (pos m.changes),
  inside-ok,
)

inside-parts : (a b c d e f : List Field) → inside (a ++ b ++ c ++ d ++ e ++ f) ≡ max (max (max (max (max (inside a) (inside b)) (inside c)) (inside d)) (inside e)) (inside f)
inside-parts a b c d e f = omega (arith, inside-append (a ++ b ++ c ++ d ++ e) f, inside-append (a ++ b ++ c ++ d) e, inside-append (a ++ b ++ c) d, inside-append (a ++ b) c, inside-append a b)

pub depth_of-hello_reply : (m : MemberState) → depth_of (hello_reply m) ≤ 2
depth_of-hello_reply m =
    let parts = inside-parts (role_fields m) (set_fields m) (own_fields m) (election_fields m.election) limit_fields ((codes "topologyVersion", Doc (topology_version m)) ∷ ok ∷ []) in
    let whole = depth_of-elements (hello_reply m) ∙ ap (λ n. 1 + n) parts in
    omega (
      arith,
      whole,
      inside-role_fields m,
      inside-set_fields m,
      inside-own_fields m,
      inside-election_fields m.election,
      inside-limit_fields,
      inside-last m,
    )
