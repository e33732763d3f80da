-- Answers are never too long.
use Rattle.std.proofs.Common.{◌≡◌, ℕ, suc, zero, ℤ, ◌+◌, ◌^◌, ◌<◌, ◌≤◌, pos, Bool, true, false, not, None, Some, Option, List, [], ◌∷◌, ◌++◌, length, drop, map, decimal, codes, refl, ap, ◌∙◌, arith}
use Rattle.std.proofs.lemmas.Fmt.{length-decimal-le}
use Rattle.std.proofs.lemmas.List.{length-append}
use Rattle.std.proofs.lemmas.List.Sums.{sum_by-cons}
use Rattle.std.specs.Prelude.{slice_get, sum_by}
use Rattle.std.specs.Option.{option_map_or}
use Rattle.bson_doc.specs.declared.ids.Oid.{Oid}
use Rattle.bson_doc.specs.declared.value.Document.{Document}
use Rattle.bson_doc.specs.declared.value.Value.{Value, Array, Doc}
use Rattle.bson_doc.specs.declared.value.Value.TheVariants as value
use Rattle.bson_wire.specs.Spelled.{element, numbered, payload, spelled, spelled_elements}
use Rattle.bson_wire.proofs.Lengths.{length-element, length-string}
use Rattle.bson_wire.proofs.Payloads.{payload-Array, payload-Bool, payload-Doc, payload-Double, payload-Int32, payload-Int64, payload-Oid, payload-Str}
use Rattle.bson_wire.proofs.Written.{length-document}
use Rattle.host_name.specs.Addresses.{Address, address_text}
use Rattle.member_core.specs.Members.{MemberState, takes_writes}
use Rattle.member_core.specs.Replies.{Field, concern, concern_error, double_one, double_zero, election_fields, election_id, empty_cursor, find_reply, hello_reply, host_value, limit_fields, modified, ok, own_fields, own_text, plain_ok, primary_field, process_id, refusal, role_fields, set_fields, topology_version, write_result}
use Rattle.member_core.specs.Sizes.{host_size}

-- ---- Payloads

abbrev payload_length : Value → ℕ
payload_length v = length (payload v).1

length-Double : (raw : List ℕ) → payload_length (value.Double raw) ≡ length raw
length-Double raw = rw (payload-Double (value.Double raw) raw refl) refl

length-Str : (text : List ℕ) → payload_length (value.Str text) ≡ length text + 5
length-Str text = rw (payload-Str (value.Str text) text refl) (length-string text)

length-Doc : (d : Document) → payload_length (Doc d) ≡ length (spelled d)
length-Doc d = rw (payload-Doc (Doc d) d refl) refl

length-Oid : (id : Oid) → payload_length (value.Oid id) ≡ length id.0
length-Oid id = rw (payload-Oid (value.Oid id) id refl) refl

length-Bool : (b : Bool) → payload_length (value.Bool b) ≡ 1
length-Bool b = rw (payload-Bool (value.Bool b) b refl) refl

length-Int32 : (n : ℤ) → payload_length (value.Int32 n) ≡ 4
length-Int32 n = rw (payload-Int32 (value.Int32 n) n refl) refl

length-Int64 : (n : ℤ) → payload_length (value.Int64 n) ≡ 8
length-Int64 n = rw (payload-Int64 (value.Int64 n) n refl) refl

length-Array : (items : List Value) → payload_length (Array items) ≡ length (numbered 0 (map payload items)) + 5
length-Array items = rw (payload-Array (Array items) items refl) (length-document (numbered 0 (map payload items)))

-- ---- Fields

abbrev fields_length : List Field → ℕ
fields_length fields = length (spelled_elements fields)

fields_length-∷ : (name : List ℕ) (v : Value) (es : List Field) → fields_length ((name, v) ∷ es) ≡ length name + payload_length v + 2 + fields_length es
fields_length-∷ name v es = omega (arith, length-append (element name (payload v)) (spelled_elements es), length-element name (payload v))

fields_length-++ : (es fs : List Field) → fields_length (es ++ fs) ≡ fields_length es + fields_length fs
fields_length-++ [] fs = omega arith
fields_length-++ (e ∷ es) fs =
    omega (arith, length-append (element e.0 (payload e.1)) (spelled_elements (es ++ fs)), length-append (element e.0 (payload e.1)) (spelled_elements es), fields_length-++ es fs)

length-spelled : (d : Document) → length (spelled d) ≡ fields_length d.elements + 5
length-spelled d = length-document (spelled_elements d.elements)

length-ok : fields_length (ok ∷ []) ≡ 12
length-ok = omega (arith, fields_length-∷ (codes "ok") double_one [], length-Double (0 ∷ 0 ∷ 0 ∷ 0 ∷ 0 ∷ 0 ∷ 0xf0 ∷ 0x3f ∷ []))

-- ---- Answers whose length depends on nothing

pub length-plain_ok : length (spelled plain_ok) ≡ 17
length-plain_ok = omega (arith, length-spelled plain_ok, length-ok)

length-modified : (is_update : Bool) → fields_length (modified is_update) ≤ 15
length-modified true = omega (arith, fields_length-∷ (codes "nModified") (value.Int32 (pos 1)) [], length-Int32 (pos 1))
length-modified false = omega arith

length-concern : length (spelled concern) ≡ 15
length-concern = omega (arith, length-spelled concern, fields_length-∷ (codes "code") (value.Int32 (pos 64)) [], length-Int32 (pos 64))

length-concern_error : (lead : Bool) → fields_length (concern_error lead) ≤ 34
length-concern_error true = omega arith
length-concern_error false = omega (arith, fields_length-∷ (codes "writeConcernError") (Doc concern) [], length-Doc concern, length-concern)

pub length-write_result : (is_update lead : Bool) → length (spelled (write_result is_update lead)) ≤ 73
length-write_result is_update lead = omega (
  arith,
  length-spelled (write_result is_update lead),
  fields_length-++ ((codes "n", value.Int32 (pos 1)) ∷ modified is_update) (ok ∷ concern_error lead),
  fields_length-∷ (codes "n") (value.Int32 (pos 1)) (modified is_update),
  fields_length-++ (ok ∷ []) (concern_error lead),
  length-Int32 (pos 1),
  length-modified is_update,
  length-ok,
  length-concern_error lead,
)

-- The array of one text.
length-one : (text : List ℕ) → payload_length (Array (value.Str text ∷ [])) ≤ length text + 15
length-one text =
    omega (arith, length-Array (value.Str text ∷ []), length-append (element (decimal 0) (payload (value.Str text))) [], length-element (decimal 0) (payload (value.Str text)), length-Str text, length-decimal-le 1 0 (omega arith) (omega arith) (omega arith))

pub length-refusal : length (spelled refusal) ≤ 75
length-refusal = omega (
  arith,
  length-spelled refusal,
  fields_length-∷ (codes "ok") double_zero ((codes "code", value.Int32 (pos 10107)) ∷ (codes "errorLabels", Array (value.Str (codes "RetryableWriteError") ∷ [])) ∷ []),
  fields_length-∷ (codes "code") (value.Int32 (pos 10107)) ((codes "errorLabels", Array (value.Str (codes "RetryableWriteError") ∷ [])) ∷ []),
  fields_length-∷ (codes "errorLabels") (Array (value.Str (codes "RetryableWriteError") ∷ [])) [],
  length-Double (0 ∷ 0 ∷ 0 ∷ 0 ∷ 0 ∷ 0 ∷ 0 ∷ 0 ∷ []),
  length-Int32 (pos 10107),
  length-one (codes "RetryableWriteError"),
)

length-cursor : length (spelled empty_cursor) ≡ 34
length-cursor = omega (
  arith,
  length-spelled empty_cursor,
  fields_length-∷ (codes "firstBatch") (Array []) ((codes "id", value.Int64 (pos 0)) ∷ []),
  fields_length-∷ (codes "id") (value.Int64 (pos 0)) [],
  length-Array [],
  length-Int64 (pos 0),
)

pub length-find_reply : length (spelled find_reply) ≡ 59
length-find_reply = omega (arith, length-spelled find_reply, fields_length-∷ (codes "cursor") (Doc empty_cursor) (ok ∷ []), length-Doc empty_cursor, length-cursor, length-ok)

-- ---- A hello

length-role_fields : (m : MemberState) → fields_length (role_fields m) ≡ 32
length-role_fields m = omega (
  arith,
  fields_length-∷ (codes "isWritablePrimary") (value.Bool (takes_writes m)) ((codes "secondary", value.Bool (not (takes_writes m))) ∷ []),
  fields_length-∷ (codes "secondary") (value.Bool (not (takes_writes m))) [],
  length-Bool (takes_writes m),
  length-Bool (not (takes_writes m)),
)

-- The hosts in an array, from a place on.
abbrev hosts_length : ℕ → List Address → ℕ
hosts_length i hosts = length (numbered i (map payload (map host_value hosts)))

hosts_length-le : (hosts : List Address) (i : ℕ) → i + length hosts < 10 ^ 8 → hosts_length i hosts ≤ sum_by host_size hosts
hosts_length-le [] i few = omega arith
hosts_length-le (host ∷ hosts) i few = omega (
  arith,
  length-append (element (decimal i) (payload (host_value host))) (numbered (suc i) (map payload (map host_value hosts))),
  length-element (decimal i) (payload (host_value host)),
  length-Str (address_text host),
  length-decimal-le 8 i (omega arith) (omega (arith, few)) (omega (arith, few)),
  hosts_length-le hosts (suc i) (omega (arith, few)),
  sum_by-cons host_size host hosts,
)

-- There are no more hosts than bytes that are counted for them.
hosts-le : (hosts : List Address) → length hosts ≤ sum_by host_size hosts
hosts-le [] = omega arith
hosts-le (host ∷ hosts) = omega (arith, hosts-le hosts, sum_by-cons host_size host hosts)

length-set_fields : (m : MemberState) → fields_length (set_fields m) ≡ length m.set + hosts_length 0 m.hosts + 42
length-set_fields m = omega (
  arith,
  fields_length-∷ (codes "setName") (value.Str m.set) ((codes "setVersion", value.Int32 (pos 1)) ∷ (codes "hosts", Array (map host_value m.hosts)) ∷ []),
  fields_length-∷ (codes "setVersion") (value.Int32 (pos 1)) ((codes "hosts", Array (map host_value m.hosts)) ∷ []),
  fields_length-∷ (codes "hosts") (Array (map host_value m.hosts)) [],
  length-Str m.set,
  length-Int32 (pos 1),
  length-Array (map host_value m.hosts),
)

own_of-le : (hosts : List Address) (place : ℕ) → length (option_map_or address_text (slice_get hosts place) []) ≤ sum_by host_size hosts
own_of-le [] place = omega arith
own_of-le (host ∷ hosts) zero = omega (arith, sum_by-cons host_size host hosts)
own_of-le (host ∷ hosts) (suc place) = omega (arith, own_of-le hosts place, sum_by-cons host_size host hosts)

length-primary_field : (is_primary : Bool) (text : List ℕ) → fields_length (primary_field is_primary text) ≤ length text + 14
length-primary_field true text = omega (arith, fields_length-∷ (codes "primary") (value.Str text) [], length-Str text)
length-primary_field false text = omega arith

length-own_fields : (m : MemberState) → fields_length (own_fields m) ≤ length (own_text m) + length (own_text m) + 23
length-own_fields m = omega (
  arith,
  fields_length-∷ (codes "me") (value.Str (own_text m)) (primary_field (takes_writes m) (own_text m)),
  length-Str (own_text m),
  length-primary_field (takes_writes m) (own_text m),
)

length-election_fields : (election : Option ℕ) → fields_length (election_fields election) ≤ 24
length-election_fields (Some number) = omega (arith, fields_length-∷ (codes "electionId") (value.Oid (election_id number)) [], length-Oid (election_id number))
length-election_fields None = omega arith

length-limit_fields : fields_length limit_fields ≡ 145
length-limit_fields = omega (
  arith,
  fields_length-∷ (codes "maxBsonObjectSize") (value.Int32 (pos 16777216)) (drop 1 limit_fields),
  fields_length-∷ (codes "maxMessageSizeBytes") (value.Int32 (pos 48000000)) (drop 2 limit_fields),
  fields_length-∷ (codes "maxWriteBatchSize") (value.Int32 (pos 100000)) (drop 3 limit_fields),
  fields_length-∷ (codes "minWireVersion") (value.Int32 (pos 0)) (drop 4 limit_fields),
  fields_length-∷ (codes "maxWireVersion") (value.Int32 (pos 21)) (drop 5 limit_fields),
  fields_length-∷ (codes "logicalSessionTimeoutMinutes") (value.Int32 (pos 30)) [],
  length-Int32 (pos 16777216),
  length-Int32 (pos 48000000),
  length-Int32 (pos 100000),
  length-Int32 (pos 0),
  length-Int32 (pos 21),
  length-Int32 (pos 30),
)

length-topology_version : (m : MemberState) → length (spelled (topology_version m)) ≡ 45
length-topology_version m = omega (
  arith,
  length-spelled (topology_version m),
  fields_length-∷ (codes "processId") (value.Oid (process_id m.place)) ((codes "counter", value.Int64 (pos m.changes)) ∷ []),
  fields_length-∷ (codes "counter") (value.Int64 (pos m.changes)) [],
  length-Oid (process_id m.place),
  length-Int64 (pos m.changes),
)

length-last : (m : MemberState) → fields_length ((codes "topologyVersion", Doc (topology_version m)) ∷ ok ∷ []) ≡ 74
length-last m = omega (arith, fields_length-∷ (codes "topologyVersion") (Doc (topology_version m)) (ok ∷ []), length-Doc (topology_version m), length-topology_version m, length-ok)

length-parts : (a b c d e f : List Field) → fields_length (a ++ b ++ c ++ d ++ e ++ f) ≡ fields_length a + fields_length b + fields_length c + fields_length d + fields_length e + fields_length f
length-parts a b c d e f =
    omega (arith, fields_length-++ (a ++ b ++ c ++ d ++ e) f, fields_length-++ (a ++ b ++ c ++ d) e, fields_length-++ (a ++ b ++ c) d, fields_length-++ (a ++ b) c, fields_length-++ a b)

-- Each of the hosts, the host itself and the primary is within the bound of the hosts.
pub length-hello_reply : (m : MemberState) → sum_by host_size m.hosts ≤ 15000000
    → length (spelled (hello_reply m)) ≤ length m.set + sum_by host_size m.hosts + sum_by host_size m.hosts + sum_by host_size m.hosts + 345
length-hello_reply m few =
    let parts = length-parts (role_fields m) (set_fields m) (own_fields m) (election_fields m.election) limit_fields ((codes "topologyVersion", Doc (topology_version m)) ∷ ok ∷ []) in
    let whole = length-spelled (hello_reply m) ∙ ap (λ n. n + 5) parts in
    omega (
      arith,
      whole,
      length-role_fields m,
      length-set_fields m,
      hosts_length-le m.hosts 0 (omega (arith, few, hosts-le m.hosts)),
      length-own_fields m,
      own_of-le m.hosts m.place,
      length-election_fields m.election,
      length-limit_fields,
      length-last m,
    )
