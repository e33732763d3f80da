-- What a member answers: one document for each kind of request (MongoDB, hello and find; Retryable Writes, errorLabels; own: which
-- fields stand in it, and their order).
use Rattle.std.specs.Prelude.{ℕ, ℤ, pos, Bool, true, false, not, List, [], ◌∷◌, ◌++◌, map, codes, Option, None, Some, slice_get, if◌then◌else◌}
use Rattle.std.specs.Int.{w32, w64, to_be_bytes}
use Rattle.std.specs.Option.{option_map_or}
use Rattle.bson_doc.specs.Documents.{is_text}
use Rattle.bson_doc.specs.declared.ids.Oid.{Oid}
use Rattle.bson_doc.specs.declared.name.Name.{Name}
use Rattle.bson_doc.specs.declared.value.Document.{Document}
use Rattle.bson_doc.specs.declared.value.Value.{Value, Array, Doc}
use Rattle.bson_doc.specs.declared.value.Value.TheVariants as value
use Rattle.host_name.specs.Addresses.{Address, address_text}
use Rattle.msg_wire.specs.Framing.{frame}
use Rattle.msg_wire.specs.declared.message.Message.{Message}
use Rattle.net_link.specs.declared.event.Effect.{Effect}
use Rattle.net_link.specs.declared.event.Effect.TheVariants.{Added, Known, Refused, Nothing}
use Rattle.member_core.specs.Keys.{command_name}
use Rattle.member_core.specs.Members.{MemberState, effect_of, takes_writes}

-- A pair of a document: a name and its value.
abbrev pub Field : Type 0
Field = Name × Value

-- ---- ok

-- The doubles 1.0 and 0.0 (IEEE 754).
abbrev pub double_one : Value
double_one = value.Double (0 ∷ 0 ∷ 0 ∷ 0 ∷ 0 ∷ 0 ∷ 0xf0 ∷ 0x3f ∷ [])

abbrev pub double_zero : Value
double_zero = value.Double (0 ∷ 0 ∷ 0 ∷ 0 ∷ 0 ∷ 0 ∷ 0 ∷ 0 ∷ [])

abbrev pub ok : Field
ok = (codes "ok", double_one)

abbrev pub plain_ok : Document
plain_ok = record { elements = ok ∷ [] }

-- ---- A write

-- An update tells how many documents it changed (CRUD, nModified).
abbrev pub modified : (is_update : Bool) → List Field
modified true = (codes "nModified", value.Int32 (pos 1)) ∷ []
modified false = []

-- Another member than the last elected one has no majority behind it: WriteConcernFailed (Read and Write Concern,
-- writeConcernError).
abbrev pub concern : Document
concern = record { elements = (codes "code", value.Int32 (pos 64)) ∷ [] }

abbrev pub concern_error : (lead : Bool) → List Field
concern_error true = []
concern_error false = (codes "writeConcernError", Doc concern) ∷ []

-- The result of a write of one document.
abbrev pub write_result : (is_update : Bool) → (lead : Bool) → Document
write_result is_update lead = record {
  elements =
      (codes "n", value.Int32 (pos 1))
      ∷ modified is_update
      ++ ok
      ∷ concern_error lead;
}

-- A write at a member that takes none: NotWritablePrimary, which may be sent again (SDAM, "not writable primary"; Retryable
-- Writes, RetryableWriteError).
abbrev pub refusal : Document
refusal = record {
  elements =
      (codes "ok", double_zero)
      ∷ (codes "code", value.Int32 (pos 10107))
      ∷ (codes "errorLabels", Array (value.Str (codes "RetryableWriteError") ∷ []))
      ∷ [];
}

-- ---- A find

-- A cursor that is at its end, without documents.
abbrev pub empty_cursor : Document
empty_cursor = record { elements = (codes "firstBatch", Array []) ∷ (codes "id", value.Int64 (pos 0)) ∷ [] }

abbrev pub find_reply : Document
find_reply = record { elements = (codes "cursor", Doc empty_cursor) ∷ ok ∷ [] }

-- ---- A hello

-- The role: primary, or secondary.
abbrev pub role_fields : MemberState → List Field
role_fields m = (codes "isWritablePrimary", value.Bool (takes_writes m)) ∷ (codes "secondary", value.Bool (not (takes_writes m))) ∷ []

-- The set, by its name, and all hosts of it.
abbrev pub host_value : Address → Value
host_value host = value.Str (address_text host)

abbrev pub set_fields : MemberState → List Field
set_fields m =
    (codes "setName", value.Str m.set)
    ∷ (codes "setVersion", value.Int32 (pos 1))
    ∷ (codes "hosts", Array (map host_value m.hosts))
    ∷ []

-- Its own host, which a primary names as the primary too.
abbrev pub own_text : MemberState → List ℕ
own_text m = option_map_or address_text (slice_get m.hosts m.place) []

abbrev pub primary_field : Bool → List ℕ → List Field
primary_field true text = (codes "primary", value.Str text) ∷ []
primary_field false text = []

abbrev pub own_fields : MemberState → List Field
own_fields m = (codes "me", value.Str (own_text m)) ∷ primary_field (takes_writes m) (own_text m)

-- The election of a primary: 7f ff ff ff, and its number with the highest byte first.
abbrev pub election_id : ℕ → Oid
election_id number = record { 0 = 0x7f ∷ 0xff ∷ 0xff ∷ 0xff ∷ to_be_bytes w64 number }

abbrev pub election_fields : Option ℕ → List Field
election_fields (Some number) = (codes "electionId", value.Oid (election_id number)) ∷ []
election_fields None = []

-- Documents of 16 MiB, messages of 48,000,000 bytes, 100,000 writes in a command, wire versions 0 to 21, and sessions of 30
-- minutes.
abbrev pub limit_fields : List Field
limit_fields =
    (codes "maxBsonObjectSize", value.Int32 (pos 16777216))
    ∷ (codes "maxMessageSizeBytes", value.Int32 (pos 48000000))
    ∷ (codes "maxWriteBatchSize", value.Int32 (pos 100000))
    ∷ (codes "minWireVersion", value.Int32 (pos 0))
    ∷ (codes "maxWireVersion", value.Int32 (pos 21))
    ∷ (codes "logicalSessionTimeoutMinutes", value.Int32 (pos 30))
    ∷ []

-- The topology version: eight zero bytes and the member's place with the highest byte first, and how often its role changed
-- (SDAM, Topology Version).
abbrev pub process_id : ℕ → Oid
process_id place = record { 0 = 0 ∷ 0 ∷ 0 ∷ 0 ∷ 0 ∷ 0 ∷ 0 ∷ 0 ∷ to_be_bytes w32 place }

abbrev pub topology_version : MemberState → Document
topology_version m = record { elements = (codes "processId", value.Oid (process_id m.place)) ∷ (codes "counter", value.Int64 (pos m.changes)) ∷ [] }

abbrev pub hello_reply : MemberState → Document
hello_reply m = record {
  elements =
      role_fields m
      ++ set_fields m
      ++ own_fields m
      ++ election_fields m.election
      ++ limit_fields
      ++ (codes "topologyVersion", Doc (topology_version m))
      ∷ ok
      ∷ [];
}

-- ---- Any request

-- What is answered where nothing was written: a hello, a find, any other command.
abbrev pub read_reply : MemberState → List ℕ → Document
read_reply m name =
    if is_text name (codes "hello") then hello_reply m
    else if is_text name (codes "find") then find_reply
    else plain_ok

abbrev pub reply_by : MemberState → List ℕ → (lead : Bool) → Effect → Document
reply_by m name lead Added = write_result (is_text name (codes "update")) lead
reply_by m name lead Known = write_result (is_text name (codes "update")) lead
reply_by m name lead Refused = refusal
reply_by m name lead Nothing = read_reply m name

-- The answer of a member to the request with that document, which is the stream's of that number.
abbrev pub reply_of : MemberState → Document → ℕ → ℕ → (lead : Bool) → Document
reply_of m body stream nth lead = reply_by m (command_name body) lead (effect_of m body stream nth)

-- The bytes of it: a message with an id of its own, which answers the request's.
abbrev pub answer_bytes : MemberState → Message → ℤ → ℕ → ℕ → (lead : Bool) → List ℕ
answer_bytes m request id stream nth lead = frame id request.id 0 (reply_of m request.body stream nth lead)
