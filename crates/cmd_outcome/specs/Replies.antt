-- What the reply to a command says (MongoDB, Database Command Response; CRUD, Retryable Writes, SDAM Error handling). Where a name
-- repeats, the first value of it counts.
use Rattle.std.specs.Prelude.{ℕ, ℤ, pos, ◌-◌, ◌^◌, min, Bool, false, List, [], ◌∷◌, length, Option, None, Some, unwrap_or, codes, if◌then◌else◌}
use Rattle.std.specs.List.{list_any}
use Rattle.std.specs.Option.{option_map, option_map_or, option_and_then, option_or}
use Rattle.bson_doc.specs.Documents.{is_one, is_text, value_of}
use Rattle.bson_doc.specs.Readings.{document_of, int32_of, items_of, text_of, version_of, whole_of}
use Rattle.bson_doc.specs.declared.topology_version.TopologyVersion.{TopologyVersion}
use Rattle.bson_doc.specs.declared.value.Document.{Document}
use Rattle.bson_doc.specs.declared.value.Value.{Value}
use Rattle.cmd_outcome.specs.Codes.{state_change_of}
use Rattle.cmd_outcome.specs.declared.reading.Reading.{Reading}
use Rattle.cmd_outcome.specs.declared.reading.ReplyResult.{ReplyResult}
use Rattle.cmd_outcome.specs.declared.reading.ReplyResult.TheVariants as said
use Rattle.cmd_outcome.specs.declared.reading.StateChange.{StateChange}

-- ---- Fields

-- The field's first value.
abbrev pub field : List ℕ → Document → Option Value
field name d = value_of name d.elements

-- The document, the items of the array, and the whole number under a name; none where another kind or nothing stands there.
abbrev pub document_at : List ℕ → Document → Option Document
document_at name d = option_and_then document_of (field name d)

abbrev pub items_at : List ℕ → Document → Option (List Value)
items_at name d = option_and_then items_of (field name d)

abbrev pub whole_at : List ℕ → Document → Option ℤ
whole_at name d = option_and_then whole_of (field name d)

-- The code of an error: an int32; 0 of another kind and where it is absent (own).
abbrev pub code_in : Document → ℤ
code_in d = unwrap_or (option_and_then int32_of (field (codes "code") d)) (pos 0)

-- ---- The result

-- The server carried the command out: `ok` is one.
abbrev pub is_ok : Document → Bool
is_ok reply = option_map_or is_one (field (codes "ok") reply) false

-- What stands in writeErrors; nothing where it is no array.
abbrev pub write_errors : Document → List Value
write_errors reply = unwrap_or (items_at (codes "writeErrors") reply) []

-- The write concern error, where there is one.
abbrev pub concern_error : Document → Option Document
concern_error reply = document_at (codes "writeConcernError") reply

-- The code of a write error, 0 where it is no document.
abbrev pub code_of : Value → ℤ
code_of v = option_map_or code_in (document_of v) (pos 0)

-- How many documents a find's first batch has.
abbrev pub batch_length : Document → Option ℤ
batch_length reply =
    option_map (λ items. pos (min (length items) (2 ^ 63 - 1))) (option_and_then (items_at (codes "firstBatch")) (document_at (codes "cursor") reply))

-- How many documents the command concerned: `n`, else the `n` of lastErrorObject, else the length of the first batch, else 0.
abbrev pub count_in : Document → ℤ
count_in reply =
    unwrap_or (option_or (whole_at (codes "n") reply)
    (option_or (option_and_then (whole_at (codes "n")) (document_at (codes "lastErrorObject") reply))
    (batch_length reply))) (pos 0)

-- How many documents an update modified: `nModified`, else 0.
abbrev pub modified_in : Document → ℤ
modified_in reply = unwrap_or (whole_at (codes "nModified") reply) (pos 0)

-- Of a command that was carried out: a write concern error, else a success.
abbrev pub result_by_concern : Option Document → Document → ReplyResult
result_by_concern (Some concern) reply = said.Concern (code_in concern)
result_by_concern None reply = said.Ok (count_in reply) (modified_in reply)

-- Of a command that was carried out: its write errors, with the first one's code, ahead of a write concern error.
abbrev pub result_by_errors : List Value → Document → ReplyResult
result_by_errors [] reply = result_by_concern (concern_error reply) reply
result_by_errors (first ∷ others) reply = said.WriteErrors (min (length (first ∷ others)) (2 ^ 32 - 1)) (code_of first)

-- What the command came to (CRUD, Error handling): an error where `ok` is not one.
abbrev pub result_in : Document → ReplyResult
result_in reply = if is_ok reply then result_by_errors (write_errors reply) reply else said.Error (code_in reply)

-- ---- What else it says

-- The value is that string.
abbrev pub is_string : List ℕ → Value → Bool
is_string text v = option_map_or (λ found. is_text found text) (text_of v) false

-- The reply has the label, whatever its `ok` (Retryable Writes, errorLabels).
abbrev pub has_label : List ℕ → Document → Bool
has_label text reply = list_any (is_string text) (unwrap_or (items_at (codes "errorLabels") reply) [])

-- The state change that the command's error tells, else the one that the write concern error tells (SDAM, Error handling).
abbrev pub state_in_error : Document → Option StateChange
state_in_error reply = if is_ok reply then None else state_change_of (code_in reply)

abbrev pub state_in_concern : Document → Option StateChange
state_in_concern reply = option_and_then (λ concern. state_change_of (code_in concern)) (concern_error reply)

abbrev pub state_in : Document → Option StateChange
state_in reply = option_or (state_in_error reply) (state_in_concern reply)

-- The server's topology version, where it is whole (SDAM, Topology Version).
abbrev pub version_of_reply : Document → Option TopologyVersion
version_of_reply reply = option_and_then version_of (field (codes "topologyVersion") reply)

-- All that a driver reads of a reply.
abbrev pub reading_of : Document → Reading
reading_of reply = record {
  result = result_in reply;
  retryable = has_label (codes "RetryableWriteError") reply;
  no_writes = has_label (codes "NoWritesPerformed") reply;
  state = state_in reply;
  version = version_of_reply reply;
}
