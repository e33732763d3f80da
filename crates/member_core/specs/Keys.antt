-- What a write is known by: the session's id and the number that its command carries, else where its request stands.
-- own: the standard leaves to servers how they know a write again (Retryable Writes, txnNumber; Driver Sessions, lsid).
use Rattle.std.specs.Prelude.{◌==◌, ◌&&◌, ℕ, ℤ, Bool, false, List, [], ◌∷◌, length, Option, None, Some, codes, if◌then◌else◌}
use Rattle.std.specs.List.{list_any}
use Rattle.std.specs.Option.{option_and_then}
use Rattle.std.specs.Ordering.{int_eq}
use Rattle.bson_doc.specs.Documents.{is_text}
use Rattle.bson_doc.specs.Ids.{is_same_lsid}
use Rattle.bson_doc.specs.Readings.{int64_of}
use Rattle.bson_doc.specs.declared.ids.Lsid.{Lsid}
use Rattle.bson_doc.specs.declared.name.Name.{Name}
use Rattle.bson_doc.specs.declared.value.Document.{Document}
use Rattle.bson_doc.specs.declared.value.Value.{Value}
use Rattle.bson_doc.specs.declared.value.Value.TheVariants as value
use Rattle.cmd_outcome.specs.Replies.{document_at, field}
use Rattle.member_core.specs.declared.key.Key.{Key}
use Rattle.member_core.specs.declared.key.Key.TheVariants.{Numbered, Placed}

-- Two keys are one: of one kind, and the same in both parts.
abbrev pub same_key : Key → Key → Bool
same_key (Numbered a n) (Numbered b m) = is_same_lsid a b && int_eq n m
same_key (Placed s n) (Placed t m) = (s == t) && (n == m)
same_key (Numbered a n) (Placed t m) = false
same_key (Placed s n) (Numbered b m) = false

-- ---- The key of a request

-- A session's id in a value: a UUID, which is a binary of subtype 4 with sixteen bytes (Driver Sessions, lsid; bsonspec 1.1,
-- binary).
abbrev pub id_from : Value → Option Lsid
id_from (value.Binary subtype bytes) = if (subtype == 4) && (length bytes == 16) then Some (record { 0 = bytes }) else None
id_from _ = None

-- The session's id that a command carries: the `id` of its `lsid` (Driver Sessions, lsid).
abbrev pub lsid_of : Document → Option Lsid
lsid_of body = option_and_then (λ lsid. option_and_then id_from (field (codes "id") lsid)) (document_at (codes "lsid") body)

-- The transaction number that it carries, an int64 (Retryable Writes, txnNumber).
abbrev pub number_of : Document → Option ℤ
number_of body = option_and_then int64_of (field (codes "txnNumber") body)

-- Both, else the place: the stream, and the request's number on it, counted from 0.
abbrev pub key_from : Option Lsid → Option ℤ → ℕ → ℕ → Key
key_from (Some lsid) (Some number) stream nth = Numbered lsid number
key_from _ _ stream nth = Placed stream nth

-- The key of a request with this document at that place.
abbrev pub key_of : Document → ℕ → ℕ → Key
key_of body stream nth = key_from (lsid_of body) (number_of body) stream nth

-- ---- Which requests are writes

-- The first name, which is the command's (MongoDB, database commands); empty where there is none.
abbrev pub first_name : List (Name × Value) → List ℕ
first_name [] = []
first_name (e ∷ es) = e.0

abbrev pub command_name : Document → List ℕ
command_name body = first_name body.elements

-- The commands that write (CRUD; own: of those that this product sends).
abbrev pub write_names : List (List ℕ)
write_names = codes "insert" ∷ codes "update" ∷ codes "delete" ∷ codes "findAndModify" ∷ []

abbrev pub is_write : Document → Bool
is_write body = list_any (is_text (command_name body)) write_names
