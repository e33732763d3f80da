-- By which keys members know a client's requests.
-- own: members know a write that comes again by its session's id and its number (Retryable Writes), one without them by its place.
use Rattle.std.specs.Prelude.{◌≡◌, ℕ, pos, slice_get}
use Rattle.bson_doc.specs.declared.value.Document.{Document}
use Rattle.member_core.specs.Keys.{is_write}
use Rattle.member_core.specs.Logs.{key_in}
use Rattle.member_core.specs.declared.key.Key.{Key}
use Rattle.msg_wire.specs.Framing.{Framed, message_of}
use Rattle.msg_wire.specs.Messages.{messages}
use Rattle.desk_trail.specs.declared.request.Request.{Request}
use Rattle.desk_trail.specs.Clients.{Client}
use Rattle.request_keys.specs.Requests.{is_of_write}

-- That of the message whose bytes the request has, at that place.
abbrev pub key_of_request : Request → ℕ → ℕ → Key
key_of_request r stream nth = key_in (slice_get (messages r.bytes) 0) stream nth

-- The request's bytes frame one message, with the request's id; members take it for a write exactly where it is a command's that
-- may change data (MongoDB wire protocol, OP_MSG; CRUD).
pub record IsSeenAs (client : Client) (r : Request) : Type 0 where
  pub body : Document
  pub framed : Framed r.bytes (message_of r.id (pos 0) 0 body)
  pub writes : is_write body ≡ is_of_write client r.purpose
