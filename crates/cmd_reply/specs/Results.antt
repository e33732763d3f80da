-- What came of a request, by what the wire of its stream answered (MongoDB wire protocol, OP_MSG; Retryable Writes; MongoDB
-- Handshake).
use Rattle.std.specs.Prelude.{ℕ, ℤ, true, false, Option, None, Some, unwrap_or, nat_lt, if◌then◌else◌}
use Rattle.std.specs.Ordering.{int_eq}
use Rattle.bson_doc.specs.declared.cluster_time.ClusterTime.{ClusterTime}
use Rattle.cmd_outcome.specs.Replies.{reading_of, result_in}
use Rattle.cmd_outcome.specs.Times.{time_in}
use Rattle.cmd_outcome.specs.declared.reading.ReplyResult.{ReplyResult}
use Rattle.cmd_outcome.specs.declared.reading.ReplyResult.TheVariants as result
use Rattle.desk_wire.specs.declared.answers.Pulled.{Pulled}
use Rattle.desk_wire.specs.declared.answers.Pulled.TheVariants as pulled
use Rattle.msg_wire.specs.Places.{place_of, response_to_at}
use Rattle.msg_wire.specs.declared.fault.MsgFault.{MsgFault}
use Rattle.msg_wire.specs.declared.message.Message.{Message}
use Rattle.write_retry.specs.declared.attempt_end.AttemptEnd.{AttemptEnd}
use Rattle.write_retry.specs.declared.attempt_end.AttemptEnd.TheVariants as attempt
use Rattle.cmd_reply.specs.declared.attempt.AttemptResult.{AttemptResult}
use Rattle.cmd_reply.specs.declared.greeting.GreetingResult.{GreetingResult}
use Rattle.cmd_reply.specs.declared.greeting.GreetingResult.TheVariants as greeting
use Rattle.cmd_reply.specs.declared.waiting.Waiting.{Waiting}

-- The place at which what came is no message; 0 where the fault names none.
abbrev pub place_at : MsgFault → ℕ
place_at fault = unwrap_or (place_of fault) 0

-- ---- A command's request

-- An attempt that ended without a reply.
abbrev pub ended : AttemptEnd → AttemptResult
ended end = record { end = end; time = None }

-- A message answers the request of that id, and is its reply; or it does not, which its responseTo tells (own: at the place of that field).
abbrev pub reply_result_of : ℤ → Message → AttemptResult
reply_result_of id m =
    if int_eq m.to id then record { end = attempt.Replied (reading_of m.body); time = time_in m.body } else ended (attempt.Bad response_to_at)

-- How an attempt ended: late where the moment reached the limit, and nothing whole came (URI Options, socketTimeoutMS).
abbrev pub attempt_result_of : Waiting → ℕ → Pulled → Option AttemptResult
attempt_result_of w moment (pulled.Whole m) = Some (reply_result_of w.id m)
attempt_result_of w moment pulled.NotYet = if nat_lt moment w.limit then None else Some (ended attempt.TimedOut)
attempt_result_of w moment pulled.End = Some (ended attempt.Cut)
attempt_result_of w moment pulled.Fault = Some (ended attempt.Fault)
attempt_result_of w moment (pulled.Bad fault) = Some (ended (attempt.Bad (place_at fault)))
attempt_result_of w moment pulled.Memory = None

-- ---- A greeting

-- A reply refuses it where it is an error.
abbrev pub greeted_by : ReplyResult → Option ClusterTime → GreetingResult
greeted_by (result.Error code) time = greeting.Refused code time
greeted_by r time = greeting.Greeted time

abbrev pub greeting_said : ℤ → Message → GreetingResult
greeting_said id m = if int_eq m.to id then greeted_by (result_in m.body) (time_in m.body) else greeting.Lost true

-- What came of it: late where the moment reached the limit, and nothing whole came (URI Options, connectTimeoutMS).
abbrev pub greeting_result_of : Waiting → ℕ → Pulled → Option GreetingResult
greeting_result_of w moment (pulled.Whole m) = Some (greeting_said w.id m)
greeting_result_of w moment pulled.NotYet = if nat_lt moment w.limit then None else Some (greeting.Lost false)
greeting_result_of w moment pulled.End = Some (greeting.Lost false)
greeting_result_of w moment pulled.Fault = Some (greeting.Lost false)
greeting_result_of w moment (pulled.Bad fault) = Some (greeting.Lost true)
greeting_result_of w moment pulled.Memory = None
