-- What a turn of a connection does.
use Rattle.std.specs.Prelude.{◌≡◌, ◌%◌, ◌^◌, ℕ, ℤ, pos, Bool, true, false, List}
use Rattle.desk_wire.specs.Exchange.{Exchanges}
use Rattle.desk_wire.specs.State.{State}
use Rattle.desk_wire.specs.declared.answers.Pulled.{Pulled}
use Rattle.desk_wire.specs.declared.answers.Pulled.TheVariants as pulled
use Rattle.member_core.specs.Members.{MemberState, with_answer}
use Rattle.member_core.specs.Replies.{answer_bytes}
use Rattle.msg_wire.specs.declared.message.Message.{Message}
use Rattle.net_link.specs.Causes.{next_count}
use Rattle.net_link.specs.declared.event.NetEvent.{NetEvent}
use Rattle.member_serve.specs.Connections.{ConnectionState}
use Rattle.member_serve.specs.declared.served.Served.{Served}
use Rattle.member_serve.specs.declared.served.Served.TheVariants as served

-- The id of the answer to a stream's request of that number: a number that an int32 holds, and is not negative (own).
abbrev pub id_of : ℕ → ℤ
id_of nth = pos (nth % 2 ^ 31)

-- The connection behind the answer to a message, which the member of a set of one gives as the last elected one: the bytes of
-- the answer are unsent, and one more request is answered.
abbrev pub answered : ConnectionState → MemberState → Message → ConnectionState
answered s member message = record {
  wire = record s.wire { unsent = answer_bytes member message (id_of s.answered) s.wire.stream s.answered true };
  answered = next_count s.answered;
}

-- The member behind that answer.
abbrev pub answering : ConnectionState → MemberState → Message → MemberState
answering s member message = with_answer member message.body s.wire.stream s.answered true

-- The connection with that wire, which answered nothing more.
abbrev pub waiting : ConnectionState → State → ConnectionState
waiting before wire = record { wire = wire; answered = before.answered }

-- What a turn says that answers nothing. After a whole message that is that memory was wanting.
abbrev pub served_as : Pulled → Served
served_as (pulled.Whole message) = served.Memory
served_as pulled.NotYet = served.NotYet
served_as pulled.End = served.End
served_as pulled.Fault = served.Fault
served_as (pulled.Bad first) = served.Bad first
served_as pulled.Memory = served.Memory

-- Whether the connection is over then: its stream is to be closed.
abbrev pub is_end : Served → Bool
is_end served.End = true
is_end served.Fault = true
is_end (served.Bad first) = true
is_end _ = false

-- What becomes of the connection and of the member, by what came: a whole message is answered, unless memory was wanting for
-- that; else both stay as the wire left them.
abbrev pub Comes : ConnectionState → MemberState → Pulled → Served → ConnectionState → MemberState → Type 0
Comes s member (pulled.Whole message) served.Answered now later = (now ≡ answered s member message) × (later ≡ answering s member message)
Comes s member came result now later = (result ≡ served_as came) × (now ≡ s) × (later ≡ member)

-- What is unsent goes out first; bytes are taken only behind all of it, and no more than one message of them; then what came
-- is answered. What was asked of the net is no more than that.
pub record Serves (tells : Type 0) (before now : ConnectionState) (member later : MemberState) (old new : List NetEvent) (result : Served) : Type 0 where
  pub wire : State
  pub came : Pulled
  pub trades : Exchanges tells before.wire wire old new came
  pub comes : Comes (waiting before wire) member came result now later
