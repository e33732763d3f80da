-- What becomes of a request that came whole.
-- own: members that are played, and rules of a plan for their next write requests.
use Rattle.std.specs.Prelude.{ℕ, ℤ, pos, ◌+◌, ◌-◌, ◌^◌, ◌%◌, min, Bool, true, false, ◌||◌, List, [], ◌∷◌, ◌++◌, drop, codes, Option, None, Some, if◌then◌else◌, slice_get, nat_le}
use Rattle.bson_doc.specs.declared.value.Document.{Document}
use Rattle.bson_doc.specs.declared.value.Value.{Value, Array}
use Rattle.bson_doc.specs.declared.value.Value.TheVariants as value
use Rattle.msg_wire.specs.Framing.{Framed, frame, message_of}
use Rattle.msg_wire.specs.declared.message.Message.{Message}
use Rattle.net_link.specs.declared.event.NetEvent.{NetEvent}
use Rattle.net_link.specs.declared.event.NetEvent.TheVariants as event
use Rattle.net_link.specs.declared.event.Effect.TheVariants as effect
use Rattle.member_core.specs.Keys.{is_write}
use Rattle.member_core.specs.Members.{MemberState, effect_of, with_answer}
use Rattle.member_core.specs.Replies.{Field, answer_bytes, double_zero, reply_of}
use Rattle.member_hall.specs.declared.late.LateRequest.{LateRequest}
use Rattle.member_hall.specs.declared.place.Place.{Place}
use Rattle.member_hall.specs.declared.rule.Rule.{Rule}
use Rattle.member_hall.specs.declared.rule.Rule.TheVariants as rule
use Rattle.member_hall.specs.Halls.{PeerState}
use Rattle.member_hall.specs.Lines.{LineState, end_line}

-- ---- The answer to a write that is refused

-- The labels that the error has (Retryable Writes, RetryableWriteError and NoWritesPerformed).
abbrev pub label : Bool → List ℕ → List Value
label true name = value.Str name ∷ []
label false name = []

abbrev pub labels : (retryable no_writes : Bool) → List Value
labels retryable no_writes = label retryable (codes "RetryableWriteError") ++ label no_writes (codes "NoWritesPerformed")

-- The field of labels stands only where there are some, as servers do.
abbrev pub label_field : (any : Bool) → List Value → List Field
label_field true some = (codes "errorLabels", Array some) ∷ []
label_field false some = []

abbrev pub refusal : ℤ → (retryable no_writes : Bool) → Document
refusal code retryable no_writes = record {
  elements =
      (codes "ok", double_zero)
      ∷ (codes "code", value.Int32 code)
      ∷ label_field (retryable || no_writes) (labels retryable no_writes);
}

-- The id of the answer to the request of that number.
abbrev pub id_of : ℕ → ℤ
id_of nth = pos (nth % 2 ^ 31)

-- ---- The parts of what is done

-- What a request concerns: its member, its stream, and the history.
pub record Scene : Type 0 where
  pub peer : PeerState
  pub line : LineState
  pub events : List NetEvent

abbrev pub scene : PeerState → LineState → List NetEvent → Scene
scene peer line events = record { peer = peer; line = line; events = events }

-- So many turns later, as a count holds it (own: the greatest u64 stays).
abbrev pub later : ℕ → ℕ → ℕ
later turn turns = min (turn + turns) (2 ^ 64 - 1)

-- From which turn on an answer can be read: at once, but for the member's next hold.
abbrev pub due_by : ℕ → List ℕ → ℕ
due_by turn [] = turn
due_by turn (turns ∷ holds) = later turn turns

-- The member handles the request, and the history tells it.
abbrev pub handled : Place → Message → Scene → Scene
handled at message s = record s {
  peer = record s.peer { member = with_answer s.peer.member message.body at.stream at.nth at.lead };
  events = s.events ++ event.Handled at.member at.stream at.nth (effect_of s.peer.member message.body at.stream at.nth) ∷ [];
}

-- It is refused, and the history tells it.
abbrev pub refused : Place → Scene → Scene
refused at s = record s { events = s.events ++ event.Handled at.member at.stream at.nth effect.Refused ∷ [] }

-- It is answered by these bytes: the answer stands behind the others, and the request is done with.
abbrev pub answered : Place → Message → List ℕ → Scene → Scene
answered at message bytes s = record s {
  peer = record s.peer { holds = drop 1 s.peer.holds };
  line = record s.line {
    count = s.line.count + 1;
    rest = drop message.length s.line.rest;
    answers = s.line.answers ++ record { due = due_by at.turn s.peer.holds; bytes = bytes } ∷ [];
  };
}

-- The member ends the stream.
abbrev pub ended : Place → Scene → Scene
ended at s = record s { line = end_line at.turn s.line }

-- The request was handled, and is not answered.
abbrev pub counted : Scene → Scene
counted s = record s { line = record s.line { count = s.line.count + 1 } }

-- It is kept for a later turn.
abbrev pub kept : ℕ → Message → Scene → Scene
kept due message s = record s { line = record s.line { late = Some (record { due = due; message = message }) } }

-- The member's next rule is used up.
abbrev pub used : Scene → Scene
used s = record s { peer = record s.peer { rules = drop 1 s.peer.rules } }

-- ---- A request

-- What it meets: a write the member's next rule, any other request none.
abbrev pub rule_of : PeerState → Message → Option Rule
rule_of peer message = if is_write message.body then slice_get peer.rules 0 else None

-- It is handled and answered, but where a rule says otherwise: it is never handled, and the stream ends; it is handled, and
-- the stream ends; the stream ends, and it is handled later; it is refused.
abbrev pub request_by : Option Rule → Place → Message → Scene → Scene
request_by None at message s = answered at message (answer_bytes s.peer.member message (id_of at.nth) at.stream at.nth at.lead) (handled at message s)
request_by (Some rule.Drop) at message s = ended at (used s)
request_by (Some rule.Mute) at message s = counted (ended at (used (handled at message s)))
request_by (Some (rule.Late turns)) at message s = kept (later at.turn turns) message (ended at (used s))
request_by (Some (rule.Refuse code retryable no_writes)) at message s =
    answered at message (frame (id_of at.nth) message.id 0 (refusal code retryable no_writes)) (used (refused at s))

abbrev pub request : Place → Message → Scene → Scene
request at message s = request_by (rule_of s.peer message) at message s

-- The bytes that it is answered by are those of one message.
abbrev pub IsFramedBy : Option Rule → Place → Message → MemberState → Type 0
IsFramedBy None at message m =
    Framed (answer_bytes m message (id_of at.nth) at.stream at.nth at.lead) (message_of (id_of at.nth) message.id 0 (reply_of m message.body at.stream at.nth at.lead))
IsFramedBy (Some (rule.Refuse code retryable no_writes)) at message m =
    Framed (frame (id_of at.nth) message.id 0 (refusal code retryable no_writes)) (message_of (id_of at.nth) message.id 0 (refusal code retryable no_writes))
IsFramedBy _ at message m = Unit {0}

-- A request whose turn has come is handled. Its answer is lost.
abbrev pub handled_late : Place → Message → Scene → Scene
handled_late at message s =
    let done : Scene = counted (handled at message s) in
    record done { line = record done.line { late = None } }

-- It is handled if its turn has come.
abbrev pub late_scene : Option LateRequest → Place → Scene → Scene
late_scene None at s = s
late_scene (Some late) at s = if nat_le late.due at.turn then handled_late at late.message s else s
