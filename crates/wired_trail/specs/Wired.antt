-- How a trail belongs together with what its net told.
use Rattle.std.specs.Prelude.{◌≡◌, ◌≤◌, ◌⊎◌, ℕ, ℤ, pos, Bool, true, false, List, [], ◌∷◌, ◌++◌, Option, None, Some, All, Contains, Err, Ok, filter, flat_map, length}
use Rattle.std.specs.Option.{option_map}
use Rattle.entry_judge.specs.declared.timed.Timed.{Timed}
use Rattle.bson_doc.specs.declared.cluster_time.ClusterTime.{ClusterTime}
use Rattle.bson_doc.specs.declared.value.Document.{Document}
use Rattle.host_name.specs.Addresses.{Address}
use Rattle.hello_reply.specs.Descriptions.{describes}
use Rattle.hello_reply.specs.declared.fault.ReplyFault.{ReplyFault}
use Rattle.cmd_outcome.specs.Replies.{reading_of, result_in}
use Rattle.cmd_outcome.specs.Times.{time_in}
use Rattle.cmd_outcome.specs.declared.reading.ReplyResult.{ReplyResult}
use Rattle.cmd_outcome.specs.declared.reading.ReplyResult.TheVariants as reply
use Rattle.msg_wire.specs.Fronts.{IsFront}
use Rattle.msg_wire.specs.Messages.{Begins}
use Rattle.msg_wire.specs.Places.{AnswersAnother, IsFaultyAt}
use Rattle.msg_wire.specs.declared.message.Message.{Message}
use Rattle.net_link.specs.Prefix.{IsPrefixOf}
use Rattle.net_link.specs.Seen.{Seen, seen}
use Rattle.net_link.specs.declared.event.NetEvent.{NetEvent}
use Rattle.net_link.specs.declared.event.NetEvent.TheVariants as event
use Rattle.desk_trail.specs.declared.entry.CheckHow.TheVariants as check
use Rattle.desk_trail.specs.declared.request.Request.{Request}
use Rattle.desk_trail.specs.Clients.{Client}
use Rattle.desk_trail.specs.Facts.{Fact}
use Rattle.desk_trail.specs.Facts as fact
use Rattle.desk_trail.specs.Streams.{Account, Exchange, Says, Unanswered, account}
use Rattle.desk_trail.specs.Streams as told

-- ---- What an answer means

abbrev pub IsNoError : ReplyResult → Type 0
IsNoError (reply.Error code) = ⊥
IsNoError r = Unit {0}

-- No server is described by a hello's reply, since a field of it is at fault, or too many hosts are listed (MongoDB Handshake).
pub record IsNoHello (body : Document) : Type 0 where
  pub host : Address
  pub fault : ReplyFault
  pub refused : describes body.elements host ≡ Err fault

-- What a trail says of an answer is what the message means: a command's reply by its reading; a check's by the description that it
-- gives; a refusal by the code of an error, or, of a check's hello, by none where the reply describes no server or none is taken in
-- any more; and a greeting that is not refused is no error.
abbrev pub Means : Message → Says → Type 0
Means m (told.Reply reading) = reading ≡ reading_of m.body
Means m (told.Hello description) = IsNoError (result_in m.body) × (describes m.body.elements description.host ≡ Ok description)
Means m (told.HelloRefused code full) =
    (result_in m.body ≡ reply.Error code) ⊎ ((code ≡ pos 0) × IsNoError (result_in m.body) × (IsNoHello m.body ⊎ (full ≡ true)))
Means m (told.Refused code) = result_in m.body ≡ reply.Error code
Means m told.Greeted = IsNoError (result_in m.body)

-- ---- One stream

-- The k-th message answers the k-th request, by its responseTo, and means what the trail says of it (MongoDB wire protocol,
-- Standard Message Header).
abbrev pub Answers : List Message → List Exchange → Type 0
Answers [] [] = Unit {0}
Answers (m ∷ ms) (x ∷ xs) = (m.to ≡ x.request.id) × Means m x.says × Answers ms xs
Answers _ _ = ⊥

-- The bytes of the requests that were answered, and of the one behind them.
abbrev pub bytes_answered : List Exchange → List ℕ
bytes_answered xs = flat_map (λ x. x.request.bytes) xs

abbrev pub bytes_of : Option Request → List ℕ
bytes_of None = []
bytes_of (Some r) = r.bytes

-- What came is no answer to the request of that id, at that place: no message, or one that answers another request.
abbrev pub IsNoAnswer : ℤ → List ℕ → ℕ → Type 0
IsNoAnswer id rest at = IsFaultyAt rest at ⊎ AnswersAnother id rest at

-- Why a request has no answer, by what the net told of its stream and what came behind the answers: the peer ended it, a call on it
-- failed, the net had no more to take or give, or what came is no answer. A connection whose greeting was not answered is lost for
-- one of these, the third only where connectTimeoutMS was over.
abbrev pub Explains : Seen → List ℕ → Request → Unanswered → Type 0
Explains v rest r told.Cut = IsFront rest × (v.ended ≡ true)
Explains v rest r told.Fault = IsFront rest × (v.fault ≡ true)
Explains v rest r told.Late = IsFront rest × (v.waits ≡ true)
Explains v rest r (told.Bad at) = IsNoAnswer r.id rest at
Explains v rest r (told.Lost true past) = (at : ℕ) × IsNoAnswer r.id rest at
Explains v rest r (told.Lost false past) = IsFront rest × ((v.ended ≡ true) ⊎ (v.fault ≡ true) ⊎ (v.waits ≡ true) × (past ≡ true))

abbrev pub IsExplained : Seen → List ℕ → Option Request → Option Unanswered → Type 0
IsExplained v rest last None = Unit {0}
IsExplained v rest None (Some how) = ⊥
IsExplained v rest (Some r) (Some how) = Explains v rest r how

-- What the net told of a stream, and what the trail says of it: the bytes that came are the answers, in order, and a rest; the
-- bytes out are those of the requests that were answered, whole, and a front of the one behind them; and where that one has no
-- answer, stream and rest say why.
pub record IsStreamWired (v : Seen) (a : Account) : Type 0 where
  pub answers : List Message
  pub rest : List ℕ
  pub front : List ℕ
  pub came : Begins v.came answers rest
  pub said : Answers answers a.answered
  pub out : v.out ≡ bytes_answered a.answered ++ front
  pub cut : IsPrefixOf front (bytes_of a.last)
  pub explained : IsExplained v rest a.last a.how

-- ---- Dials and times

-- A dial gave no stream.
abbrev pub is_no_dial : NetEvent → Bool
is_no_dial (event.NoDial address) = true
is_no_dial e = false

-- So an entry says, of a check or of a connection.
abbrev pub says_no_dial : Fact → Bool
says_no_dial (fact.CheckEnded host check.NoDial) = true
says_no_dial (fact.Dialled op host conn None) = true
says_no_dial f = false

abbrev pub no_dials_in : List NetEvent → ℕ
no_dials_in history = length (filter is_no_dial history)

abbrev pub no_dials_told : List (Timed Fact) → ℕ
no_dials_told facts = length (filter (λ (t : Timed Fact). says_no_dial t.what) facts)

-- A cluster time of that stamp came on some stream, in a whole message (Driver Sessions, Gossipping the cluster time).
pub record HasCome (history : List NetEvent) (stamp : ℕ) : Type 0 where
  pub stream : ℕ
  pub messages : List Message
  pub rest : List ℕ
  pub came : Begins (seen stream history).came messages rest
  pub message : Message
  pub among : Contains messages message
  pub carries : option_map (λ (t : ClusterTime). t.stamp) (time_in message.body) ≡ Some stamp

-- An entry tells only of a time that came.
abbrev pub IfTime : List NetEvent → Fact → Type 0
IfTime history (fact.Time stamp) = HasCome history stamp
IfTime history f = Unit {0}

-- ---- A trail

-- Each stream is wired; each dial that gave no stream, by the trail, has one of its own in the history; and each cluster time of the
-- trail came (own: what makes a trail one of what happened).
pub record IsWired (client : Client) (history : List NetEvent) (facts : List (Timed Fact)) : Type 0 where
  pub streams : (stream : ℕ) → IsStreamWired (seen stream history) (account client stream facts)
  pub dials : no_dials_told facts ≤ no_dials_in history
  pub times : All (λ (t : Timed Fact). IfTime history t.what) facts
