-- What a turn on a stream heard of the request that waits there, and what an entry may say of it.
use Rattle.std.specs.Prelude.{◌≡◌, ◌≢◌, ◌<◌, ℕ, ℤ, true, false, List, ◌++◌, Option, None, Some, unwrap_or}
use Rattle.msg_wire.specs.Framing.{Framed}
use Rattle.msg_wire.specs.Fronts.{IsFront, IsRefused}
use Rattle.msg_wire.specs.Messages.{Begins}
use Rattle.msg_wire.specs.Places.{place_of, response_to_at}
use Rattle.msg_wire.specs.declared.message.Message.{Message}
use Rattle.net_link.specs.Prefix.{IsPrefixOf}
use Rattle.net_link.specs.Seen.{Seen, seen}
use Rattle.net_link.specs.declared.event.NetEvent.{NetEvent}
use Rattle.desk_wire.specs.declared.answers.Pulled.{Pulled}
use Rattle.desk_wire.specs.declared.answers.Pulled.TheVariants as pulled
use Rattle.desk_trail.specs.declared.entry.CheckHow.TheVariants as check
use Rattle.desk_trail.specs.declared.request.Request.{Request}
use Rattle.desk_trail.specs.Clients.{Client}
use Rattle.desk_trail.specs.States.{ClientState}
use Rattle.desk_trail.specs.Facts.{Fact}
use Rattle.desk_trail.specs.Facts as fact
use Rattle.desk_trail.specs.Streams.{Account, Mention, Result, account, check_stream_of, mention_of}
use Rattle.desk_trail.specs.Streams as told
use Rattle.topo_rules.specs.declared.event.TopoEvent.{TopoEvent}
use Rattle.topo_rules.specs.declared.event.TopoEvent.TheVariants as event
use Rattle.write_retry.specs.declared.attempt_end.AttemptEnd.TheVariants as attempt
use Rattle.write_retry.specs.declared.events.Unsent.TheVariants as unsent
use Rattle.legal_trail.specs.Recorded.{Recorded, told_in}
use Rattle.wired_trail.specs.Lines.{IsThere, Lines}
use Rattle.wired_trail.specs.Wired.{Answers, HasCome, Means, bytes_answered, no_dials_in, no_dials_told}

-- What a trail says of a stream.
abbrev pub told_of : Recorded → ℕ → Account
told_of r stream = account r.client stream (told_in r)

-- What the wire's answer says of what came behind the answers, of the request's bytes, and of the net.
abbrev pub Gave : Pulled → Seen → Request → (front rest : List ℕ) → Type 0
Gave (pulled.Whole message) v r front rest = Framed rest message × (front ≡ r.bytes)
Gave pulled.NotYet v r front rest = IsFront rest × (v.waits ≡ true)
Gave pulled.End v r front rest = IsFront rest × (v.ended ≡ true)
Gave pulled.Fault v r front rest = IsFront rest × (v.fault ≡ true)
Gave (pulled.Bad first) v r front rest = IsRefused rest first
Gave pulled.Memory v r front rest = Unit {0}

-- A turn on a stream gave an answer, behind which the net told this of the stream: the request of that id waits there, and what came
-- behind the answers ahead of it is as the answer says.
pub record Heard (answer : Pulled) (id : ℤ) (v : Seen) (a : Account) : Type 0 where
  pub request : Request
  pub waits : a.last ≡ Some request
  pub same : request.id ≡ id
  pub going : a.how ≡ None
  pub answers : List Message
  pub rest : List ℕ
  pub front : List ℕ
  pub came : Begins v.came answers rest
  pub said : Answers answers a.answered
  pub out : v.out ≡ bytes_answered a.answered ++ front
  pub cut : IsPrefixOf front request.bytes
  pub gave : Gave answer v request front rest

-- What a trail may say of the request of an id, by the answer of a turn on its stream.
abbrev pub IsSaid : Pulled → ℤ → Result → Type 0
IsSaid (pulled.Whole message) id (told.Answered says) = (message.to ≡ id) × Means message says
IsSaid (pulled.Whole message) id (told.Ended (told.Bad at)) = (message.to ≢ id) × (at ≡ response_to_at)
IsSaid (pulled.Whole message) id (told.Ended (told.Lost true past)) = message.to ≢ id
IsSaid pulled.NotYet id (told.Ended told.Late) = Unit {0}
IsSaid pulled.NotYet id (told.Ended (told.Lost false past)) = past ≡ true
IsSaid pulled.End id (told.Ended told.Cut) = Unit {0}
IsSaid pulled.End id (told.Ended (told.Lost false past)) = Unit {0}
IsSaid pulled.Fault id (told.Ended told.Fault) = Unit {0}
IsSaid pulled.Fault id (told.Ended (told.Lost false past)) = Unit {0}
IsSaid (pulled.Bad first) id (told.Ended (told.Bad at)) = at ≡ unwrap_or (place_of first) 0
IsSaid (pulled.Bad first) id (told.Ended (told.Lost true past)) = Unit {0}
IsSaid answer id result = ⊥

-- That was heard on a stream, of which nothing was told since.
pub record IsHeard (history : List NetEvent) (r : Recorded) (stream : ℕ) (result : Result) : Type 0 where
  pub answer : Pulled
  pub id : ℤ
  pub heard : Heard answer id (seen stream history) (told_of r stream)
  pub said : IsSaid answer id result

-- What an entry says of a stream was heard there.
abbrev pub WasHeard : List NetEvent → Recorded → Mention → Type 0
WasHeard history r (told.Asks request) = ⊥
WasHeard history r (told.Tells None result) = Unit {0}
WasHeard history r (told.Tells (Some stream) result) = IsHeard history r stream result
WasHeard history r told.Silent = Unit {0}

abbrev pub TellsHeard : List NetEvent → Recorded → ℕ → Fact → Type 0
TellsHeard history r moment f = WasHeard history r (mention_of r.client r.point.state moment f)

-- An entry says what became of the last request on that stream, or of a greeting for which no stream was dialled.
abbrev pub IsOf : Option ℕ → Mention → Type 0
IsOf stream (told.Tells s result) = s ≡ stream
IsOf stream m = ⊥

-- So an entry does that names no place that is new.
abbrev pub SpeaksOf : Client → ClientState → ℕ → Option ℕ → Fact → Type 0
SpeaksOf client w moment stream (fact.Offered place event taken) = ⊥
SpeaksOf client w moment stream f = IsOf stream (mention_of client w moment f)

-- An event that is a reply's is that of the checks on that stream.
abbrev pub OffersOf : ClientState → Option ℕ → TopoEvent → Type 0
OffersOf w stream (event.Reply description sample) = check_stream_of w description ≡ stream
OffersOf w stream e = Unit {0}

-- A dial gave no stream of which no entry tells yet.
abbrev pub HasUntoldDial : List NetEvent → Recorded → Type 0
HasUntoldDial history r = no_dials_told (told_in r) < no_dials_in history

-- An entry of which a net's history need not be asked: it says nothing of a stream, a dial or a cluster time; and where it begins to
-- use a stream, that is there: that of a check, and that of a new connection.
abbrev pub IsPlain : Lines → Fact → Type 0
IsPlain lines (fact.CheckBegan host stream) = IsThere lines stream
IsPlain lines (fact.CheckEnded host (check.Reply sample)) = Unit {0}
IsPlain lines (fact.CheckEnded host how) = ⊥
IsPlain lines (fact.Offered place event taken) = ⊥
IsPlain lines (fact.Dialled op host conn None) = ⊥
IsPlain lines (fact.Dialled op host conn (Some stream)) = IsThere lines stream
IsPlain lines (fact.Settled op host conn stale) = ⊥
IsPlain lines (fact.NotLent op host (unsent.Dial bad)) = ⊥
IsPlain lines (fact.NotLent op host (unsent.Greeting code)) = ⊥
IsPlain lines (fact.NotLent op host why) = Unit {0}
IsPlain lines (fact.Asked place request) = ⊥
IsPlain lines (fact.Ended op (attempt.Unsent why)) = Unit {0}
IsPlain lines (fact.Ended op end) = ⊥
IsPlain lines (fact.Time stamp) = ⊥
IsPlain lines f = Unit {0}
