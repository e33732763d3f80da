-- What private functions hand on of what was heard on a stream, from the turn that heard it to the entry that tells it.
use Rattle.std.specs.Prelude.{◌≡◌, ℕ, ℤ, List, Option, None, Some, IfSome, nat_le}
use Rattle.bson_doc.specs.declared.cluster_time.ClusterTime.{ClusterTime}
use Rattle.cmd_outcome.specs.Times.{time_in}
use Rattle.cmd_reply.specs.Results.{attempt_result_of, greeting_result_of}
use Rattle.cmd_reply.specs.declared.attempt.AttemptResult.{AttemptResult}
use Rattle.cmd_reply.specs.declared.greeting.GreetingResult.{GreetingResult}
use Rattle.cmd_reply.specs.declared.waiting.Waiting.{Waiting}
use Rattle.desk_wire.specs.declared.answers.Pulled.{Pulled}
use Rattle.desk_wire.specs.declared.answers.Pulled.TheVariants as pulled
use Rattle.net_link.specs.Seen.{seen}
use Rattle.net_link.specs.declared.event.NetEvent.{NetEvent}
use Rattle.topo_rules.specs.declared.event.TopoEvent.{TopoEvent}
use Rattle.topo_rules.specs.declared.event.TopoEvent.TheVariants as event
use Rattle.desk_trail.specs.declared.entry.CheckHow.{CheckHow}
use Rattle.desk_trail.specs.declared.entry.CheckHow.TheVariants as how
use Rattle.desk_trail.specs.States.{ClientState}
use Rattle.desk_trail.specs.Streams.{MOST_HOSTS, check_stream_of, of_offered}
use Rattle.desk_trail.specs.Streams as told
use Rattle.legal_trail.specs.Recorded.{Recorded}
use Rattle.wired_trail.specs.Hearing.{Heard, IsHeard, IsSaid, WasHeard, told_of}
use Rattle.wired_trail.specs.Wired.{HasCome}

-- A turn on the stream of a request gave an answer, by which its attempt came to that; and so for a greeting.
pub record HearsAttempt (history : List NetEvent) (r : Recorded) (stream : ℕ) (w : Waiting) (moment : ℕ) (result : AttemptResult) : Type 0 where
  pub answer : Pulled
  pub heard : Heard answer w.id (seen stream history) (told_of r stream)
  pub is : attempt_result_of w moment answer ≡ Some result

pub record HearsGreeting (history : List NetEvent) (r : Recorded) (stream : ℕ) (w : Waiting) (moment : ℕ) (result : GreetingResult) : Type 0 where
  pub answer : Pulled
  pub heard : Heard answer w.id (seen stream history) (told_of r stream)
  pub is : greeting_result_of w moment answer ≡ Some result

-- What the end of a check says of its hello, which had that id, where so many hosts had been named.
abbrev pub SaysCheck : Pulled → ℤ → ℕ → CheckHow → TopoEvent → Type 0
SaysCheck answer id hosts (how.Reply sample) (event.Reply description s) = IsSaid answer id (told.Answered (told.Hello description))
SaysCheck answer id hosts (how.Reply sample) e = ⊥
SaysCheck answer id hosts (how.Refused code) e = IsSaid answer id (told.Answered (told.HelloRefused code (nat_le MOST_HOSTS hosts)))
SaysCheck answer id hosts how.Cut e = IsSaid answer id (told.Ended told.Cut)
SaysCheck answer id hosts how.Fault e = IsSaid answer id (told.Ended told.Fault)
SaysCheck answer id hosts how.Late e = IsSaid answer id (told.Ended told.Late)
SaysCheck answer id hosts (how.Bad at) e = IsSaid answer id (told.Ended (told.Bad at))
SaysCheck answer id hosts how.NoDial e = ⊥

-- A cluster time is that of a whole message.
abbrev pub Carries : Pulled → Option ClusterTime → Type 0
Carries answer None = Unit {0}
Carries (pulled.Whole message) (Some time) = time_in message.body ≡ Some time
Carries answer (Some time) = ⊥

-- A turn on the stream of a check's hello gave an answer, which its end says, and whose cluster time it is.
pub record HearsCheck (history : List NetEvent) (r : Recorded) (stream : ℕ) (id : ℤ) (hosts : ℕ) (how : CheckHow) (event : TopoEvent) (time : Option ClusterTime) : Type 0 where
  pub answer : Pulled
  pub heard : Heard answer id (seen stream history) (told_of r stream)
  pub says : SaysCheck answer id hosts how event
  pub carries : Carries answer time

-- A cluster time came, where there is one.
abbrev pub HasComeWith : List NetEvent → Option ClusterTime → Type 0
HasComeWith history time = IfSome time (λ (t : ClusterTime). HasCome history t.stamp)

-- An event that is a reply's was heard on the stream of its server's checks.
abbrev pub OffersHeard : List NetEvent → Recorded → TopoEvent → Type 0
OffersHeard history r e = WasHeard history r (of_offered r.point.state e)

-- A reply that is to be offered was heard on that stream, which is that of its server's checks.
abbrev pub HeardReply : List NetEvent → Recorded → ℕ → TopoEvent → Type 0
HeardReply history r stream (event.Reply description sample) = IsHeard history r stream (told.Answered (told.Hello description))
HeardReply history r stream e = Unit {0}

abbrev pub IsReplyOn : ClientState → ℕ → TopoEvent → Type 0
IsReplyOn w stream (event.Reply description sample) = check_stream_of w description ≡ Some stream
IsReplyOn w stream e = Unit {0}

-- An event is not a reply's.
abbrev pub IsNoReply : TopoEvent → Type 0
IsNoReply (event.Reply description sample) = ⊥
IsNoReply e = Unit {0}
