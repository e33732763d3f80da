-- What a trail says of each stream: the requests that were asked on it, in order, and what became of them. It is the trail's side
-- of what a net's history says of the stream.
use Rattle.std.specs.Prelude.{ℕ, ℤ, ◌+◌, Bool, false, ◌==◌, List, [], ◌∷◌, ◌++◌, Option, None, Some, fold, length, nat_le, slice_get, if◌then◌else◌}
use Rattle.std.specs.Option.{option_and_then, option_map_or}
use Rattle.entry_judge.specs.declared.timed.Timed.{Timed}
use Rattle.cmd_outcome.specs.declared.reading.Reading.{Reading}
use Rattle.hello_reply.specs.declared.server_description.ServerDescription.{ServerDescription}
use Rattle.topo_rules.specs.declared.event.TopoEvent.{TopoEvent}
use Rattle.topo_rules.specs.declared.event.TopoEvent.TheVariants as event
use Rattle.write_retry.specs.declared.attempt_end.AttemptEnd.{AttemptEnd}
use Rattle.write_retry.specs.declared.attempt_end.AttemptEnd.TheVariants as attempt
use Rattle.write_retry.specs.declared.events.Unsent.{Unsent}
use Rattle.write_retry.specs.declared.events.Unsent.TheVariants as unsent
use Rattle.desk_trail.specs.declared.entry.CheckHow.{CheckHow}
use Rattle.desk_trail.specs.declared.entry.CheckHow.TheVariants as check
use Rattle.desk_trail.specs.declared.request.Request.{Request}
use Rattle.desk_trail.specs.Checks.{kept_at}
use Rattle.desk_trail.specs.Clients.{Client, connect_limit}
use Rattle.desk_trail.specs.Facts.{Fact}
use Rattle.desk_trail.specs.Facts as fact
use Rattle.desk_trail.specs.Legal.{Point, beginning, point_after}
use Rattle.desk_trail.specs.Pools.{check_out_of}
use Rattle.desk_trail.specs.States.{CheckOut, ClientState, CommandState, Dials, Has, number_of, stream_of}

-- ---- What a trail says of a request

-- What it says of an answer: what a command's reply says; the description as which a check's reply was offered; that a check's
-- hello was refused, with its code, and whether so many hosts had been named that no reply is taken in; that the greeting of a
-- new connection was refused, with its code; that it was not.
pub data Says : Type 0 where
  Reply : (reading : Reading) → Says
  Hello : (description : ServerDescription) → Says
  HelloRefused : (code : ℤ) (full : Bool) → Says
  Refused : (code : ℤ) → Says
  Greeted : Says

-- Why there is no answer: the peer ended the stream, a call of the net failed, none came in time, or what came is none, at that
-- place. Of a greeting the trail says no more than that its connection was lost, whether what came is no answer, and whether
-- connectTimeoutMS was over.
pub data Unanswered : Type 0 where
  Cut : Unanswered
  Fault : Unanswered
  Late : Unanswered
  Bad : (at : ℕ) → Unanswered
  Lost : (bad past : Bool) → Unanswered

-- What became of a request: it was answered, or it was not.
pub data Result : Type 0 where
  Answered : (says : Says) → Result
  Ended : (how : Unanswered) → Result

-- What an entry says of a stream: a request is asked on it; the last request on it came to that; or it says nothing of one.
pub data Mention : Type 0 where
  Asks : (request : Request) → Mention
  Tells : (stream : Option ℕ) (result : Result) → Mention
  Silent : Mention

-- ---- Of which stream an entry speaks

-- The stream of a connection of a host's pool.
abbrev pub conn_stream_at : ClientState → ℕ → ℕ → Option ℕ
conn_stream_at w host conn = option_and_then (λ s. stream_of s conn) (slice_get w.servers host)

-- That of the connection which a command dialled, or which is lent to it.
abbrev pub held_stream : ClientState → CheckOut → Option ℕ
held_stream w (Dials host ticket conn) = conn_stream_at w host conn
held_stream w (Has host ticket conn) = conn_stream_at w host conn
held_stream w h = None

abbrev pub stream_at : ClientState → ℕ → Option ℕ
stream_at w op = option_and_then (held_stream w) (check_out_of w op)

-- That of a server's checks, by its address.
abbrev pub check_stream_of : ClientState → ServerDescription → Option ℕ
check_stream_of w description = option_and_then (kept_at w) (number_of w description.host)

-- ---- What an entry says of its stream

-- From so many hosts on that were named, no reply to a check is taken in (own: so that a number is always left for a host).
abbrev pub MOST_HOSTS : ℕ
MOST_HOSTS = 4294000000

abbrev pub of_check : ClientState → ℕ → CheckHow → Mention
of_check w host (check.Reply sample) = Silent
of_check w host (check.Refused code) = Tells (kept_at w host) (Answered (HelloRefused code (nat_le MOST_HOSTS (length w.servers))))
of_check w host check.Cut = Tells (kept_at w host) (Ended Cut)
of_check w host check.Fault = Tells (kept_at w host) (Ended Fault)
of_check w host check.Late = Tells (kept_at w host) (Ended Late)
of_check w host (check.Bad at) = Tells (kept_at w host) (Ended (Bad at))
of_check w host check.NoDial = Silent

-- A check's reply is told by the event that is offered of it.
abbrev pub of_offered : ClientState → TopoEvent → Mention
of_offered w (event.Reply description sample) = Tells (check_stream_of w description) (Answered (Hello description))
of_offered w e = Silent

abbrev pub of_end : ClientState → ℕ → AttemptEnd → Mention
of_end w op (attempt.Replied reading) = Tells (stream_at w op) (Answered (Reply reading))
of_end w op attempt.Cut = Tells (stream_at w op) (Ended Cut)
of_end w op attempt.Fault = Tells (stream_at w op) (Ended Fault)
of_end w op attempt.TimedOut = Tells (stream_at w op) (Ended Late)
of_end w op (attempt.Bad at) = Tells (stream_at w op) (Ended (Bad at))
of_end w op (attempt.Unsent u) = Silent

-- connectTimeoutMS is over at a moment for the connection that a command dialled (URI Options, connectTimeoutMS).
abbrev pub is_past : Client → ℕ → Option ℕ → Bool
is_past client moment None = false
is_past client moment (Some dialled) = nat_le (dialled + connect_limit client) moment

abbrev pub dialled_at : ClientState → ℕ → Option ℕ
dialled_at w op = option_and_then (λ (c : CommandState). c.dialled) (slice_get w.commands op)

abbrev pub of_not_lent : Client → ClientState → ℕ → ℕ → Unsent → Mention
of_not_lent client w moment op (unsent.Greeting code) = Tells (stream_at w op) (Answered (Refused code))
of_not_lent client w moment op (unsent.Dial bad) = Tells (stream_at w op) (Ended (Lost bad (is_past client moment (dialled_at w op))))
of_not_lent client w moment op u = Silent

-- What an entry of a moment says of a stream, where the client is in that state ahead of it.
abbrev pub mention_of : Client → ClientState → ℕ → Fact → Mention
mention_of client w moment (fact.Asked place request) = Asks request
mention_of client w moment (fact.CheckEnded host how) = of_check w host how
mention_of client w moment (fact.Offered place event taken) = of_offered w event
mention_of client w moment (fact.Settled op host conn stale) = Tells (conn_stream_at w host conn) (Answered Greeted)
mention_of client w moment (fact.NotLent op host why) = of_not_lent client w moment op why
mention_of client w moment (fact.Ended op end) = of_end w op end
mention_of client w moment f = Silent

-- ---- One stream

-- A request that was answered, and what the trail says of the answer.
pub record Exchange : Type 0 where
  pub request : Request
  pub says : Says

-- What a trail says of a stream: its requests that were answered, in order; the one behind them; and how that one ended without an
-- answer.
pub record Account : Type 0 where
  pub answered : List Exchange
  pub last : Option Request
  pub how : Option Unanswered

-- Of a stream of which nothing was said.
abbrev pub no_account : Account
no_account = record { answered = []; last = None; how = None }

abbrev pub exchange_of : Says → Option Request → List Exchange
exchange_of says None = []
exchange_of says (Some r) = record { request = r; says = says } ∷ []

-- With what became of the last request.
abbrev pub with_result : Account → Result → Account
with_result a (Answered says) = record a { answered = a.answered ++ exchange_of says a.last; last = None }
with_result a (Ended how) = record a { how = Some how }

-- With one more mention, where it is of this stream.
abbrev pub with_mention : ℕ → Account → Mention → Account
with_mention stream a (Asks r) = if r.stream == stream then record a { last = Some r; how = None } else a
with_mention stream a (Tells s result) = if option_map_or (λ n. n == stream) s false then with_result a result else a
with_mention stream a Silent = a

-- Where entries lead, and what they say of a stream.
pub record Told : Type 0 where
  pub point : Point
  pub account : Account

abbrev pub with_fact : Client → ℕ → Told → Timed Fact → Told
with_fact client stream t f = record {
  point = point_after client t.point f;
  account = with_mention stream t.account (mention_of client t.point.state f.at f.what);
}

-- What entries say of a stream, from the beginning of a trail on.
unfoldable pub account : Client → ℕ → List (Timed Fact) → Account
account client stream facts = (fold (with_fact client stream) (record { point = beginning client; account = no_account }) facts).account
