-- What a turn heard, as the entries tell it.
use Rattle.desk_core.specs.Receiving.{IsHeard}
use Rattle.desk_core.specs.Ends.{IsEndBy}
use Rattle.std.proofs.lemmas.Bool.{le-leb, ltb-false}
use Rattle.std.proofs.Common.{◌≡◌, ◌≢◌, ◌≤◌, ℕ, ◌+◌, ℤ, Bool, true, false, List, Option, None, Some, Result, Ok, Err, refl, sym, ap, ◌∙◌, subst, nat_le, nat_lt, if◌then◌else◌}
use Rattle.std.specs.Prelude.{IfOk, IfSome, OnOk, length, slice_get, unwrap_or}
use Rattle.std.specs.Ordering.{int_eq}
use Rattle.std.specs.Option.{option_and_then, option_map}
use Rattle.std.proofs.lemmas.Bool.Decides.{Decides-int_eq}
use Rattle.bson_doc.specs.declared.cluster_time.ClusterTime.{ClusterTime}
use Rattle.cmd_outcome.specs.Replies.{reading_of, result_in}
use Rattle.cmd_outcome.specs.Times.{time_in}
use Rattle.cmd_outcome.specs.declared.reading.ReplyResult.{ReplyResult}
use Rattle.cmd_outcome.specs.declared.reading.ReplyResult.TheVariants as reply
use Rattle.cmd_reply.specs.Results.{attempt_result_of, ended, greeted_by, greeting_result_of, greeting_said, reply_result_of}
use Rattle.cmd_reply.specs.declared.attempt.AttemptResult.{AttemptResult}
use Rattle.cmd_reply.specs.declared.greeting.GreetingResult.{GreetingResult}
use Rattle.cmd_reply.specs.declared.greeting.GreetingResult.TheVariants as greeting
use Rattle.cmd_reply.specs.declared.waiting.Waiting.{Waiting}
use Rattle.desk_wire.specs.declared.answers.Pulled.{Pulled}
use Rattle.desk_wire.specs.declared.answers.Pulled.TheVariants as pulled
use Rattle.msg_wire.specs.Places.{place_of, response_to_at}
use Rattle.msg_wire.specs.declared.message.Message.{Message}
use Rattle.net_link.specs.Seen.{seen}
use Rattle.net_link.specs.declared.event.NetEvent.{NetEvent}
use Rattle.write_retry.specs.declared.attempt_end.AttemptEnd.TheVariants as attempt
use Rattle.write_retry.specs.declared.events.Unsent.TheVariants as unsent
use Rattle.host_name.specs.Addresses.{Address}
use Rattle.topo_rules.specs.declared.event.TopoEvent.{TopoEvent}
use Rattle.topo_rules.specs.declared.event.TopoEvent.TheVariants as event
use Rattle.desk_trail.specs.declared.entry.CheckHow.{CheckHow}
use Rattle.desk_trail.specs.declared.entry.CheckHow.TheVariants as how
use Rattle.desk_trail.specs.Checks.{kept_at}
use Rattle.desk_trail.specs.Clients.{Client, connect_limit}
use Rattle.desk_trail.specs.Facts as fact
use Rattle.desk_trail.specs.States.{ClientState, CommandState, ServerState, stream_of}
use Rattle.desk_trail.specs.Streams.{Account, MOST_HOSTS, check_stream_of, conn_stream_at, dialled_at, held_stream, is_past, stream_at}
use Rattle.desk_trail.specs.Streams as told
use Rattle.legal_trail.specs.Recorded.{Recorded}
use Rattle.wired_trail.specs.Hearing.{Heard, IsPlain, IsSaid, SpeaksOf, TellsHeard, WasHeard, told_of}
use Rattle.wired_trail.specs.Lines.{Lines}
use Rattle.wired_trail.specs.Wired.{IsNoError}
use Rattle.wired_trail.proofs.HeardLemmas.{came-heard, heard-on, heard-same}
use Rattle.desk_core.specs.Greetings.{IsDialledBy}
use Rattle.desk_core.specs.Hearing.{Carries, HasComeWith, HeardReply, HearsAttempt, HearsCheck, HearsGreeting, IsNoReply, IsReplyOn, OffersHeard}
use Rattle.desk_core.specs.Lending.{IsLentTo, IsOnStream}
use Rattle.desk_core.specs.declared.greeting.Dialled.{Dialled}
use Rattle.desk_core.specs.declared.lending.Lent.{Lent}

-- ---- A command's request

-- what an attempt came to by a message
said-reply : (m : Message) (w : Waiting) (b : Bool) → int_eq m.to w.id ≡ b → (history : List NetEvent) (r : Recorded) (stream : ℕ) → Heard (pulled.Whole m) w.id (seen stream history) (told_of r stream) →
    (op moment : ℕ) → stream_at r.point.state op ≡ Some stream →
    TellsHeard history r moment (fact.Ended op (if b then record { end = attempt.Replied (reading_of m.body); time = time_in m.body } else ended (attempt.Bad response_to_at)).end)
said-reply m w true e history r stream h op moment on =
    heard-on history r (stream_at r.point.state op) stream (told.Answered (told.Reply (reading_of m.body))) on
    (record { answer = pulled.Whole m; id = w.id; heard = h; said = ((Decides-int_eq m.to w.id).0 e, refl) })
said-reply m w false e history r stream h op moment on =
    heard-on history r (stream_at r.point.state op) stream (told.Ended (told.Bad response_to_at)) on
    (record { answer = pulled.Whole m; id = w.id; heard = h; said = (λ q. (let clash : true ≡ false = sym ((Decides-int_eq m.to w.id).1 q) ∙ e in cc), refl) })

came-reply : (m : Message) (w : Waiting) (b : Bool) (history : List NetEvent) (r : Recorded) (stream : ℕ) → Heard (pulled.Whole m) w.id (seen stream history) (told_of r stream) →
    HasComeWith history (if b then record { end = attempt.Replied (reading_of m.body); time = time_in m.body } else ended (attempt.Bad response_to_at)).time
came-reply m w true history r stream h =
    elim (time_in m.body) as (λ o. time_in m.body ≡ o → HasComeWith history o) [
      | None ↦ λ _. tt
      | Some t ↦ λ e. came-heard history r stream m w.id t h e
    ] refl
came-reply m w false history r stream h = tt

-- what is not by a message
said-else : (answer : Pulled) (history : List NetEvent) (r : Recorded) (stream : ℕ) (id : ℤ) → Heard answer id (seen stream history) (told_of r stream) → (op moment : ℕ) →
    stream_at r.point.state op ≡ Some stream → (how : told.Unanswered) → IsSaid answer id (told.Ended how) → WasHeard history r (told.Tells (stream_at r.point.state op) (told.Ended how))
said-else answer history r stream id h op moment on how said =
    heard-on history r (stream_at r.point.state op) stream (told.Ended how) on (record { answer = answer; id = id; heard = h; said = said })

attempt-by : (w : Waiting) (now : ℕ) (answer : Pulled) (result : AttemptResult) (history : List NetEvent) (r : Recorded) (stream op moment : ℕ) →
    attempt_result_of w now answer ≡ Some result → Heard answer w.id (seen stream history) (told_of r stream) → stream_at r.point.state op ≡ Some stream →
    TellsHeard history r moment (fact.Ended op result.end) × HasComeWith history result.time
attempt-by w now (pulled.Whole m) result history r stream op moment is h on =
    let same : reply_result_of w.id m ≡ result = cc in
    subst (λ (x : AttemptResult). TellsHeard history r moment (fact.Ended op x.end) × HasComeWith history x.time) same
    (said-reply m w (int_eq m.to w.id) refl history r stream h op moment on, came-reply m w (int_eq m.to w.id) history r stream h)
attempt-by w now pulled.NotYet result history r stream op moment is h on =
    elim (nat_lt now w.limit) as (λ b. (if b then None else Some (ended attempt.TimedOut)) ≡ Some result → TellsHeard history r moment (fact.Ended op result.end) × HasComeWith history result.time) [
      | true ↦ λ e. absurd cc
      | false ↦ λ e.
          let same : ended attempt.TimedOut ≡ result = cc in
          subst (λ (x : AttemptResult). TellsHeard history r moment (fact.Ended op x.end) × HasComeWith history x.time) same
          (said-else pulled.NotYet history r stream w.id h op moment on told.Late tt, tt)
    ] is
attempt-by w now pulled.End result history r stream op moment is h on =
    let same : ended attempt.Cut ≡ result = cc in
    subst (λ (x : AttemptResult). TellsHeard history r moment (fact.Ended op x.end) × HasComeWith history x.time) same
    (said-else pulled.End history r stream w.id h op moment on told.Cut tt, tt)
attempt-by w now pulled.Fault result history r stream op moment is h on =
    let same : ended attempt.Fault ≡ result = cc in
    subst (λ (x : AttemptResult). TellsHeard history r moment (fact.Ended op x.end) × HasComeWith history x.time) same
    (said-else pulled.Fault history r stream w.id h op moment on told.Fault tt, tt)
attempt-by w now (pulled.Bad f) result history r stream op moment is h on =
    let at = unwrap_or (place_of f) 0 in
    let same : ended (attempt.Bad at) ≡ result = cc in
    subst (λ (x : AttemptResult). TellsHeard history r moment (fact.Ended op x.end) × HasComeWith history x.time) same
    (said-else (pulled.Bad f) history r stream w.id h op moment on (told.Bad at) refl, tt)
attempt-by w now pulled.Memory result history r stream op moment is h on = absurd cc

pub attempt-heard : (history : List NetEvent) (r : Recorded) (stream op : ℕ) (w : Waiting) (moment : ℕ) (result : AttemptResult) → HearsAttempt history r stream w moment result →
    stream_at r.point.state op ≡ Some stream → TellsHeard history r moment (fact.Ended op result.end) × HasComeWith history result.time
attempt-heard history r stream op w moment result h on = attempt-by w moment h.answer result history r stream op moment h.is h.heard on

-- ---- A greeting

-- what is told of it, by what came
abbrev pub TellsGreeting : List NetEvent → Recorded → (moment op host conn : ℕ) → GreetingResult → Type 0
TellsGreeting history r moment op host conn (greeting.Greeted time) =
    ((stale : Bool) → TellsHeard history r moment (fact.Settled op host conn stale)) × HasComeWith history time
TellsGreeting history r moment op host conn (greeting.Refused code time) =
    TellsHeard history r moment (fact.NotLent op host (unsent.Greeting code)) × HasComeWith history time
TellsGreeting history r moment op host conn (greeting.Lost bad) = TellsHeard history r moment (fact.NotLent op host (unsent.Dial bad))

-- the stream of a connection that a command dialled
pub record GreetsOn (w : ClientState) (op host conn stream : ℕ) : Type 0 where
  pub of_command : stream_at w op ≡ Some stream
  pub of_conn : conn_stream_at w host conn ≡ Some stream

came-greeting : (m : Message) (id : ℤ) (history : List NetEvent) (r : Recorded) (stream : ℕ) → Heard (pulled.Whole m) id (seen stream history) (told_of r stream) →
    HasComeWith history (time_in m.body)
came-greeting m id history r stream h =
    elim (time_in m.body) as (λ o. time_in m.body ≡ o → HasComeWith history o) [
      | None ↦ λ _. tt
      | Some t ↦ λ e. came-heard history r stream m id t h e
    ] refl

greeted-heard : (m : Message) (id : ℤ) (result : ReplyResult) → result_in m.body ≡ result → m.to ≡ id → (history : List NetEvent) (r : Recorded) (stream : ℕ) →
    Heard (pulled.Whole m) id (seen stream history) (told_of r stream) → (moment op host conn : ℕ) → GreetsOn r.point.state op host conn stream →
    TellsGreeting history r moment op host conn (greeted_by result (time_in m.body))
greeted-heard m id (reply.Error code) e to history r stream h moment op host conn on = (
  heard-on history r (stream_at r.point.state op) stream (told.Answered (told.Refused code)) on.of_command
      (record { answer = pulled.Whole m; id = id; heard = h; said = (to, e) }),
  came-greeting m id history r stream h,
)
greeted-heard m id result e to history r stream h moment op host conn on = (
  λ stale. heard-on history r (conn_stream_at r.point.state host conn) stream (told.Answered told.Greeted) on.of_conn
      (record { answer = pulled.Whole m; id = id; heard = h; said = (to, subst IsNoError (sym e) tt) }),
  came-greeting m id history r stream h,
)

greeting-said : (m : Message) (id : ℤ) (b : Bool) → int_eq m.to id ≡ b → (history : List NetEvent) (r : Recorded) (stream : ℕ) → Heard (pulled.Whole m) id (seen stream history) (told_of r stream) →
    (moment op host conn : ℕ) → GreetsOn r.point.state op host conn stream →
    TellsGreeting history r moment op host conn (if b then greeted_by (result_in m.body) (time_in m.body) else greeting.Lost true)
greeting-said m id true e history r stream h moment op host conn on =
    greeted-heard m id (result_in m.body) refl ((Decides-int_eq m.to id).0 e) history r stream h moment op host conn on
greeting-said m id false e history r stream h moment op host conn on =
    heard-on history r (stream_at r.point.state op) stream _ on.of_command
    (record { answer = pulled.Whole m; id = id; heard = h; said = λ q. (let clash : true ≡ false = sym ((Decides-int_eq m.to id).1 q) ∙ e in cc) })

lost-said : (answer : Pulled) (bad : Bool) (id : ℤ) (history : List NetEvent) (r : Recorded) (stream : ℕ) → Heard answer id (seen stream history) (told_of r stream) →
    (moment op host : ℕ) → stream_at r.point.state op ≡ Some stream → IsSaid answer id (told.Ended (told.Lost bad (is_past r.client moment (dialled_at r.point.state op)))) →
    TellsHeard history r moment (fact.NotLent op host (unsent.Dial bad))
lost-said answer bad id history r stream h moment op host on said =
    heard-on history r (stream_at r.point.state op) stream (told.Ended (told.Lost bad (is_past r.client moment (dialled_at r.point.state op)))) on
    (record { answer = answer; id = id; heard = h; said = said })

greeting-by : (w : Waiting) (answer : Pulled) (result : GreetingResult) (history : List NetEvent) (r : Recorded) (stream moment op host conn : ℕ) →
    greeting_result_of w moment answer ≡ Some result → Heard answer w.id (seen stream history) (told_of r stream) → GreetsOn r.point.state op host conn stream →
    (nat_lt moment w.limit ≡ false → is_past r.client moment (dialled_at r.point.state op) ≡ true) → TellsGreeting history r moment op host conn result
greeting-by w (pulled.Whole m) result history r stream moment op host conn is h on past =
    let same : greeting_said w.id m ≡ result = cc in
    subst (TellsGreeting history r moment op host conn) same (greeting-said m w.id (int_eq m.to w.id) refl history r stream h moment op host conn on)
greeting-by w pulled.NotYet result history r stream moment op host conn is h on past =
    elim (nat_lt moment w.limit) as (λ b. nat_lt moment w.limit ≡ b → (if b then None else Some (greeting.Lost false)) ≡ Some result → TellsGreeting history r moment op host conn result) [
      | true ↦ λ _ e. absurd cc
      | false ↦ λ late e.
          let same : greeting.Lost false ≡ result = cc in
          subst (TellsGreeting history r moment op host conn) same (lost-said pulled.NotYet false w.id history r stream h moment op host on.of_command (past late))
    ] refl is
greeting-by w pulled.End result history r stream moment op host conn is h on past =
    let same : greeting.Lost false ≡ result = cc in
    subst (TellsGreeting history r moment op host conn) same (lost-said pulled.End false w.id history r stream h moment op host on.of_command tt)
greeting-by w pulled.Fault result history r stream moment op host conn is h on past =
    let same : greeting.Lost false ≡ result = cc in
    subst (TellsGreeting history r moment op host conn) same (lost-said pulled.Fault false w.id history r stream h moment op host on.of_command tt)
greeting-by w (pulled.Bad f) result history r stream moment op host conn is h on past =
    let same : greeting.Lost true ≡ result = cc in
    subst (TellsGreeting history r moment op host conn) same (lost-said (pulled.Bad f) true w.id history r stream h moment op host on.of_command tt)
greeting-by w pulled.Memory result history r stream moment op host conn is h on past = absurd cc

pub greeting-heard : (history : List NetEvent) (r : Recorded) (stream moment op host conn : ℕ) (w : Waiting) (result : GreetingResult) → HearsGreeting history r stream w moment result →
    GreetsOn r.point.state op host conn stream → (nat_lt moment w.limit ≡ false → is_past r.client moment (dialled_at r.point.state op) ≡ true) →
    TellsGreeting history r moment op host conn result
greeting-heard history r stream moment op host conn w result h on past = greeting-by w h.answer result history r stream moment op host conn h.is h.heard on past

-- ---- A check

-- what its end tells, but for a reply, which its event tells
pub check-heard : (history : List NetEvent) (r : Recorded) (stream : ℕ) (id : ℤ) (hosts host moment : ℕ) (h : CheckHow) (e : TopoEvent) (time : Option ClusterTime) →
    HearsCheck history r stream id hosts h e time → kept_at r.point.state host ≡ Some stream → hosts ≡ length r.point.state.servers →
    TellsHeard history r moment (fact.CheckEnded host h)
check-heard history r stream id hosts host moment (how.Reply sample) e time h on counted = tt
check-heard history r stream id hosts host moment (how.Refused code) e time h on counted =
    heard-on history r (kept_at r.point.state host) stream _ on
    (record { answer = h.answer; id = id; heard = h.heard; said = subst (λ n. IsSaid h.answer id (told.Answered (told.HelloRefused code (nat_le MOST_HOSTS n)))) counted h.says })
check-heard history r stream id hosts host moment how.Cut e time h on counted =
    heard-on history r (kept_at r.point.state host) stream (told.Ended told.Cut) on (record { answer = h.answer; id = id; heard = h.heard; said = h.says })
check-heard history r stream id hosts host moment how.Fault e time h on counted =
    heard-on history r (kept_at r.point.state host) stream (told.Ended told.Fault) on (record { answer = h.answer; id = id; heard = h.heard; said = h.says })
check-heard history r stream id hosts host moment how.Late e time h on counted =
    heard-on history r (kept_at r.point.state host) stream (told.Ended told.Late) on (record { answer = h.answer; id = id; heard = h.heard; said = h.says })
check-heard history r stream id hosts host moment (how.Bad at) e time h on counted =
    heard-on history r (kept_at r.point.state host) stream (told.Ended (told.Bad at)) on (record { answer = h.answer; id = id; heard = h.heard; said = h.says })
check-heard history r stream id hosts host moment how.NoDial e time h on counted = absurd h.says

carried : (history : List NetEvent) (r : Recorded) (stream : ℕ) (id : ℤ) (answer : Pulled) (time : Option ClusterTime) → Heard answer id (seen stream history) (told_of r stream) → Carries answer time →
    HasComeWith history time
carried history r stream id answer None h c = tt
carried history r stream id (pulled.Whole m) (Some t) h c = came-heard history r stream m id t h c
carried history r stream id pulled.NotYet (Some t) h c = absurd c
carried history r stream id pulled.End (Some t) h c = absurd c
carried history r stream id pulled.Fault (Some t) h c = absurd c
carried history r stream id (pulled.Bad f) (Some t) h c = absurd c
carried history r stream id pulled.Memory (Some t) h c = absurd c

pub check-came : (history : List NetEvent) (r : Recorded) (stream : ℕ) (id : ℤ) (hosts : ℕ) (h : CheckHow) (e : TopoEvent) (time : Option ClusterTime) →
    HearsCheck history r stream id hosts h e time → HasComeWith history time
check-came history r stream id hosts h e time is = carried history r stream id is.answer time is.heard is.carries

-- a reply was heard; whatever else is offered is none
pub check-reply : (history : List NetEvent) (r x : Recorded) (stream : ℕ) (id : ℤ) (hosts : ℕ) (h : CheckHow) (e : TopoEvent) (time : Option ClusterTime) (address : Address) →
    HearsCheck history r stream id hosts h e time → ((sample : ℕ) → h ≡ how.Reply sample → (s : ℕ) → told_of x s ≡ told_of r s) →
    (((sample : ℕ) → h ≢ how.Reply sample) → e ≡ event.Broken address None) → HeardReply history x stream e
check-reply history r x stream id hosts (how.Reply sample) (event.Reply d s) time address h same broken = record {
  answer = h.answer;
  id = id;
  heard = subst (λ (a : Account). Heard h.answer id (seen stream history) a) (sym (same sample refl stream)) h.heard;
  said = h.says;
}
check-reply history r x stream id hosts (how.Reply sample) (event.Broken a g) time address h same broken = tt
check-reply history r x stream id hosts (how.Reply sample) (event.Refused a v g down) time address h same broken = tt
check-reply history r x stream id hosts (how.Refused code) e time address h same broken = rw (broken (λ s q. cc)) tt
check-reply history r x stream id hosts how.Cut e time address h same broken = rw (broken (λ s q. cc)) tt
check-reply history r x stream id hosts how.Fault e time address h same broken = rw (broken (λ s q. cc)) tt
check-reply history r x stream id hosts how.Late e time address h same broken = rw (broken (λ s q. cc)) tt
check-reply history r x stream id hosts (how.Bad at) e time address h same broken = rw (broken (λ s q. cc)) tt
check-reply history r x stream id hosts how.NoDial e time address h same broken = rw (broken (λ s q. cc)) tt

-- a reply that was heard on the stream of its server's checks may be offered
pub reply-offers : (history later : List NetEvent) (r x : Recorded) (stream : ℕ) (e : TopoEvent) → ((s : ℕ) → seen s later ≡ seen s history) → ((s : ℕ) → told_of x s ≡ told_of r s) →
    IsReplyOn x.point.state stream e → HeardReply history r stream e → OffersHeard later x e
reply-offers history later r x stream (event.Reply d s) views same on h =
    heard-same history later r x (told.Tells (check_stream_of x.point.state d) (told.Answered (told.Hello d))) views same
    (heard-on history r (check_stream_of x.point.state d) stream (told.Answered (told.Hello d)) on h)
reply-offers history later r x stream (event.Broken a g) views same on h = tt
reply-offers history later r x stream (event.Refused a v g down) views same on h = tt

-- an event that is no reply's may be offered
pub other-offers : (history : List NetEvent) (r : Recorded) (e : TopoEvent) → IsNoReply e → OffersHeard history r e
other-offers history r (event.Reply d s) none = absurd none
other-offers history r (event.Broken a g) none = tt
other-offers history r (event.Refused a v g down) none = tt

-- ---- A command's stream

pub stream-lent : (w : ClientState) (lines : Lines) (op stream : ℕ) (c : CommandState) (l : Lent) → slice_get w.commands op ≡ Some c → IsLentTo w c l → IsOnStream w lines l stream →
    stream_at w op ≡ Some stream
stream-lent w lines op stream c l there lent on =
    ap (λ o. option_and_then (held_stream w) (option_map (λ (x : CommandState). x.check_out) o)) there
    ∙ ap (held_stream w) lent.has
    ∙ ap (option_and_then (λ (x : ServerState). stream_of x l.conn)) on.there
    ∙ on.stream_there

pub greets-on : (w : ClientState) (op : ℕ) (c : CommandState) (d : Dialled) → slice_get w.commands op ≡ Some c → IsDialledBy w c d → GreetsOn w op d.host d.conn d.stream
greets-on w op c d there by =
    let conn : conn_stream_at w d.host d.conn ≡ Some d.stream =
    ap (option_and_then (λ (x : ServerState). stream_of x d.conn)) by.there ∙ by.stream_there in
    record {
      of_command =
          ap (λ o. option_and_then (held_stream w) (option_map (λ (x : CommandState). x.check_out) o)) there ∙ ap (held_stream w) by.dials ∙ conn;
      of_conn = conn;
    }

-- ---- What a turn gives

pub hears-attempt : {E : Type 0} (history : List NetEvent) (r : Recorded) (stream : ℕ) (w : Waiting) (moment : ℕ) (answer : Pulled) (res : Result (Option AttemptResult) E) →
    IfOk res (λ o. o ≡ attempt_result_of w moment answer) → OnOk res (answer ≢ pulled.Memory) → (answer ≢ pulled.Memory → Heard answer w.id (seen stream history) (told_of r stream)) →
    IfOk res (λ o. IfSome o (HearsAttempt history r stream w moment))
hears-attempt history r stream w moment answer (Ok None) is some h = tt
hears-attempt history r stream w moment answer (Ok (Some x)) is some h = record { answer = answer; heard = h some; is = sym is }
hears-attempt history r stream w moment answer (Err e) is some h = tt

pub hears-greeting : {E : Type 0} (history : List NetEvent) (r : Recorded) (stream : ℕ) (w : Waiting) (moment : ℕ) (answer : Pulled) (res : Result (Option GreetingResult) E) →
    IfOk res (λ o. o ≡ greeting_result_of w moment answer) → OnOk res (answer ≢ pulled.Memory) → (answer ≢ pulled.Memory → Heard answer w.id (seen stream history) (told_of r stream)) →
    IfOk res (λ o. IfSome o (HearsGreeting history r stream w moment))
hears-greeting history r stream w moment answer (Ok None) is some h = tt
hears-greeting history r stream w moment answer (Ok (Some x)) is some h = record { answer = answer; heard = h some; is = sym is }
hears-greeting history r stream w moment answer (Err e) is some h = tt

-- ---- The entry that ends a check

pub check-speaks : (client : Client) (w : ClientState) (moment host stream : ℕ) (h : CheckHow) → h ≢ how.NoDial → ((sample : ℕ) → h ≢ how.Reply sample) → kept_at w host ≡ Some stream →
    SpeaksOf client w moment (Some stream) (fact.CheckEnded host h)
check-speaks client w moment host stream (how.Reply sample) ran other on = absurd (other sample refl)
check-speaks client w moment host stream (how.Refused code) ran other on = on
check-speaks client w moment host stream how.Cut ran other on = on
check-speaks client w moment host stream how.Fault ran other on = on
check-speaks client w moment host stream how.Late ran other on = on
check-speaks client w moment host stream (how.Bad at) ran other on = on
check-speaks client w moment host stream how.NoDial ran other on = absurd (ran refl)

pub check-plain : (lines : Lines) (host sample : ℕ) (h : CheckHow) → h ≡ how.Reply sample → IsPlain lines (fact.CheckEnded host h)
check-plain lines host sample h is = subst (λ x. IsPlain lines (fact.CheckEnded host x)) (sym is) tt

-- a greeting that a command waits for until the limit of its dial
pub greets-heard : (history : List NetEvent) (r : Recorded) (op moment limit since : ℕ) (id : ℤ) (c : CommandState) (d : Dialled) (result : GreetingResult) →
    slice_get r.point.state.commands op ≡ Some c → IsDialledBy r.point.state c d → c.dialled ≡ Some since → limit ≡ since + connect_limit r.client →
    HearsGreeting history r d.stream (record { id = id; limit = limit }) moment result → TellsGreeting history r moment op d.host d.conn result
greets-heard history r op moment limit since id c d result there by dialled is h =
    greeting-heard history r d.stream moment op d.host d.conn (record { id = id; limit = limit }) result h (greets-on r.point.state op c d there by)
    (λ late.
    ap (is_past r.client moment) (ap (option_and_then (λ (x : CommandState). x.dialled)) there ∙ dialled)
    ∙ le-leb (since + connect_limit r.client) moment (subst (λ n. n ≤ moment) is (ltb-false moment limit late)))

-- a check that ended otherwise than by a reply offers that its server is broken
pub broken-by : (host : Address) (began limit moment : ℕ) (answer : Pulled) (e : TopoEvent) (h : CheckHow) → IsEndBy host began limit moment answer e h →
    ((sample : ℕ) → h ≢ how.Reply sample) → e ≡ event.Broken host None
broken-by host began limit moment answer e (how.Reply sample) by other = absurd (other sample refl)
broken-by host began limit moment answer e (how.Refused code) by other = by.0
broken-by host began limit moment answer e how.Cut by other = by.0
broken-by host began limit moment answer e how.Fault by other = by.0
broken-by host began limit moment answer e how.Late by other = by.0
broken-by host began limit moment answer e (how.Bad at) by other = by
broken-by host began limit moment answer e how.NoDial by other = absurd by

-- ---- How an attempt ended by what a turn gave

heard-reply : (m : Message) (w : Waiting) (now : ℕ) (b : Bool) →
    IsHeard w.limit now (if b then record { end = attempt.Replied (reading_of m.body); time = time_in m.body } else ended (attempt.Bad response_to_at))
heard-reply m w now true = record { behind = tt; late = λ e. absurd cc; replied = λ _. refl }
heard-reply m w now false = record { behind = tt; late = λ e. absurd cc; replied = λ n. absurd (n refl) }

heard-of : (w : Waiting) (now : ℕ) (answer : Pulled) (result : AttemptResult) → attempt_result_of w now answer ≡ Some result → IsHeard w.limit now result
heard-of w now (pulled.Whole m) result is =
    let same : reply_result_of w.id m ≡ result = cc in
    subst (IsHeard w.limit now) same (heard-reply m w now (int_eq m.to w.id))
heard-of w now pulled.NotYet result is =
    elim (nat_lt now w.limit) as (λ b. nat_lt now w.limit ≡ b → (if b then None else Some (ended attempt.TimedOut)) ≡ Some result → IsHeard w.limit now result) [
      | true ↦ λ _ e. absurd cc
      | false ↦ λ late e.
          let same : ended attempt.TimedOut ≡ result = cc in
          subst (IsHeard w.limit now) same (record { behind = tt; late = λ _. ltb-false now w.limit late; replied = λ n. absurd (n refl) })
    ] refl is
heard-of w now pulled.End result is =
    let same : ended attempt.Cut ≡ result = cc in
    subst (IsHeard w.limit now) same (record { behind = tt; late = λ e. absurd cc; replied = λ n. absurd (n refl) })
heard-of w now pulled.Fault result is =
    let same : ended attempt.Fault ≡ result = cc in
    subst (IsHeard w.limit now) same (record { behind = tt; late = λ e. absurd cc; replied = λ n. absurd (n refl) })
heard-of w now (pulled.Bad f) result is =
    let same : ended (attempt.Bad (unwrap_or (place_of f) 0)) ≡ result = cc in
    subst (IsHeard w.limit now) same (record { behind = tt; late = λ e. absurd cc; replied = λ n. absurd (n refl) })
heard-of w now pulled.Memory result is = absurd cc

pub heard-by : {E : Type 0} (w : Waiting) (now : ℕ) (answer : Pulled) (res : Result (Option AttemptResult) E) → IfOk res (λ o. o ≡ attempt_result_of w now answer) →
    IfOk res (λ o. IfSome o (IsHeard w.limit now))
heard-by w now answer (Ok None) is = tt
heard-by w now answer (Ok (Some x)) is = heard-of w now answer x (sym is)
heard-by w now answer (Err e) is = tt
