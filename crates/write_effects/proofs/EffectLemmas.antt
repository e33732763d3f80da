-- How often a command takes effect, by the keys of its requests.
use Rattle.std.proofs.Common.{◌≡◌, ◌≤◌, ℕ, pos, true, false, List, [], ◌++◌, Some, eqb, refl, sym, ap, ◌∙◌, arith, append-nil}
use Rattle.std.proofs.lemmas.Bool.{eqb-true, eq-eqb, false≢true}
use Rattle.std.proofs.lemmas.List.Elements.{All-weaker}
use Rattle.std.specs.List.{All, slice_get}
use Rattle.std.specs.Option.{option_map_or}
use Rattle.entry_judge.specs.declared.timed.Timed.{Timed}
use Rattle.msg_wire.specs.Framing.{message_of}
use Rattle.msg_wire.specs.Messages.{messages}
use Rattle.msg_wire.specs.declared.message.Message.{Message}
use Rattle.msg_wire.proofs.Whole.{one_message}
use Rattle.net_link.specs.Seen.{seen}
use Rattle.net_link.specs.declared.event.NetEvent.{NetEvent}
use Rattle.member_core.specs.Honest.{IsAnswer, IsHonest, WasPlain, says_ok}
use Rattle.member_core.specs.Keys.{is_write, same_key}
use Rattle.member_core.specs.Logs.{key_at, key_in, set_after, times}
use Rattle.member_core.specs.Once.{AtMostOnce, Keeps}
use Rattle.member_core.specs.declared.key.Key.{Key}
use Rattle.member_core.specs.declared.log.LogEntry.{LogEntry}
use Rattle.desk_trail.specs.declared.request.Purpose.{Purpose}
use Rattle.desk_trail.specs.declared.request.Purpose.TheVariants as purpose
use Rattle.desk_trail.specs.declared.request.Request.{Request}
use Rattle.desk_trail.specs.Clients.{Client}
use Rattle.desk_trail.specs.Facts.{Fact}
use Rattle.desk_trail.specs.Orders.{asks_for}
use Rattle.desk_trail.specs.Streams.{Exchange, account}
use Rattle.wired_trail.specs.Wired.{IsWired, Means}
use Rattle.request_keys.specs.Keys.{IsSeenAs, key_of_request}
use Rattle.request_keys.specs.Requests.{IsAttempt, is_of_write, last_of, requests_on, writes_at}
use Rattle.answer_laws.specs.Answers.{HasOkReply}
use Rattle.write_effects.specs.Effects.{effects, names}
use Rattle.write_effects.proofs.AnswerLemmas.{answer_at, answer_came, exchange_request, means_ok}
use Rattle.write_effects.proofs.ByteLemmas.{bytes_same}
use Rattle.write_effects.proofs.CountLemmas.{kept_above, kept_once}
use Rattle.write_effects.proofs.EntryLemmas.{IsLogged, logged_at}
use Rattle.write_effects.proofs.RequestLemmas.{message_in, request_out}

-- ---- what requests are for

asks_for-is : (op : ℕ) (p : Purpose) → asks_for op p ≡ true → p ≡ purpose.Command op
asks_for-is op (purpose.Command k) e = ap (λ n. purpose.Command n) (eqb-true k op e)
asks_for-is op (purpose.Check host) e = absurd (false≢true e)
asks_for-is op (purpose.Greeting host conn) e = absurd (false≢true e)
asks_for-is op purpose.Farewell e = absurd (false≢true e)

write_is_command : (client : Client) (p : Purpose) → is_of_write client p ≡ true → (k : ℕ) × (p ≡ purpose.Command k)
write_is_command client (purpose.Command k) e = (k, refl)
write_is_command client (purpose.Check host) e = absurd (false≢true e)
write_is_command client (purpose.Greeting host conn) e = absurd (false≢true e)
write_is_command client purpose.Farewell e = absurd (false≢true e)

-- ---- what the laws of requests say

-- Each request is one message.
abbrev pub AreSeen : Client → List (Timed Fact) → Type 0
AreSeen client facts = (stream nth : ℕ) (r : Request) → slice_get (requests_on client facts stream) nth ≡ Some r → IsSeenAs client r

-- Each command has a key of its own.
abbrev pub HaveKeys : Client → List (Timed Fact) → Type 0
HaveKeys client facts = (a s n b t m : ℕ) (r q : Request) → IsAttempt client facts a s n r → IsAttempt client facts b t m q
    → same_key (key_of_request r s n) (key_of_request q t m) ≡ eqb a b

-- ---- requests that went out

-- A message that went out is that of a request.
record IsRequest (client : Client) (facts : List (Timed Fact)) (s n : ℕ) (m : Message) : Type 0 where
  request : Request
  there : slice_get (requests_on client facts s) n ≡ Some request
  holds : slice_get (messages request.bytes) 0 ≡ Some m
  writes : is_write m.body ≡ is_of_write client request.purpose

request_told : (client : Client) (facts : List (Timed Fact)) (history : List NetEvent) → AreSeen client facts → IsWired client history facts
    → (s n : ℕ) (m : Message) → slice_get (messages ((set_after history).out s)) n ≡ Some m → IsRequest client facts s n m
request_told client facts history seen_as wired s n m whole =
    let found = request_out (seen s history) (account client s facts) (wired.streams s)
    (λ k q there. (message_of q.id (pos 0) 0 (seen_as s k q there).body, (seen_as s k q there).framed)) n m
    (ap (λ bytes. slice_get (messages bytes) n) (sym (bytes_same history s).0) ∙ whole) in
    let r : Request = found.0 in
    let is = seen_as s n r found.1 in
    let same : m ≡ message_of r.id (pos 0) 0 is.body = one_message r.bytes m (message_of r.id (pos 0) 0 is.body) found.2 is.framed in
    record { request = r; there = found.1; holds = message_in r.bytes m found.2; writes = ap (λ (x : Message). is_write x.body) same ∙ is.writes }

-- An entry of a log is of a request of the trail, which is a write's, and has its key.
record IsTold (client : Client) (facts : List (Timed Fact)) (e : LogEntry) : Type 0 where
  request : Request
  there : slice_get (requests_on client facts e.stream) e.nth ≡ Some request
  known : e.key ≡ key_of_request request e.stream e.nth
  writes : is_of_write client request.purpose ≡ true

entry_told : (client : Client) (facts : List (Timed Fact)) (history : List NetEvent) → AreSeen client facts → IsWired client history facts
    → (e : LogEntry) → IsLogged (set_after history).out e → IsTold client facts e
entry_told client facts history seen_as wired e l =
    let r = request_told client facts history seen_as wired e.stream e.nth l.request l.whole in
    record { request = r.request; there = r.there; known = l.known ∙ ap (λ o. key_in o e.stream e.nth) (sym r.holds); writes = sym r.writes ∙ l.writes }

-- ---- entries that name a command

names-there : (client : Client) (facts : List (Timed Fact)) (op : ℕ) (e : LogEntry) (t : IsTold client facts e) → names client facts op e ≡ asks_for op t.request.purpose
names-there client facts op e t = ap (λ o. option_map_or (λ (r : Request). asks_for op r.purpose) o false) t.there

attempt_of : (client : Client) (facts : List (Timed Fact)) (op : ℕ) (e : LogEntry) (t : IsTold client facts e) → names client facts op e ≡ true
    → IsAttempt client facts op e.stream e.nth t.request
attempt_of client facts op e t named = record { there = t.there; is_for = asks_for-is op t.request.purpose (sym (names-there client facts op e t) ∙ named) }

-- Those of one command have one key.
named_same : (client : Client) (facts : List (Timed Fact)) (op : ℕ) → HaveKeys client facts → (e x : LogEntry) → IsTold client facts e → IsTold client facts x
    → names client facts op e ≡ true → names client facts op x ≡ true → same_key e.key x.key ≡ true
named_same client facts op keys e x t u named also =
    (λ i. same_key (t.known i) (u.known i))
    ∙ keys op e.stream e.nth op x.stream x.nth t.request u.request (attempt_of client facts op e t named) (attempt_of client facts op x u also)
    ∙ eq-eqb op op refl

-- One that has the key of a command's request names the command.
key_names : (client : Client) (facts : List (Timed Fact)) (op s n : ℕ) (r : Request) (key : Key) → HaveKeys client facts → IsAttempt client facts op s n r
    → key ≡ key_of_request r s n → (e : LogEntry) → IsTold client facts e → same_key e.key key ≡ true → names client facts op e ≡ true
key_names client facts op s n r key keys attempt is e t same =
    let c = write_is_command client t.request.purpose t.writes in
    let one : same_key (key_of_request t.request e.stream e.nth) (key_of_request r s n) ≡ eqb c.0 op =
    keys c.0 e.stream e.nth op s n t.request r (record { there = t.there; is_for = c.1 }) attempt in
    names-there client facts op e t ∙ ap (asks_for op) c.1 ∙ sym one ∙ (λ i. same_key (sym t.known i) (sym is i)) ∙ same

-- ---- the law

all_told : (client : Client) (facts : List (Timed Fact)) (history before after : List NetEvent) (member : ℕ) → AreSeen client facts → IsWired client history facts
    → IsHonest history → history ≡ before ++ after → All (IsTold client facts) ((set_after before).log member)
all_told client facts history before after member seen_as wired honest is =
    All-weaker (IsLogged (set_after history).out) (IsTold client facts) (entry_told client facts history seen_as wired) ((set_after before).log member)
    (logged_at history before after honest is member)

pub effects_at_most : (client : Client) (facts : List (Timed Fact)) (history : List NetEvent) (op : ℕ) → AreSeen client facts → HaveKeys client facts
    → AtMostOnce history → IsWired client history facts → IsHonest history
    → (before after : List NetEvent) (member : ℕ) → history ≡ before ++ after → effects client facts op ((set_after before).log member) ≤ 1
effects_at_most client facts history op seen_as keys once wired honest before after member is =
    kept_once (IsTold client facts) (names client facts op) (named_same client facts op keys) ((set_after before).log member)
    (all_told client facts history before after member seen_as wired honest is) (λ key. once before after member key is)

-- A request of a command was handled plainly, and members know it by its key.
record IsCarriedOut (client : Client) (facts : List (Timed Fact)) (history : List NetEvent) (op s n : ℕ) : Type 0 where
  request : Request
  attempt : IsAttempt client facts op s n request
  known : key_at (set_after history) s n ≡ key_of_request request s n
  plain : WasPlain history s n

some_same : {X : Type 0} (a b : X) → Some a ≡ Some b → a ≡ b
some_same a b e = cc

-- The message that came for an exchange of the trail.
answer_there : (client : Client) (facts : List (Timed Fact)) (history : List NetEvent) (s n : ℕ) (x : Exchange) → IsWired client history facts
    → slice_get (account client s facts).answered n ≡ Some x → (m : Message) × (slice_get (messages ((set_after history).came s)) n ≡ Some m) × Means m x.says
answer_there client facts history s n x wired there =
    let on = wired.streams s in
    let answer = answer_at on.answers (account client s facts).answered n x on.said there in
    (answer.0, ap (λ bytes. slice_get (messages bytes) n) (bytes_same history s).1 ∙ answer_came (seen s history).came on.answers on.rest n answer.0 on.came answer.1, answer.2)

-- Where it says ok to a write's request.
carried_by : (client : Client) (facts : List (Timed Fact)) (history : List NetEvent) (op s n : ℕ) (x : Exchange) (m : Message) (a : IsAnswer history s n m)
    → IsRequest client facts s n a.request → slice_get (account client s facts).answered n ≡ Some x → x.request.purpose ≡ purpose.Command op
    → writes_at client op ≡ true → says_ok m.body ≡ true → IsCarriedOut client facts history op s n
carried_by client facts history op s n x m a r there is_for writes says =
    let asked : slice_get (requests_on client facts s) n ≡ Some x.request =
    exchange_request (account client s facts).answered (last_of (account client s facts).last) n x there in
    let same : r.request ≡ x.request = some_same r.request x.request (sym r.there ∙ asked) in
    let of_command : r.request.purpose ≡ purpose.Command op = ap (λ (q : Request). q.purpose) same ∙ is_for in
    record {
      request = r.request;
      attempt = record { there = r.there; is_for = of_command };
      known = ap (λ o. key_in o s n) (a.whole ∙ sym r.holds);
      plain = a.ok (r.writes ∙ ap (is_of_write client) of_command ∙ writes) says;
    }

-- A write that was answered ok has such a request.
carried_out : (client : Client) (facts : List (Timed Fact)) (history : List NetEvent) (op : ℕ) → AreSeen client facts → IsWired client history facts
    → IsHonest history → writes_at client op ≡ true → (ok : HasOkReply client facts op) → IsCarriedOut client facts history op ok.stream ok.nth
carried_out client facts history op seen_as wired honest writes ok =
    let answer = answer_there client facts history ok.stream ok.nth ok.exchange wired ok.there in
    let a = honest.answered history [] ok.stream ok.nth answer.0 (sym (append-nil history)) answer.1 in
    carried_by client facts history op ok.stream ok.nth ok.exchange answer.0 a
    (request_told client facts history seen_as wired ok.stream ok.nth a.request a.whole) ok.there ok.is_for writes
    (means_ok answer.0 ok.exchange.says ok.reading ok.n ok.modified answer.2 ok.says ok.ok)

pub exactly_once : (client : Client) (facts : List (Timed Fact)) (history : List NetEvent) (op : ℕ) → AreSeen client facts → HaveKeys client facts
    → AtMostOnce history → Keeps history → IsWired client history facts → IsHonest history → writes_at client op ≡ true → HasOkReply client facts op
    → effects client facts op ((set_after history).log ((set_after history).last)) ≡ 1
exactly_once client facts history op seen_as keys once keeps wired honest writes ok =
    let c = carried_out client facts history op seen_as wired honest writes ok in
    let all : history ≡ history ++ [] = sym (append-nil history) in
    let last : ℕ = (set_after history).last in
    let log : List LogEntry = (set_after history).log last in
    let key : Key = key_at (set_after history) ok.stream ok.nth in
    let one : times key log ≡ 1 = keeps history [] ok.stream ok.nth all c.plain in
    let named : All (λ e. same_key e.key key ≡ true → names client facts op e ≡ true) log =
    All-weaker (IsTold client facts) (λ e. same_key e.key key ≡ true → names client facts op e ≡ true)
    (key_names client facts op ok.stream ok.nth c.request key keys c.attempt c.known) log
    (all_told client facts history history [] last seen_as wired honest all) in
    omega (arith, one, kept_above (names client facts op) key log named, effects_at_most client facts history op seen_as keys once wired honest history [] last all)
