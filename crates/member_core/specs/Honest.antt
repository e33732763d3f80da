-- Which histories are honest: no net or server does a thing in them that a replica set never does.
-- own: what is assumed of the outside, so that it can be said how often a write takes effect. Each condition is one on places.
use Rattle.std.specs.Prelude.{◌≡◌, ◌≤◌, ℕ, Bool, true, false, List, [], ◌∷◌, ◌++◌, Contains, None, Some, slice_get}
use Rattle.cmd_outcome.specs.Replies.{result_in}
use Rattle.cmd_outcome.specs.declared.reading.ReplyResult.{ReplyResult}
use Rattle.cmd_outcome.specs.declared.reading.ReplyResult.TheVariants as said
use Rattle.bson_doc.specs.declared.value.Document.{Document}
use Rattle.msg_wire.specs.Messages.{messages}
use Rattle.msg_wire.specs.declared.message.Message.{Message}
use Rattle.net_link.specs.Events.{is_at}
use Rattle.net_link.specs.declared.event.Effect.{Effect}
use Rattle.net_link.specs.declared.event.Effect.TheVariants.{Added, Known, Refused, Nothing}
use Rattle.net_link.specs.declared.event.NetEvent.{NetEvent}
use Rattle.net_link.specs.declared.event.NetEvent.TheVariants.{Dialled, Handled}
use Rattle.member_core.specs.Keys.{is_write}
use Rattle.member_core.specs.Logs.{SetState, key_at, times, set_after}
use Rattle.member_core.specs.declared.key.Key.{Key}

-- ---- What a member may do with a request

-- A write is added or known only where the member takes writes: added where its log lacks the key, known where it has it. Any
-- write may be refused, and what is no write does nothing.
abbrev pub Fits : SetState → ℕ → Key → (is_write : Bool) → Effect → Type 0
Fits w member key true Added = (w.takes member ≡ true) × (times key (w.log member) ≡ 0)
Fits w member key true Known = (w.takes member ≡ true) × (1 ≤ times key (w.log member))
Fits w member key true Refused = Unit {0}
Fits w member key true Nothing = ⊥
Fits w member key false Added = ⊥
Fits w member key false Known = ⊥
Fits w member key false Refused = ⊥
Fits w member key false Nothing = Unit {0}

-- Behind these events the member may handle the stream's request of that number, with this effect: the whole request went out,
-- nobody handled it before, and no other member handled one of that stream.
pub record MayHandle (before : List NetEvent) (member stream nth : ℕ) (effect : Effect) : Type 0 where
  pub request : Message
  pub whole : slice_get (messages ((set_after before).out stream)) nth ≡ Some request
  pub fits : Fits (set_after before) member (key_at (set_after before) stream nth) (is_write request.body) effect
  pub once : (other : ℕ) (e : Effect) → ¬ (Contains before (Handled other stream nth e))
  pub one : (other n : ℕ) (e : Effect) → Contains before (Handled other stream n e) → other ≡ member

-- ---- What may be answered

-- A write took effect, now or before.
abbrev pub IsPlain : Effect → Type 0
IsPlain Added = Unit {0}
IsPlain Known = Unit {0}
IsPlain Refused = ⊥
IsPlain Nothing = ⊥

-- The request of that number was handled plainly: it was added or known at the member that was then the last elected.
pub record WasPlain (history : List NetEvent) (stream nth : ℕ) : Type 0 where
  pub before : List NetEvent
  pub after : List NetEvent
  pub effect : Effect
  pub here : history ≡ before ++ Handled ((set_after before).last) stream nth effect ∷ after
  pub plain : IsPlain effect

-- The reply says that the command was carried out, without errors of its writes or of their concern (CRUD, Error handling).
abbrev pub is_success : ReplyResult → Bool
is_success (said.Ok n modified) = true
is_success _ = false

abbrev pub says_ok : Document → Bool
says_ok reply = is_success (result_in reply)

-- The reply of that number on the stream answers the request of that number: the request was handled, the reply names its id,
-- and it says ok to a write only where that was handled plainly.
pub record IsAnswer (history : List NetEvent) (stream nth : ℕ) (reply : Message) : Type 0 where
  pub member : ℕ
  pub effect : Effect
  pub handled : Contains history (Handled member stream nth effect)
  pub request : Message
  pub whole : slice_get (messages ((set_after history).out stream)) nth ≡ Some request
  pub to : reply.to ≡ request.id
  pub ok : is_write request.body ≡ true → says_ok reply.body ≡ true → WasPlain history stream nth

-- ---- The histories

-- The stream was dialled.
abbrev pub IsDialled : List NetEvent → ℕ → Type 0
IsDialled history stream = (address : List ℕ) × Contains history (Dialled stream address)

-- Each stream is dialled once, and its events are that dial or stand behind it; a request is handled as a member may; and
-- whatever came so far are answers, the last perhaps cut.
pub record IsHonest (history : List NetEvent) : Type 0 where
  pub dialled_once : (before after : List NetEvent) (stream : ℕ) (address : List ℕ) → history ≡ before ++ Dialled stream address ∷ after → ¬ (IsDialled before stream)
  pub dialled : (before after : List NetEvent) (e : NetEvent) (stream : ℕ) → history ≡ before ++ e ∷ after → is_at e stream ≡ true → IsDialled (before ++ e ∷ []) stream
  pub handled : (before after : List NetEvent) (member stream nth : ℕ) (effect : Effect) → history ≡ before ++ Handled member stream nth effect ∷ after → MayHandle before member stream nth effect
  pub answered : (before after : List NetEvent) (stream nth : ℕ) (reply : Message) → history ≡ before ++ after
      → slice_get (messages ((set_after before).came stream)) nth ≡ Some reply → IsAnswer before stream nth reply

-- An honest history may go on with the event: the same of it alone, where only replies that were not whole before owe anything.
pub record MayFollow (before : List NetEvent) (e : NetEvent) : Type 0 where
  pub dialled_once : (stream : ℕ) (address : List ℕ) → e ≡ Dialled stream address → ¬ (IsDialled before stream)
  pub dialled : (stream : ℕ) → is_at e stream ≡ true → IsDialled (before ++ e ∷ []) stream
  pub handled : (member stream nth : ℕ) (effect : Effect) → e ≡ Handled member stream nth effect → MayHandle before member stream nth effect
  pub answered : (stream nth : ℕ) (reply : Message) → slice_get (messages ((set_after (before ++ e ∷ [])).came stream)) nth ≡ Some reply
      → slice_get (messages ((set_after before).came stream)) nth ≡ None → IsAnswer (before ++ e ∷ []) stream nth reply
