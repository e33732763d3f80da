-- What an exchange says.
use Rattle.std.specs.Prelude.{◌≡◌, ◌≢◌, ◌<◌, ◌≤◌, ◌^◌, ◌-◌, ℕ, List, [], ◌∷◌, ◌++◌}
use Rattle.net_link.specs.declared.event.NetEvent.{NetEvent}
use Rattle.net_link.specs.declared.event.NetEvent.TheVariants as event
use Rattle.msg_wire.specs.Framing.{Framed}
use Rattle.msg_wire.specs.Fronts.{IsFront, IsRefused}
use Rattle.desk_wire.specs.Made.{InOrder, Made, is_turn}
use Rattle.desk_wire.specs.State.{State}
use Rattle.desk_wire.specs.declared.answers.Pulled.{Pulled}
use Rattle.desk_wire.specs.declared.answers.Pulled.TheVariants as pulled
use Rattle.desk_wire.specs.declared.exchanging.Exchanged.{Exchanged}
use Rattle.desk_wire.specs.declared.exchanging.Exchanged.TheVariants as exchanged

-- The answer of the last push or pull: an exchange is late where that was that there is nothing yet.
abbrev pub last_answer : Exchanged → Pulled
last_answer (exchanged.Whole message) = pulled.Whole message
last_answer exchanged.End = pulled.End
last_answer exchanged.Fault = pulled.Fault
last_answer (exchanged.Bad first) = pulled.Bad first
last_answer exchanged.Memory = pulled.Memory
last_answer (exchanged.Late moment) = pulled.NotYet

-- The net's answer that there is nothing yet: to a write while bytes are unsent, else to a read.
abbrev pub waiting : ℕ → List ℕ → NetEvent
waiting stream [] = event.Dry stream
waiting stream (byte ∷ unsent) = event.Full stream

-- The net's last answer, where it neither took nor gave bytes.
abbrev pub exchange_end : ℕ → List ℕ → Pulled → List NetEvent
exchange_end stream unsent (pulled.Whole message) = []
exchange_end stream unsent pulled.NotYet = waiting stream unsent ∷ []
exchange_end stream unsent pulled.End = event.Ended stream ∷ []
exchange_end stream unsent pulled.Fault = event.Fault stream ∷ []
exchange_end stream unsent (pulled.Bad first) = []
exchange_end stream unsent pulled.Memory = []

-- What became of the bytes that were held and those that came, and of those that were unsent: a message, an end and a
-- refusal come only behind all of them.
abbrev pub Trades : List ℕ → State → Pulled → Type 0
Trades bytes new (pulled.Whole message) = Framed bytes message × (new.held ≡ []) × (new.unsent ≡ [])
Trades bytes new pulled.NotYet = (new.held ≡ bytes) × (new.unsent ≡ [] → IsFront new.held)
Trades bytes new pulled.End = (new.held ≡ bytes) × IsFront new.held × (new.unsent ≡ [])
Trades bytes new pulled.Fault = (new.held ≡ bytes) × (new.unsent ≡ [] → IsFront new.held)
Trades bytes new (pulled.Bad first) = (new.held ≡ bytes) × IsRefused new.held first × (new.unsent ≡ [])
Trades bytes new pulled.Memory = new.held ≡ bytes

-- The front of what was unsent was sent, in order; bytes came only behind all of it; and what was asked of the net was
-- no more than that, all writes before all reads.
pub record Exchanges (tells : Type 0) (before now : State) (old new : List NetEvent) (answer : Pulled) : Type 0 where
  pub sent : List ℕ
  pub came : List ℕ
  pub joined : sent ++ now.unsent ≡ before.unsent
  pub behind : now.unsent ≢ [] → came ≡ []
  pub gives : Trades (before.held ++ came) now answer
  pub told : tells → Made (is_turn before.stream) sent came (exchange_end before.stream now.unsent answer) old new
  pub order : tells → InOrder before.stream before.unsent now.unsent (exchange_end before.stream now.unsent answer) old new

-- Why a turn had to wait: where all is sent, nothing lies in the inbox and the peer has not ended; else the out-buffer
-- is full.
abbrev pub MustWait : List ℕ → Type 0 → List ℕ → Type 0 → Type 0
MustWait [] full inbox ended = (inbox ≡ []) × ¬ ended
MustWait (byte ∷ unsent) full inbox ended = full

-- Where an exchange was late, the clock showed that moment, which is at or past the limit.
-- own: a limit at the greatest moment that there is stands for none, since a clock may stand still there.
abbrev pub IfLate : (ℕ → Type 0) → ℕ → Exchanged → Type 0
IfLate shows limit (exchanged.Late moment) = shows moment × (limit ≤ moment) × (limit < 2 ^ 64 - 1)
IfLate shows limit _ = Unit {0}
