-- What a call's stream gained in the history.
use Rattle.std.specs.Prelude.{◌≡◌, ℕ, true, List}
use Rattle.net_link.specs.Seen.{SaidNotYet, gained}
use Rattle.net_link.specs.declared.event.NetEvent.{NetEvent}
use Rattle.desk_wire.specs.declared.answers.Pulled.{Pulled}
use Rattle.desk_wire.specs.declared.answers.Pulled.TheVariants as pulled
use Rattle.desk_wire.specs.declared.answers.Pushed.{Pushed}
use Rattle.desk_wire.specs.declared.answers.Pushed.TheVariants as pushed

-- The view of the stream gained these bytes out and those that came; and at an end, a fault, or where there is nothing
-- yet, the net said so, in this call.
pub record Gains (stream : ℕ) (sent came : List ℕ) (answer : Pulled) (old new : List NetEvent) : Type 0 where
  pub is_out : (gained stream old new).out ≡ sent
  pub is_in : (gained stream old new).came ≡ came
  pub ended : answer ≡ pulled.End → (gained stream old new).ended ≡ true
  pub fault : answer ≡ pulled.Fault → (gained stream old new).fault ≡ true
  pub waits : answer ≡ pulled.NotYet → SaidNotYet stream old new

-- What a push's answer says as that of a turn: a push that sent all says nothing of messages.
abbrev pub turned_as : Pushed → Pulled
turned_as pushed.Done = pulled.Memory
turned_as pushed.NotYet = pulled.NotYet
turned_as pushed.Fault = pulled.Fault
turned_as pushed.Memory = pulled.Memory
