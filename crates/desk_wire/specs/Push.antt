-- What pushing says.
use Rattle.std.specs.Prelude.{◌≡◌, ℕ, Bool, true, false, List, [], ◌∷◌, ◌++◌}
use Rattle.net_link.specs.Events.{Adds}
use Rattle.net_link.specs.declared.event.NetEvent.{NetEvent}
use Rattle.net_link.specs.declared.event.NetEvent.TheVariants as event
use Rattle.desk_wire.specs.Made.{Made, is_write}
use Rattle.desk_wire.specs.declared.answers.Pushed.{Pushed}
use Rattle.desk_wire.specs.declared.answers.Pushed.TheVariants as pushed

-- The net's last answer, where it took nothing: its out-buffer was full, or the stream failed.
abbrev pub push_end : ℕ → Pushed → List NetEvent
push_end stream pushed.Done = []
push_end stream pushed.NotYet = event.Full stream ∷ []
push_end stream pushed.Fault = event.Fault stream ∷ []
push_end stream pushed.Memory = []

-- A wire whose stream failed is shut.
abbrev pub push_shuts : Pushed → Bool
push_shuts pushed.Fault = true
push_shuts _ = false

-- The front of what was unsent was sent, in order, and the rest is unsent; where nothing was, nothing was asked of the net.
pub record Pushes (tells : Type 0) (stream : ℕ) (unsent rest : List ℕ) (old new : List NetEvent) (answer : Pushed) : Type 0 where
  pub sent : List ℕ
  pub joined : sent ++ rest ≡ unsent
  pub told : tells → Made (is_write stream) sent [] (push_end stream answer) old new
  pub idle : tells → unsent ≡ [] → Adds [] old new
