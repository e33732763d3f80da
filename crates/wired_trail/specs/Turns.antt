-- What a turn on a stream does, and a push.
use Rattle.std.specs.Prelude.{◌≡◌, ℕ, Bool, List, [], Option, None, Some, if◌then◌else◌}
use Rattle.net_link.specs.declared.event.NetEvent.{NetEvent}
use Rattle.net_link.specs.Calls.{close_events}
use Rattle.net_link.specs.Events.{Adds}
use Rattle.desk_wire.specs.declared.answers.Pulled.{Pulled}
use Rattle.desk_wire.specs.declared.answers.Pushed.{Pushed}
use Rattle.desk_wire.specs.Exchange.{Exchanges}
use Rattle.desk_wire.specs.Pull.{pull_shuts}
use Rattle.desk_wire.specs.Push.{Pushes, push_shuts}
use Rattle.desk_wire.specs.State.{State}
use Rattle.wired_trail.specs.declared.lines.Line.{Line}

-- The line behind a turn: it is there with its wire, but where the stream ended, failed, or brought what is no message.
abbrev pub line_behind : Bool → Line → State → Option Line
line_behind over before wire = if over then None else Some (record before { wire = wire })

-- The stream is closed where it is not to be used any more.
abbrev pub closes : Bool → ℕ → List NetEvent
closes over stream = if over then close_events stream else []

-- A turn on a stream: one exchange by its wire, and behind it the close of a stream that is not to be used any more.
pub record Turns (tells : Type 0) (stream : ℕ) (answer : Pulled) (before : Line) (now : Option Line) (old new : List NetEvent) : Type 0 where
  pub wire : State
  pub between : List NetEvent
  pub trades : Exchanges tells before.wire wire old between answer
  pub left : now ≡ line_behind (pull_shuts answer) before wire
  pub closed : tells → Adds (closes (pull_shuts answer) stream) between new

-- A push on a stream: the front of what was unsent is sent, and behind it the close of a stream that failed.
pub record Sends (tells : Type 0) (stream : ℕ) (answer : Pushed) (before : Line) (now : Option Line) (old new : List NetEvent) : Type 0 where
  pub rest : List ℕ
  pub between : List NetEvent
  pub pushes : Pushes tells stream before.wire.unsent rest old between answer
  pub left : now ≡ line_behind (push_shuts answer) before (record before.wire { unsent = rest; is_shut = push_shuts answer })
  pub closed : tells → Adds (closes (push_shuts answer) stream) between new
