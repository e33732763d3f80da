-- What private functions say of a command that moves.
use Rattle.std.specs.Prelude.{◌≡◌, ◌≤◌, ℕ, Some, slice_get, slice_set}
use Rattle.cmd_build.specs.Sizes.{IsWithin}
use Rattle.cmd_build.specs.declared.command.Command.{Command}
use Rattle.sess_book.specs.Sessions.{Sessions}
use Rattle.desk_trail.specs.Clients.{Client}
use Rattle.desk_trail.specs.States.{CommandState}
use Rattle.legal_trail.specs.Recorded.{Recorded}
use Rattle.sess_step.specs.Choices.{AreIds}
use Rattle.desk_core.specs.Kept.{IsReady}
use Rattle.desk_core.specs.State.{Core}

-- The core may write at a moment whatever may stand next, and its client's command of that number is this.
pub record IsAtWork {N : Type 0} (d : Core N) (moment op : ℕ) (c : CommandState) : Type 0 where
  pub ready : IsReady d moment
  pub there : slice_get d.trail.point.state.commands op ≡ Some c

-- Of a client's commands one is another now, which is this, and the others are as they were; so are its sessions, with their ids.
pub record MovesOne (op : ℕ) (c : CommandState) (old new : Recorded) : Type 0 where
  pub commands : new.point.state.commands ≡ slice_set old.point.state.commands op c
  pub sessions : new.point.state.sessions ≡ old.point.state.sessions
  pub ids : new.lists.sessions ≡ old.lists.sessions

-- One is, and the sessions are these now, with their ids.
pub record MovesLease (op : ℕ) (c : CommandState) (s : Sessions) (old new : Recorded) : Type 0 where
  pub commands : new.point.state.commands ≡ slice_set old.point.state.commands op c
  pub sessions : new.point.state.sessions ≡ s
  pub ids : AreIds new.lists.sessions s

-- So it is with the client's sessions and their ids, of which none was leased or given back at a later moment.
pub record IsInStep {N : Type 0} (d : Core N) (moment op : ℕ) (c : CommandState) (s : Sessions) : Type 0 where
  pub work : IsAtWork d moment op c
  pub book : d.trail.point.state.sessions ≡ s
  pub ids : AreIds d.trail.lists.sessions s
  pub late : s.last ≤ moment

-- A phase of its step is over: the command and the sessions are these now, and the other commands are as they were.
pub record HasGone {N : Type 0} (d e : Core N) (moment op : ℕ) (c : CommandState) (s : Sessions) : Type 0 where
  pub step : IsInStep e moment op c s
  pub commands : e.trail.point.state.commands ≡ slice_set d.trail.point.state.commands op c

-- The documents of the client's command of that number have at most 90 levels (own).
abbrev pub IsShallow : Client → ℕ → Type 0
IsShallow client op = (c : Command) → slice_get client.commands op ≡ Some c → IsWithin 90 c.act
