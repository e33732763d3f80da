-- What a wired trail keeps of each stream, between its calls. Nothing of it is a promise of this crate's own.
use Rattle.std.specs.Prelude.{◌≡◌, ◌≢◌, ◌≤◌, ℕ, ℤ, Bool, true, List, [], ◌++◌, Option, None, Some, All}
use Rattle.std.specs.BTreeMap.{is_at}
use Rattle.std.specs.Map.{lookup}
use Rattle.std.specs.Ordering.{nat_cmp}
use Rattle.entry_judge.specs.declared.timed.Timed.{Timed}
use Rattle.msg_wire.specs.Fronts.{IsFront}
use Rattle.msg_wire.specs.Messages.{Begins}
use Rattle.msg_wire.specs.declared.message.Message.{Message}
use Rattle.net_link.specs.Seen.{Seen, seen}
use Rattle.net_link.specs.declared.event.NetEvent.{NetEvent}
use Rattle.desk_wire.specs.State.{State}
use Rattle.desk_wire.specs.declared.answers.Pulled.{Pulled}
use Rattle.desk_wire.specs.declared.answers.Pulled.TheVariants as pulled
use Rattle.topo_rules.specs.declared.event.TopoEvent.{TopoEvent}
use Rattle.topo_rules.specs.declared.event.TopoEvent.TheVariants as event
use Rattle.desk_trail.specs.declared.request.Request.{Request}
use Rattle.desk_trail.specs.Facts.{Fact}
use Rattle.desk_trail.specs.Streams.{Account, no_account}
use Rattle.legal_trail.specs.Recorded.{Recorded, told_in}
use Rattle.wired_trail.specs.Faults.{IsCounted}
use Rattle.wired_trail.specs.Hearing.{told_of}
use Rattle.wired_trail.specs.Lines.{Lines, line_at}
use Rattle.wired_trail.specs.Standing.{HasLines}
use Rattle.wired_trail.specs.Wired.{Answers, IfTime, IsStreamWired, bytes_answered, bytes_of, no_dials_in, no_dials_told}
use Rattle.wired_trail.specs.declared.lines.Line.{Line}
use Rattle.wired_trail.specs.declared.pending.Pending.{Pending}
use Rattle.wired_trail.specs.declared.pending.Pending.TheVariants as is

-- ---- What is pending

abbrev pub Pendings : Type 0
Pendings = List (ℕ × Pending)

abbrev pub pending_at : Pendings → ℕ → Option Pending
pending_at pendings stream = lookup (is_at (nat_cmp stream)) pendings

-- On the other streams all is as it was.
abbrev pub KeepsPending : ℕ → Pendings → Pendings → Type 0
KeepsPending stream old new = (other : ℕ) → other ≢ stream → pending_at new other ≡ pending_at old other

abbrev pub pending_behind : Pulled → ℤ → Pending
pending_behind (pulled.Whole message) id = is.Message
pending_behind pulled.NotYet id = is.Reply id
pending_behind answer id = is.Over

abbrev pub queued_on : ℤ → Pending → Pending
queued_on id is.Nothing = is.Reply id
queued_on id p = is.Over

abbrev pub told_on : Bool → Pending → Pending
told_on true is.Message = is.Nothing
told_on answered p = is.Over

-- The stream on which a reply that is offered came.
abbrev pub stream_offered : TopoEvent → Option ℕ → Option ℕ
stream_offered (event.Reply description sample) stream = stream
stream_offered e stream = None

-- ---- A stream that is in use

-- What came is the answers, and what the wire holds; what went out is the bytes of the requests, but for what is unsent.
pub record Holds (w : State) (v : Seen) (a : Account) : Type 0 where
  pub answers : List Message
  pub front : List ℕ
  pub came : Begins v.came answers w.held
  pub said : Answers answers a.answered
  pub out : v.out ≡ bytes_answered a.answered ++ front
  pub cut : front ++ w.unsent ≡ bytes_of a.last
  pub going : a.how ≡ None
  pub asks_on : IsFront w.held

-- The request of that id is the last.
pub record Waits (id : ℤ) (a : Account) : Type 0 where
  pub request : Request
  pub waits : a.last ≡ Some request
  pub same : request.id ≡ id

-- By what is pending: the wire goes on where the answers ended; or all that came is told, or lies in a message that no entry tells
-- of yet; or nothing more is asked or read.
abbrev pub Fits : Pending → State → Seen → Account → Type 0
Fits is.Nothing w v a = Holds w v a × (a.last ≡ None)
Fits (is.Reply id) w v a = Holds w v a × Waits id a
Fits is.Message w v a = IsStreamWired v a × (w.held ≡ []) × (w.unsent ≡ [])
Fits is.Over w v a = IsStreamWired v a

abbrev pub FitsAt : Option Line → Option Pending → Seen → Account → Type 0
FitsAt (Some line) (Some p) v a = Fits p line.wire v a
FitsAt line p v a = IsStreamWired v a

-- ---- All streams

-- Each stream fits; of numbers that no dial gave nothing is told; and dials and times are those of the history.
pub record IsTold (history : List NetEvent) (next : ℕ) (lines : Lines) (pendings : Pendings) (r : Recorded) : Type 0 where
  pub streams : (stream : ℕ) → FitsAt (line_at lines stream) (pending_at pendings stream) (seen stream history) (told_of r stream)
  pub given : (stream : ℕ) → next ≤ stream → told_of r stream ≡ no_account
  pub dials : no_dials_told (told_in r) ≤ no_dials_in history
  pub times : All (λ (t : Timed Fact). IfTime history t.what) (told_in r)

-- What stands between two calls.
pub record IsKept (tells : Type 0) (live : ℕ → Type 0) (next faults : ℕ) (history : List NetEvent) (lines : Lines) (pendings : Pendings) (r : Recorded) : Type 0 where
  pub wires : HasLines live next lines r.point.state.streams
  pub counted : IsCounted faults r.steps
  pub told : tells → IsTold history next lines pendings r
