-- A command dials a connection (CMAP, Establishing a Connection; MongoDB Handshake).
use Rattle.std.specs.Prelude.{◌≡◌, ℕ, ℤ, ◌+◌, true, false, [], ◌∷◌, ◌++◌, None, Some, length}
use Rattle.write_retry.specs.declared.events.Unsent.TheVariants as unsent
use Rattle.desk_trail.specs.declared.entry.Entry.TheVariants as entry
use Rattle.desk_trail.specs.declared.request.Purpose.TheVariants as purpose
use Rattle.desk_trail.specs.declared.request.Request.{Request}
use Rattle.desk_trail.specs.Attempts.{not_lent_offers}
use Rattle.desk_trail.specs.Facts as fact
use Rattle.desk_trail.specs.Owed.{IsHello}
use Rattle.desk_trail.specs.States.{ClientState, CommandState, ServerState, stream_of}
use Rattle.desk_trail.specs.Written.{a_request, an_entry}
use Rattle.desk_wire.specs.State.{opened}
use Rattle.legal_trail.specs.Recorded.{Adds, Recorded}
use Rattle.wired_trail.specs.Lines.{KeepsOthers, Lines, line_at}
use Rattle.wired_trail.specs.declared.stream_use.StreamUse.TheVariants as for_use
use Rattle.cmd_step.specs.Losses.{IsLost}
use Rattle.cmd_step.specs.Places.{with_both}
use Rattle.cmd_step.specs.declared.place.At.{At}

-- The client with a server and a command in their places, a stream more that was dialled, and a request more.
abbrev pub with_dial : ClientState → At → ℕ → ServerState → CommandState → ClientState
with_dial w at stream s c = record (with_both w at s c) { streams = stream ∷ w.streams; requests = w.requests + 1 }

-- The connection is dialled on the stream of its greeting: entries say so and that it says hello.
pub record HasGreeted (at : At) (conn : ℕ) (request : Request) (old new : Recorded) (t : ServerState) (d : CommandState) : Type 0 where
  pub mid : Recorded
  pub dialled : Adds an_entry old.lists at.moment (entry.Dialled at.op at.host conn (Some request.stream)) (fact.Dialled at.op at.host conn (Some request.stream)) old mid
  pub greets : IsHello (purpose.Greeting at.host conn) request.stream true request
  pub asked : Adds a_request (record mid.lists { requests = mid.lists.requests ++ request ∷ [] }) at.moment (entry.Asked (length mid.lists.requests))
      (fact.Asked (length mid.lists.requests) request) mid new
  pub moved : new.point.state ≡ with_dial old.point.state at request.stream t d
  pub paid : new.point.owed ≡ []
  pub kept : stream_of t conn ≡ Some request.stream

-- The net gave a stream: the connection is dialled on it, and its greeting is queued whole; the other streams' lines are as they
-- were.
pub record IsDialled (at : At) (conn : ℕ) (hello : ℤ) (old new : Recorded) (before after : Lines) (t : ServerState) (d : CommandState) : Type 0 where
  pub request : Request
  pub greeted : HasGreeted at conn request old new t d
  pub id : request.id ≡ hello
  pub unused : line_at before request.stream ≡ None
  pub queued : line_at after request.stream ≡ Some (record { wire = record (opened request.stream) { unsent = request.bytes }; is_for = for_use.Conn at.host conn })
  pub others : KeepsOthers request.stream before after

-- The net gave none: entries say so and that the connection is lost; the event that the server is broken is to be offered, where
-- that stands in the topology still, and no line changes.
pub record HasFailed (at : At) (conn : ℕ) (old new : Recorded) (before after : Lines) (t : ServerState) (d : CommandState) : Type 0 where
  pub mid : Recorded
  pub dialled : Adds an_entry old.lists at.moment (entry.Dialled at.op at.host conn None) (fact.Dialled at.op at.host conn None) old mid
  pub lost : IsLost at (record { conn = conn; why = unsent.Dial false; news = None }) mid new t d
  pub moved : new.point.state ≡ with_both old.point.state at t d
  pub offers : new.point.owed ≡ not_lent_offers (Some (record { server = t; generation = t.pool.state.generation })) (unsent.Dial false)
  pub lines : after ≡ before
