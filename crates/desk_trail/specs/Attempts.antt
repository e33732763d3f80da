-- A command's attempts: what answers what was to be done next, and how attempts end (Retryable Writes).
use Rattle.std.specs.Prelude.{◌≡◌, ◌≤◌, ℕ, ◌+◌, Bool, true, false, ◌&&◌, ◌||◌, List, [], ◌∷◌, ◌++◌, Option, None, Some, is_some, slice_get, if◌then◌else◌}
use Rattle.std.specs.Option.{option_and_then}
use Rattle.cmd_outcome.specs.declared.reading.Reading.{Reading}
use Rattle.cmd_outcome.specs.declared.reading.StateChange.{StateChange}
use Rattle.hello_reply.specs.declared.server_description.ServerDescription.{ServerDescription}
use Rattle.pool_book.specs.Pool.{held_of}
use Rattle.pool_book.specs.declared.connections.Held.{Held}
use Rattle.topo_rules.specs.declared.event.TopoEvent.{TopoEvent}
use Rattle.topo_rules.specs.declared.event.TopoEvent.TheVariants as event
use Rattle.write_retry.specs.Machine as machine
use Rattle.write_retry.specs.Machine.{allows}
use Rattle.write_retry.specs.declared.attempt_end.AttemptEnd.{AttemptEnd}
use Rattle.write_retry.specs.declared.attempt_end.AttemptEnd.TheVariants as attempt
use Rattle.write_retry.specs.declared.events.Next.TheVariants as next
use Rattle.write_retry.specs.declared.events.OpEvent.{OpEvent}
use Rattle.write_retry.specs.declared.events.OpEvent.TheVariants as op_event
use Rattle.write_retry.specs.declared.events.Unsent.{Unsent}
use Rattle.write_retry.specs.declared.events.Unsent.TheVariants as unsent
use Rattle.write_retry.specs.declared.outcome.Outcome.{Outcome}
use Rattle.desk_trail.specs.declared.entry.LookedHow.{LookedHow}
use Rattle.desk_trail.specs.declared.entry.LookedHow.TheVariants as looked
use Rattle.desk_trail.specs.declared.request.Purpose.{Purpose}
use Rattle.desk_trail.specs.declared.request.Purpose.TheVariants as purpose
use Rattle.desk_trail.specs.Clients.{Client, socket_limit}
use Rattle.desk_trail.specs.States.{ClientState, ServerState, CommandState, CheckOut, Nothing, Dials, Has, Selected, description_of, with_command}
use Rattle.desk_trail.specs.Facts.{Fact}
use Rattle.desk_trail.specs.Facts as fact
use Rattle.desk_trail.specs.Leases.{IsEquipped}
use Rattle.desk_trail.specs.Looks.{is_numbered_at}
use Rattle.desk_trail.specs.Owed.{Owed}
use Rattle.desk_trail.specs.Owed as owed

-- ---- What answers what was to be done next

-- An event of a command.
abbrev pub OfCommand : Type 0
OfCommand = ℕ × OpEvent

-- A misfit, with the wire versions that it speaks.
abbrev pub misfit_event : ℕ → Option ServerDescription → Option OpEvent
misfit_event host None = None
misfit_event host (Some d) = Some (op_event.Incompatible host d.min_wire d.max_wire)

-- What a look tells the command; one that found none yet tells it nothing.
abbrev pub look_event : Client → ClientState → LookedHow → Option OpEvent
look_event client w (looked.Chosen host) = Some (op_event.Chosen host (is_numbered_at client w host))
look_event client w looked.NoneFits = None
look_event client w looked.Failed = Some op_event.NoServer
look_event client w (looked.Incompatible host) = misfit_event host (option_and_then (description_of w) (slice_get w.servers host))

-- What an attempt's end tells it.
abbrev pub end_event : AttemptEnd → OpEvent
end_event (attempt.Replied reading) = op_event.Replied reading
end_event attempt.Cut = op_event.Cut
end_event attempt.Fault = op_event.Fault
end_event attempt.TimedOut = op_event.TimedOut
end_event (attempt.Bad at) = op_event.Bad at
end_event (attempt.Unsent u) = op_event.Unsent u

-- A request that was queued is one of a command, or is nothing to it. Whether all of its bytes are out no entry tells.
abbrev pub asked_event : Purpose → Option OfCommand
asked_event (purpose.Command op) = Some (op, op_event.Sent)
asked_event (purpose.Check host) = None
asked_event (purpose.Greeting host conn) = None
asked_event purpose.Farewell = None

abbrev pub to_command : ℕ → Option OpEvent → Option OfCommand
to_command op None = None
to_command op (Some e) = Some (op, e)

-- The event of a command that an entry is, where it is one (Retryable Writes, Executing Retryable Write Commands).
abbrev pub command_step : Client → ClientState → Fact → Option OfCommand
command_step client w (fact.Looked op a b kept picked) = to_command op (look_event client w picked)
command_step client w (fact.Lent op host conn) = Some (op, op_event.Lent)
command_step client w (fact.Asked place request) = asked_event request.purpose
command_step client w (fact.Ended op end) = Some (op, end_event end)
command_step client w f = None

-- It answers what was to be done next.
abbrev pub CommandAllows : ClientState → Option OfCommand → Type 0
CommandAllows w None = Unit {0}
CommandAllows w (Some e) = (c : CommandState) × (slice_get w.commands e.0 ≡ Some c) × (allows c.op.next e.1 ≡ true)

abbrev pub with_event : OpEvent → CommandState → CommandState
with_event e c = record c { op = machine.after c.op e }

abbrev pub commands_after : Option OfCommand → ClientState → ClientState
commands_after None w = w
commands_after (Some e) w = with_command w e.0 (with_event e.1)

-- ---- When its other entries may stand

-- A command of that number is so.
abbrev pub AtCommand : ClientState → ℕ → (CommandState → Type 0) → Type 0
AtCommand w op P = (c : CommandState) × (slice_get w.commands op ≡ Some c) × P c

-- A server is to be looked for, and the command was not answered.
abbrev pub IsToLook : CommandState → Type 0
IsToLook c = c.op.next ≡ next.Select

-- A connection is to be checked out from that host's pool, and was not asked for yet.
pub record IsToEnter (host : ℕ) (c : CommandState) : Type 0 where
  pub chose : c.op.next ≡ next.CheckOut host
  pub free : c.check_out ≡ Nothing
  pub equipped : IsEquipped c

-- How an attempt may end by itself: its request was queued on a connection that is lent to it; as timed out once
-- socketTimeoutMS is over (URI Options, socketTimeoutMS).
abbrev pub EndsBy : Client → ℕ → ℕ → AttemptEnd → Type 0
EndsBy client asked moment attempt.TimedOut = asked + socket_limit client ≤ moment
EndsBy client asked moment end = Unit {0}

-- A connection is lent to it.
abbrev pub is_lent : CheckOut → Bool
is_lent (Has host ticket conn) = true
is_lent h = false

pub record IsEnd (client : Client) (moment : ℕ) (end : AttemptEnd) (c : CommandState) : Type 0 where
  pub lent : is_lent c.check_out ≡ true
  pub asked : ℕ
  pub since : c.asked ≡ Some asked
  pub ends : EndsBy client asked moment end

-- It is answered by what is to be done next, and holds no connection (Retryable Writes, Executing Retryable Write Commands).
pub record IsAnswer (outcome : Outcome) (c : CommandState) : Type 0 where
  pub answers : c.op.next ≡ next.Answer outcome
  pub free : c.check_out ≡ Nothing
  pub once : c.is_finished ≡ false

-- ---- What they do

-- A network error or a faulty answer behind a request leaves the session dirty (Driver Sessions, Dirty sessions).
abbrev pub is_failure : AttemptEnd → Bool
is_failure (attempt.Replied reading) = false
is_failure attempt.Cut = true
is_failure attempt.Fault = true
is_failure attempt.TimedOut = true
is_failure (attempt.Bad at) = true
is_failure (attempt.Unsent u) = false

abbrev pub host_of : Option Selected → List ℕ
host_of None = []
host_of (Some selected) = selected.host ∷ []

abbrev pub end_by : AttemptEnd → CommandState → CommandState
end_by end c = record c {
  selected = None;
  tried = c.tried ++ host_of c.selected;
  dialled = None;
  asked = None;
  is_dirty = c.is_dirty || is_some c.asked && is_failure end;
}

abbrev pub asked_by : ℕ → Purpose → ClientState → ClientState
asked_by moment (purpose.Command op) w = with_command w op (λ c. record c { asked = Some moment })
asked_by moment (purpose.Check host) w = w
asked_by moment (purpose.Greeting host conn) w = w
asked_by moment purpose.Farewell w = w

abbrev pub finished : CommandState → CommandState
finished c = record c { selected = None; is_finished = true }

-- ---- What they owe

-- The server, and the generation of the connection with which a command is.
pub record Endpoint : Type 0 where
  pub server : ServerState
  pub generation : ℕ

abbrev pub endpoint_in : ServerState → Option Held → Option Endpoint
endpoint_in s None = None
endpoint_in s (Some h) = Some (record { server = s; generation = h.generation })

abbrev pub endpoint_lent : ServerState → ℕ → Option Endpoint
endpoint_lent s conn = endpoint_in s (held_of conn s.pool.state.lent)

abbrev pub endpoint_pending : ServerState → ℕ → Option Endpoint
endpoint_pending s conn = endpoint_in s (held_of conn s.pool.state.pending)

abbrev pub endpoint_of : ClientState → CheckOut → Option Endpoint
endpoint_of w (Has host ticket conn) = option_and_then (λ s. endpoint_lent s conn) (slice_get w.servers host)
endpoint_of w (Dials host ticket conn) = option_and_then (λ s. endpoint_pending s conn) (slice_get w.servers host)
endpoint_of w h = None

abbrev pub endpoint_at : ClientState → ℕ → Option Endpoint
endpoint_at w op = option_and_then (λ c. endpoint_of w c.check_out) (slice_get w.commands op)

-- An error is offered where its server stands in the topology still (SDAM, Error handling).
abbrev pub offer_where : Endpoint → TopoEvent → List Owed
offer_where s e = if s.server.has_left then [] else owed.Offered e ∷ []

abbrev pub broken_by : Option Endpoint → List Owed
broken_by None = []
broken_by (Some s) = offer_where s (event.Broken s.server.address (Some s.generation))

-- A state change error of a reply is offered with the reply's topology version.
abbrev pub refused_with : Reading → Option StateChange → Endpoint → List Owed
refused_with reading None s = []
refused_with reading (Some change) s =
    offer_where s (event.Refused s.server.address reading.version s.generation change.shutdown)

abbrev pub refused_by : Reading → Option Endpoint → List Owed
refused_by reading None = []
refused_by reading (Some s) = refused_with reading reading.state s

-- What the end of an attempt owes: a state change error, and a network error but a timeout, is offered; then the connection is
-- checked in (SDAM, Error handling: network errors, state change errors; CMAP, Checking In a Connection).
abbrev pub end_owes : ℕ → Option Endpoint → AttemptEnd → List Owed
end_owes op s (attempt.Replied reading) = refused_by reading s ++ owed.CheckedIn op false ∷ []
end_owes op s attempt.Cut = broken_by s ++ owed.CheckedIn op true ∷ []
end_owes op s attempt.Fault = broken_by s ++ owed.CheckedIn op true ∷ []
end_owes op s attempt.TimedOut = owed.CheckedIn op true ∷ []
end_owes op s (attempt.Bad at) = owed.CheckedIn op true ∷ []
end_owes op s (attempt.Unsent (unsent.TooLarge size most)) = owed.CheckedIn op false ∷ []
end_owes op s (attempt.Unsent u) = []

-- A connection that could not be made, or whose greeting was refused, is offered as broken; one whose greeting was no message is
-- not (SDAM, Error handling: network error before the handshake completes; own: bad bytes).
abbrev pub not_lent_offers : Option Endpoint → Unsent → List Owed
not_lent_offers s (unsent.Dial false) = broken_by s
not_lent_offers s (unsent.Greeting code) = broken_by s
not_lent_offers s u = []

-- A session that is held is given back (Driver Sessions, returning a session).
abbrev pub finish_owes : ℕ → Option CommandState → List Owed
finish_owes op None = []
finish_owes op (Some c) = if is_some c.session then owed.Returned op ∷ [] else []
