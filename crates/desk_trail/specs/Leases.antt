-- Which sessions a client's commands have (Driver Sessions; Retryable Writes).
use Rattle.std.specs.Prelude.{◌≡◌, ℕ, ℤ, Bool, true, false, not, ◌&&◌, Option, None, Some, is_some, length, slice_get, if◌then◌else◌}
use Rattle.std.specs.Option.{option_map, option_and_then}
use Rattle.bson_doc.specs.declared.ids.Lsid.{Lsid}
use Rattle.sess_book.specs.Sessions.{Sessions}
use Rattle.sess_book.specs.Entries as session
use Rattle.sess_book.specs.Entries.{SessEntry}
use Rattle.sess_book.specs.declared.session.Session.{Session}
use Rattle.write_retry.specs.declared.events.Next.{Next}
use Rattle.write_retry.specs.declared.events.Next.TheVariants as next
use Rattle.desk_trail.specs.States.{ClientState, CommandState, Selected, with_command}
use Rattle.desk_trail.specs.Facts.{Fact}
use Rattle.desk_trail.specs.Facts as fact

-- A command is at a server that it chose, and has not asked its pool yet: there it leases a session and draws a number (own: at
-- the choice, ahead of the check-out).
abbrev pub is_at_choice : Next → Bool
is_at_choice (next.CheckOut host) = true
is_at_choice n = false

-- It needs a session where the topology has session minutes, and has none yet (Driver Sessions, implicit sessions).
abbrev pub minutes_needed : CommandState → Option ℤ
minutes_needed c = if is_some c.session then None else option_and_then (λ (selected : Selected). selected.minutes) c.selected

-- It needs a number where it draws one, and has none yet (Retryable Writes, Generating Transaction Identifiers).
abbrev pub needs_number : CommandState → Bool
needs_number c = c.op.drew && not (is_some c.number)

-- It has all that it needs to ask its pool.
pub record IsEquipped (c : CommandState) : Type 0 where
  pub session : minutes_needed c ≡ None
  pub number : needs_number c ≡ false

-- A lease is of a new session, or of the one that was given back last.
abbrev pub lease_step : ℕ → Lsid → Bool → ℤ → SessEntry
lease_step place lsid true minutes = session.Made place lsid minutes
lease_step place lsid false minutes = session.Reused place minutes

-- The entry of the sessions that an entry of the trail is, where it is one: a command leases one that it needs, for as long
-- as the topology of its choice has it; it draws from its own, and gives that back.
abbrev pub session_step_of : CommandState → Fact → Option SessEntry
session_step_of c (fact.Leased op place lsid fresh) = option_map (lease_step place lsid fresh) (minutes_needed c)
session_step_of c (fact.Drew op number) = option_map (λ place. session.Drew place number) c.session
session_step_of c (fact.Returned op dirty kept) = option_map (λ place. session.Returned place dirty kept) c.session
session_step_of c f = None

-- The entry may stand among the sessions (Driver Sessions, Server Session Pool).
abbrev pub SessionAllows : ClientState → ℕ → Option SessEntry → Type 0
SessionAllows w moment None = ⊥
SessionAllows w moment (Some e) = session.MayStand w.sessions moment e

abbrev pub sessions_by : ℕ → Option SessEntry → Sessions → Sessions
sessions_by moment None s = s
sessions_by moment (Some e) s = session.after s moment e

-- The id that stands at a place: a new one has the sixteen bytes of a UUID (Driver Sessions, lsid).
abbrev pub IsIdAt : Sessions → ℕ → Lsid → Bool → Type 0
IsIdAt s place lsid true = length lsid.0 ≡ 16
IsIdAt s place lsid false = (x : Session) × (slice_get s.made place ≡ Some x) × (x.lsid ≡ lsid)

-- ---- When they may stand

-- A lease: of a command at its choice; a new session's id is a UUID, and a session that was there has its id.
pub record IsLease (w : ClientState) (moment op place : ℕ) (lsid : Lsid) (fresh : Bool) : Type 0 where
  pub running : CommandState
  pub there : slice_get w.commands op ≡ Some running
  pub chose : is_at_choice running.op.next ≡ true
  pub session : SessionAllows w moment (session_step_of running (fact.Leased op place lsid fresh))
  pub id : IsIdAt w.sessions place lsid fresh

-- A draw: of a command at its choice that needs a number.
pub record IsDraw (w : ClientState) (moment op : ℕ) (number : ℤ) : Type 0 where
  pub running : CommandState
  pub there : slice_get w.commands op ≡ Some running
  pub chose : is_at_choice running.op.next ≡ true
  pub needs : needs_number running ≡ true
  pub session : SessionAllows w moment (session_step_of running (fact.Drew op number))

-- A return: dirty where an attempt failed once its request was queued (Driver Sessions, Dirty sessions).
pub record IsReturn (w : ClientState) (moment op : ℕ) (dirty kept : Bool) : Type 0 where
  pub running : CommandState
  pub there : slice_get w.commands op ≡ Some running
  pub says : dirty ≡ running.is_dirty
  pub session : SessionAllows w moment (session_step_of running (fact.Returned op dirty kept))

-- ---- What they do

abbrev pub session_held : ClientState → ℕ → Fact → Option SessEntry
session_held w op f = option_and_then (λ c. session_step_of c f) (slice_get w.commands op)

abbrev pub with_sessions : ℕ → ℕ → Fact → ClientState → ClientState
with_sessions moment op f w = record w { sessions = sessions_by moment (session_held w op f) w.sessions }

abbrev pub leased_after : ℕ → Fact → ClientState → ClientState
leased_after moment (fact.Leased op place lsid fresh) w =
    with_command (with_sessions moment op (fact.Leased op place lsid fresh) w) op (λ c. record c { session = Some place })
leased_after moment (fact.Drew op number) w =
    with_command (with_sessions moment op (fact.Drew op number) w) op (λ c. record c { number = Some number })
leased_after moment (fact.Returned op dirty kept) w =
    with_command (with_sessions moment op (fact.Returned op dirty kept) w) op (λ c. record c { session = None })
leased_after moment f w = w
