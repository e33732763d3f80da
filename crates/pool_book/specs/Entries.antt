-- The entries of a pool: when each may stand, what the pool is behind it, and what must follow at once.
use Rattle.std.specs.Prelude.{◌≡◌, ℕ, ◌+◌, ◌-◌, Bool, true, false, Option, Some, None, List, [], ◌∷◌, ◌++◌, length, map, take, slice_get, option_to_list, if◌then◌else◌}
use Rattle.std.specs.Option.{option_map}
use Rattle.pool_book.specs.declared.state.PoolState.{PoolState}
use Rattle.pool_book.specs.declared.state.PoolState.TheVariants as state_of
use Rattle.pool_book.specs.declared.ticket.Ticket.{Ticket}
use Rattle.pool_book.specs.declared.connections.Held.{Held}
use Rattle.pool_book.specs.declared.connections.Available.{Available}
use Rattle.pool_book.specs.declared.answers.CloseReason.{CloseReason}
use Rattle.pool_book.specs.declared.answers.CloseReason.TheVariants.{Errored, PoolClosed}
use Rattle.pool_book.specs.Pool.{Pool, is_paused, is_closed, ticket_of, without_ticket, held_of, without_held, without_available, last_of, is_perished, perish_reason, shut_reason, is_worthless, is_kept, is_cleared, is_late, is_served, has_room, can_take}

-- Why a ticket has no connection (CMAP, ConnectionCheckOutFailedEvent: poolClosed, connectionError for a cleared pool,
-- timeout, connectionError for a connection that was lost as it was dialled).
pub data CheckOutFailure : Type 0 where
  Closed : CheckOutFailure
  Cleared : (g : ℕ) → CheckOutFailure
  Late : CheckOutFailure
  Lost : (conn : ℕ) → CheckOutFailure

-- What happens in a pool (CMAP, Events).
pub data PoolEntry : Type 0 where
  Ready : PoolEntry  -- it is made ready
  Clear : PoolEntry  -- it is cleared
  Shut : PoolEntry  -- it is closed
  Entered : (number : ℕ) → PoolEntry  -- a ticket begins to wait
  Left : (number : ℕ) → PoolEntry  -- a ticket waits no more, by its owner's choice
  Lent : (number conn : ℕ) → PoolEntry  -- a ticket's owner gets a connection
  Dialled : (number conn : ℕ) → PoolEntry  -- a ticket's owner dials a connection
  Settled : (number conn : ℕ) (stale : Bool) → PoolEntry  -- the dialled connection is established
  NotLent : (number : ℕ) (why : CheckOutFailure) → PoolEntry  -- a ticket's owner gets none
  CheckedIn : (number conn : ℕ) (errored : Bool) → PoolEntry  -- a ticket's owner gives it back
  ConnShut : (conn : ℕ) (reason : CloseReason) → PoolEntry  -- a connection is shut

-- The ticket that enters a pool next: its number, the pool's generation and the moment (CMAP, WaitQueue).
abbrev pub ticket_for : Pool → ℕ → Ticket
ticket_for p moment = record { number = p.entered; generation = p.generation; entered = moment }

-- The state of a pool that was cleared: one that is closed stays so (CMAP, Clearing a Connection Pool).
abbrev pub cleared_state : PoolState → PoolState
cleared_state state_of.Paused = state_of.Paused
cleared_state state_of.Ready = state_of.Paused
cleared_state state_of.Closed = state_of.Closed

-- The connection that a ticket is lent of the available ones, with the generation of its dial (CMAP, Checking Out a
-- Connection).
abbrev pub lend : ℕ → Option Available → List Held
lend number None = []
lend number (Some a) = record { conn = a.conn; ticket = number; generation = a.generation } ∷ []

-- The connection that is available again by a check-in, where it is kept (CMAP, Checking In a Connection).
abbrev pub returned : Pool → ℕ → Bool → Option Held → List Available
returned p moment errored None = []
returned p moment errored (Some h) =
    if is_kept p errored h then record { conn = h.conn; generation = h.generation; since = moment } ∷ [] else []

-- The pool behind an entry and all that must follow it at once (CMAP, Connection Pool).
abbrev pub after : Pool → ℕ → PoolEntry → Pool
after p moment Ready = record p { state = state_of.Ready }
after p moment Clear = record p { state = cleared_state p.state; generation = p.generation + 1 }
after p moment Shut = record p { state = state_of.Closed; available = [] }
after p moment (Entered number) =
    record p { waiting = p.waiting ++ ticket_for p moment ∷ []; entered = p.entered + 1 }
after p moment (Left number) = record p { waiting = without_ticket number p.waiting }
after p moment (Lent number conn) = record p {
  waiting = without_ticket number p.waiting;
  available = take (length p.available - 1) p.available;
  lent = p.lent ++ lend number (last_of p.available);
}
after p moment (Dialled number conn) = record p {
  waiting = without_ticket number p.waiting;
  pending = p.pending ++ record { conn = conn; ticket = number; generation = p.generation } ∷ [];
  dialled = conn;
}
after p moment (Settled number conn true) = record p { pending = without_held conn p.pending }
after p moment (Settled number conn false) = record p {
  pending = without_held conn p.pending;
  lent = p.lent ++ option_to_list (held_of conn p.pending);
}
after p moment (NotLent number (Lost conn)) = record p { pending = without_held conn p.pending }
after p moment (NotLent number why) = record p { waiting = without_ticket number p.waiting }
after p moment (CheckedIn number conn errored) = record p {
  lent = without_held conn p.lent;
  available = p.available ++ returned p moment errored (held_of conn p.lent);
}
after p moment (ConnShut conn reason) = record p { available = without_available conn p.available }

-- Why the owner of a connection that settled stale has none (CMAP, PoolClearedError).
abbrev pub refusal : Pool → CheckOutFailure
refusal p = if is_closed p.state then Closed else Cleared p.generation

-- What must follow a check-in: the connection is shut where it is not kept (CMAP, Checking In a Connection).
abbrev pub owes_shut : Pool → Bool → Option Held → List PoolEntry
owes_shut p errored None = []
owes_shut p errored (Some h) =
    if is_kept p errored h then [] else ConnShut h.conn (shut_reason p.state errored) ∷ []

-- What must follow an entry at once, of the pool ahead of it: each available connection of a pool that is closed is
-- shut; one that settles is lent, or shut where it is worthless, and its ticket gets nothing; one that was lost, or is
-- not kept, is shut (CMAP, Closing a Connection Pool, Establishing a Connection, Checking In a Connection).
abbrev pub owes : Pool → PoolEntry → List PoolEntry
owes p Shut = map (λ a. ConnShut a.conn PoolClosed) p.available
owes p (Settled number conn true) = ConnShut conn (shut_reason p.state false) ∷ NotLent number (refusal p) ∷ []
owes p (Settled number conn false) = Lent number conn ∷ []
owes p (NotLent number (Lost conn)) = ConnShut conn Errored ∷ []
owes p (CheckedIn number conn errored) = owes_shut p errored (held_of conn p.lent)
owes p _ = []

-- A ticket may be refused so: where the pool is closed, as closed; else where it is cleared for the ticket, as cleared,
-- with the pool's generation; else as late, where it could neither have a connection nor dial one (CMAP, Checking Out a
-- Connection).
abbrev pub MayRefuse : Pool → ℕ → Ticket → CheckOutFailure → Type 0
MayRefuse p moment t Closed = is_closed p.state ≡ true
MayRefuse p moment t (Cleared g) = (is_closed p.state ≡ false) × (is_cleared p.state p.generation t.generation ≡ true) × (g ≡ p.generation)
MayRefuse p moment t Late =
    (is_closed p.state ≡ false) × (is_cleared p.state p.generation t.generation ≡ false) × (can_take p moment t ≡ false) × (is_late p.rules t.entered moment ≡ true)
MayRefuse p moment t (Lost conn) = ⊥

-- When an entry that does not have to follow another may stand (CMAP, Connection Pool).
abbrev pub MayStand : Pool → ℕ → PoolEntry → Type 0
MayStand p moment Ready = is_paused p.state ≡ true
MayStand p moment Clear = Unit {0}
MayStand p moment Shut = is_closed p.state ≡ false
MayStand p moment (Entered number) = number ≡ p.entered
MayStand p moment (Left number) = (t : Ticket) × (ticket_of number p.waiting ≡ Some t)
MayStand p moment (Lent number conn) =
    (t : Ticket) × (ticket_of number p.waiting ≡ Some t) × (is_served p moment t ≡ true)
    × (option_map (λ a. a.conn) (last_of p.available) ≡ Some conn)
MayStand p moment (Dialled number conn) =
    (t : Ticket) × (ticket_of number p.waiting ≡ Some t) × (is_served p moment t ≡ true)
    × (p.available ≡ []) × (has_room p ≡ true) × (conn ≡ p.dialled + 1)
MayStand p moment (Settled number conn stale) =
    (h : Held) × (held_of conn p.pending ≡ Some h) × (number ≡ h.ticket) × (stale ≡ is_worthless p.state p.generation h.generation)
MayStand p moment (NotLent number (Lost conn)) =
    (h : Held) × (held_of conn p.pending ≡ Some h) × (number ≡ h.ticket)
MayStand p moment (NotLent number why) =
    (t : Ticket) × (ticket_of number p.waiting ≡ Some t) × MayRefuse p moment t why
MayStand p moment (CheckedIn number conn errored) =
    (h : Held) × (held_of conn p.lent ≡ Some h) × (number ≡ h.ticket)
MayStand p moment (ConnShut conn reason) =
    (a : Available) × (k : ℕ) × (slice_get p.available k ≡ Some a) × (is_perished p moment a ≡ true)
    × (conn ≡ a.conn) × (reason ≡ perish_reason p.generation a.generation)
