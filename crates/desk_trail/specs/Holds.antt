-- Where a command is with a pool, as the pool has it.
use Rattle.std.specs.Prelude.{◌≡◌, ℕ, List, [], Some, slice_get}
use Rattle.pool_book.specs.Pool.{held_of, ticket_of}
use Rattle.pool_book.specs.declared.connections.Held.{Held}
use Rattle.pool_book.specs.declared.ticket.Ticket.{Ticket}
use Rattle.desk_trail.specs.States.{ClientState, ServerState}

-- The connection is among these, and the ticket's (CMAP, Connection, id; WaitQueue).
pub record IsHeldBy (hs : List Held) (conn ticket : ℕ) : Type 0 where
  pub held : Held
  pub found : held_of conn hs ≡ Some held
  pub by : held.ticket ≡ ticket

-- The ticket waits in the pool of the host (CMAP, WaitQueue).
pub record WaitsAt (w : ClientState) (host ticket : ℕ) : Type 0 where
  pub server : ServerState
  pub there : slice_get w.servers host ≡ Some server
  pub waiting : Ticket
  pub waits : ticket_of ticket server.pool.state.waiting ≡ Some waiting

-- The connection is pending in the pool of the host, and the ticket's, where nothing must come next of that pool: from the
-- entry that settles it to the one that lends it or tells that it is not, it is pending no more (CMAP, Establishing a
-- Connection).
pub record DialsAt (w : ClientState) (host ticket conn : ℕ) : Type 0 where
  pub server : ServerState
  pub there : slice_get w.servers host ≡ Some server
  pub pending : server.pool.owed ≡ [] → IsHeldBy server.pool.state.pending conn ticket

-- The connection is lent by the pool of the host, and the ticket's (CMAP, Checking Out a Connection).
pub record HasAt (w : ClientState) (host ticket conn : ℕ) : Type 0 where
  pub server : ServerState
  pub there : slice_get w.servers host ≡ Some server
  pub lent : IsHeldBy server.pool.state.lent conn ticket
