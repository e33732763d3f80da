-- A command at a server of a client, by their numbers.
use Rattle.std.specs.Prelude.{◌≡◌, ℕ, [], Some, slice_get, slice_set}
use Rattle.pool_book.specs.Entries.{PoolEntry}
use Rattle.write_retry.specs.declared.events.Next.TheVariants as next
use Rattle.desk_trail.specs.States.{ClientState, CommandState, ServerState, Waits}
use Rattle.server_state.specs.PoolMoves.{MovesBy}
use Rattle.cmd_step.specs.declared.place.At.{At}

-- The server and the command of these numbers are these.
pub record AreAt (w : ClientState) (at : At) (s : ServerState) (c : CommandState) : Type 0 where
  pub server : slice_get w.servers at.host ≡ Some s
  pub command : slice_get w.commands at.op ≡ Some c

-- The client with these in their places.
abbrev pub with_both : ClientState → At → ServerState → CommandState → ClientState
with_both w at s c = record w { servers = slice_set w.servers at.host s; commands = slice_set w.commands at.op c }

-- A command that waits in the line of its server's pool got an answer: an entry of the pool says what its ticket got, and behind
-- that entry, of which nothing else must follow, the server is this one (CMAP, Checking Out a Connection).
pub record IsAnswered (w : ClientState) (at : At) (got : ℕ → PoolEntry) (new : ServerState) (c : CommandState) : Type 0 where
  pub server : ServerState
  pub ticket : ℕ
  pub places : AreAt w at server c
  pub idle : server.pool.owed ≡ []
  pub waits : c.check_out ≡ Waits at.host ticket
  pub asks : c.op.next ≡ next.CheckOut at.host
  pub moves : MovesBy at.moment (got ticket) server new
