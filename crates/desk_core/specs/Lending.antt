-- What private functions say of a connection that is lent to a command (CMAP, Checking Out a Connection).
use Rattle.std.specs.Prelude.{◌≡◌, ℕ, Some, slice_get}
use Rattle.pool_book.specs.Pool.{held_of}
use Rattle.pool_book.specs.declared.connections.Held.{Held}
use Rattle.desk_trail.specs.States.{ClientState, CommandState, Has, ServerState, stream_of}
use Rattle.wired_trail.specs.Lines.{Lines, line_at}
use Rattle.wired_trail.specs.declared.lines.Line.{Line}
use Rattle.wired_trail.specs.declared.stream_use.StreamUse.TheVariants as for_use
use Rattle.desk_core.specs.declared.lending.Lent.{Lent}

-- The command has that connection, which its server's pool lent it by its ticket.
pub record IsLentTo (w : ClientState) (c : CommandState) (l : Lent) : Type 0 where
  pub server : ServerState
  pub there : slice_get w.servers l.host ≡ Some server
  pub held : Held
  pub lent : held_of l.conn server.pool.state.lent ≡ Some held
  pub has : c.check_out ≡ Has l.host held.ticket l.conn
  pub generation : held.generation ≡ l.generation

-- The connection has that stream, which is in use for it.
pub record IsOnStream (w : ClientState) (lines : Lines) (l : Lent) (stream : ℕ) : Type 0 where
  pub server : ServerState
  pub there : slice_get w.servers l.host ≡ Some server
  pub stream_there : stream_of server l.conn ≡ Some stream
  pub line : Line
  pub line_there : line_at lines stream ≡ Some line
  pub is_for : line.is_for ≡ for_use.Conn l.host l.conn
