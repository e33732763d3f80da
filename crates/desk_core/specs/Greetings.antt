-- What private functions say of a connection that a command dialled, and whose greeting is waited for (CMAP, Establishing a
-- Connection).
use Rattle.std.specs.Prelude.{◌≡◌, Some, slice_get}
use Rattle.pool_book.specs.Pool.{held_of}
use Rattle.pool_book.specs.declared.connections.Held.{Held}
use Rattle.write_retry.specs.declared.events.Next.TheVariants as next
use Rattle.desk_trail.specs.States.{ClientState, CommandState, Dials, ServerState, stream_of}
use Rattle.wired_trail.specs.Lines.{Lines, line_at}
use Rattle.wired_trail.specs.declared.lines.Line.{Line}
use Rattle.wired_trail.specs.declared.stream_use.StreamUse.TheVariants as for_use
use Rattle.desk_core.specs.declared.greeting.Dialled.{Dialled}

-- The command dialled that connection, which is pending in its server's pool by the command's ticket; and it is to check one out
-- there.
pub record IsDialledBy (w : ClientState) (c : CommandState) (d : Dialled) : Type 0 where
  pub server : ServerState
  pub there : slice_get w.servers d.host ≡ Some server
  pub held : Held
  pub pending : held_of d.conn server.pool.state.pending ≡ Some held
  pub generation : held.generation ≡ d.generation
  pub dials : c.check_out ≡ Dials d.host held.ticket d.conn
  pub asks : c.op.next ≡ next.CheckOut d.host
  pub stream_there : stream_of server d.conn ≡ Some d.stream

-- Its stream is in use for it.
pub record IsDialledOn (lines : Lines) (d : Dialled) : Type 0 where
  pub line : Line
  pub there : line_at lines d.stream ≡ Some line
  pub is_for : line.is_for ≡ for_use.Conn d.host d.conn
