-- What private functions say of a command that gets its session and its number.
use Rattle.std.specs.Prelude.{◌≡◌}
use Rattle.desk_trail.specs.States.{CommandState}

-- It is to do next what it was to do, and is with its pool where it was.
pub record KeepsCourse (old new : CommandState) : Type 0 where
  pub next : new.op.next ≡ old.op.next
  pub check_out : new.check_out ≡ old.check_out
