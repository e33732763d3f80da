-- What a machine keeps (own: the refinement).
use Rattle.write_retry.specs.declared.machine.OpMachine.TheInside.{Inside}
use Rattle.write_retry.specs.Machine.{Op}

-- The command that a machine stands for.
abbrev pub op_of : Inside → Op
op_of m = record { write = m.write; retryable = m.retryable; drew = m.drew; first = m.first; next = m.next }
