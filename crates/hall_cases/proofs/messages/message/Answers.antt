use Rattle.std.proofs.Common.{refl}
use Rattle.msg_wire.specs.Flags.{refused_bit}
use Rattle.hall_cases.proofs.messages.message.Goals as goal

pub write-requires-clause-known : goal.write-requires-clause-known
unfolding refused_bit
write-requires-clause-known c = refl
