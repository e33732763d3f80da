use Rattle.std.proofs.Common.{refl}
use Rattle.msg_wire.specs.Flags.{refused_bit}
use Rattle.member_core.proofs.SmallReplies.{small_fits}
use Rattle.member_core.proofs.answering.framed.Goals as goal

pub write-requires-clause-known : goal.write-requires-clause-known
unfolding refused_bit
write-requires-clause-known c = refl

pub unreachable-requires-in-Err-Long : goal.unreachable-requires-in-Err-Long
unreachable-requires-in-Err-Long c = small_fits _ _ c.args.document.now c.requires (c.in-Err-Long.ensures.long c.in-Err-Long.field-0-is).1
