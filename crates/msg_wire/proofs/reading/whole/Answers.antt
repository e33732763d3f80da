use Rattle.std.proofs.Common.{◌≡◌, length, take, ap, ◌∙◌, arith}
use Rattle.msg_wire.specs.Fields.{number_at}
use Rattle.msg_wire.specs.Flags.{refused_bit}
use Rattle.msg_wire.proofs.Places.{number_at-take}
use Rattle.msg_wire.proofs.reading.whole.Goals as goal

pub returns-clause-flags : goal.returns-clause-flags
returns-clause-flags c = λ total bit header refused.
    let bytes = c.args.bytes.now in
    let n = c.in_ok-total.total in
    let same : number_at 16 (take n bytes) ≡ number_at 16 bytes = number_at-take 16 n bytes (omega (arith, c.in_ok-total.ensures.least)) c.in_ok-total.ensures.whole in
    c.message_of.ensures.flags bit (ap refused_bit same ∙ refused)
