use Rattle.std.proofs.Common.{◌<◌, length, drop, arith, length-drop}
use Rattle.std.specs.Int.{w32}
use Rattle.std.proofs.lemmas.Int.{to_z-of_z}
use Rattle.std.proofs.lemmas.List.{take_rest}
use Rattle.msg_wire.proofs.Messages.{message_at-parts}
use Rattle.msg_wire.proofs.reading.message_of.Goals as goal

pub returns-clause-gives : goal.returns-clause-gives
returns-clause-gives c =
    let bytes = c.args.bytes.now in
    let few : length (drop 20 bytes) < length bytes = omega (arith, c.requires.least, length-drop 20 bytes) in
    let read = rw (take_rest bytes 20, c.checksum_size_of.ensures) at c.in_ok-body.ensures in
    rw (to_z-of_z w32 c.signed.result c.signed.ensures.fits, to_z-of_z w32 c.signed-2.result c.signed-2.ensures.fits, c.signed.ensures.value, c.signed-2.ensures.value)
    (message_at-parts bytes c.in_ok-flags.flags (c.in_ok-body.body, c.in_ok-body.sequences) (rw c.number.ensures at c.in_ok-flags.ensures.gives) (read (length bytes) few))
