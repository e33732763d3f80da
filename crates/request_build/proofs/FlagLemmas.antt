-- What holds of a message's flags.
use Rattle.std.proofs.Common.{◌≡◌, None, refl}
use Rattle.msg_wire.specs.Flags.{refused_bit}

-- flags that are all clear are known
pub refused_bit-0 : refused_bit 0 ≡ None
unfolding refused_bit
refused_bit-0 = refl
