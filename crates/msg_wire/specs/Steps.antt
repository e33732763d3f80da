-- What a call that reads a message answers, and what reading from the front gives: the words of any reading, at the faults
-- of a message.
use Rattle.std.specs.Prelude.{Result}
use Rattle.bson_doc.specs.Steps.{ReadOr}
use Rattle.bson_doc.specs.Steps as steps
use Rattle.msg_wire.specs.declared.fault.MsgFault.{MsgFault}
use Rattle.msg_wire.specs.declared.fault.MsgFault.TheVariants as fault

-- What a call answered is what reading gives, unless memory ran out; view is what is seen of an Ok.
abbrev pub Gives : {X Y : Type 0} → (X → Y) → Result X MsgFault → Result Y MsgFault → Type 0
Gives = steps.Gives fault.Memory

-- What was read from the front of some bytes, and the bytes behind it, or the fault that was met.
abbrev pub Read : Type 0 → Type 0
Read A = ReadOr MsgFault A
