use Rattle.std.proofs.Common.{refl}
use Rattle.bson_doc.specs.declared.bson_fault.BsonFault.TheVariants as bson_fault
use Rattle.msg_wire.specs.declared.fault.MsgFault.TheVariants as fault
use Rattle.msg_wire.proofs.PlaceLemmas.{of_bytes}
use Rattle.msg_wire.proofs.laws.not_memory.Goals as goal

pub returns-clause-outside : goal.returns-clause-outside
returns-clause-outside c = λ bytes h. of_bytes bytes fault.Memory h

pub returns-clause-inside : goal.returns-clause-inside
returns-clause-inside c = λ bytes at h. of_bytes bytes (fault.Body at bson_fault.Memory) h refl
