use Rattle.msg_wire.proofs.PlaceLemmas.{flags_mean, length_means, opcode_means}
use Rattle.msg_wire.proofs.laws.header_faults.Goals as goal

pub returns-clause-length : goal.returns-clause-length
returns-clause-length c = length_means

pub returns-clause-opcode : goal.returns-clause-opcode
returns-clause-opcode c = opcode_means

pub returns-clause-flags : goal.returns-clause-flags
returns-clause-flags c = flags_mean
