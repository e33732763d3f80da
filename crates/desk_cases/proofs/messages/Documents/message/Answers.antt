use Rattle.desk_cases.proofs.FlagLemmas.{refused_bit-0}
use Rattle.desk_cases.proofs.messages.Documents.message.Goals as goal

pub write-requires-clause-known : goal.write-requires-clause-known
write-requires-clause-known c = refused_bit-0
