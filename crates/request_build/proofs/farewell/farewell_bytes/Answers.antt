use Rattle.request_build.proofs.FlagLemmas.{refused_bit-0}
use Rattle.request_build.proofs.farewell.farewell_bytes.Goals as goal

pub write-requires-clause-known : goal.write-requires-clause-known
write-requires-clause-known c = refused_bit-0
