use Rattle.server_pick.proofs.LawLemmas.{write_candidates}
use Rattle.server_pick.proofs.laws.a_write_goes_where_writes_go.Goals as goal

pub returns : goal.returns
returns c = write_candidates
