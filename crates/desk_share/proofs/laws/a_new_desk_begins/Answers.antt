use Rattle.desk_share.proofs.BeginLemmas.{begins}
use Rattle.desk_share.proofs.laws.a_new_desk_begins.Goals as goal

pub returns : goal.returns
returns g c moment given h seen began last quiet none nothing told_all =
    begins g.L.Listener.heard g.L.Listener.leaves c.each_heard_what_was_told_since.ensures g.C.Clock.shows moment given h seen began last quiet none nothing told_all
