use Rattle.std.proofs.Common.{◌<◌, ap, length}
use Rattle.std.proofs.lemmas.Result.{on_err_weaker, on_ok_weaker}
use Rattle.member_hall.specs.Halls.{HallState}
use Rattle.member_hall.specs.Inside.{hall_of}
use Rattle.member_hall.proofs.Moves.{met_is, unmet_is}
use Rattle.member_hall.proofs.hall_core.HallCore.meet.Goals as goal

pub returns-clause-ok : goal.returns-clause-ok
returns-clause-ok c =
    let h = hall_of c.self.inside in
    let there : c.host-host.result < length h.peers = rw (c.host-host.ensures, ap (λ (g : HallState). g.peers) c.self.view_is) c.requires in
    rw (← c.self.view_is)
    (on_ok_weaker c.meet.result (met_is h c.args.act c.host-host.result c.index_mut.result.now c.meet.new.self c.host-host.ensures there c.index_mut.ensures.value) c.meet.ensures.ok)

pub returns-clause-err : goal.returns-clause-err
returns-clause-err c =
    rw (← c.self.view_is)
    (on_err_weaker c.meet.result (unmet_is (hall_of c.self.inside) c.host-host.result c.index_mut.result.now c.meet.new.self c.index_mut.ensures.value) c.meet.ensures.err)
