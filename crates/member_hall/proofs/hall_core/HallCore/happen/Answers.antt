use Rattle.std.proofs.Common.{◌≡◌, ◌<◌, ◌∙◌, subst, sym, length}
use Rattle.std.proofs.lemmas.Result.{on_ok_weaker}
use Rattle.member_hall.specs.Acts.{elected, following, happened, host_of}
use Rattle.member_hall.specs.declared.act.Act.{Act}
use Rattle.member_hall.specs.declared.act.Act.TheVariants as act
use Rattle.member_hall.proofs.Moves.{happened_alone, happened_is}
use Rattle.member_hall.proofs.hall_core.HallCore.happen.Goals as goal

pub returns-in-Elect-clause-ok : goal.returns-in-Elect-clause-ok
returns-in-Elect-clause-ok c =
    let h = c.args.self.now in
    let there : host_of c.args.act < length h.peers = c.requires in
    let is : elected c.in-Elect.host h ≡ happened c.args.act h =
    subst (λ (a : Act). host_of a < length h.peers → elected c.in-Elect.host h ≡ happened a h) (sym c.in-Elect.is) (λ under. happened_is (act.Elect c.in-Elect.host) h under) there in
    on_ok_weaker c.elect.result (λ made. made ∙ is) c.elect.ensures.ok

pub returns-in-Follow-clause-ok : goal.returns-in-Follow-clause-ok
returns-in-Follow-clause-ok c =
    let h = c.args.self.now in
    let there : host_of c.args.act < length h.peers = c.requires in
    let is : following c.in-Follow.host h ≡ happened c.args.act h =
    subst (λ (a : Act). host_of a < length h.peers → following c.in-Follow.host h ≡ happened a h) (sym c.in-Follow.is) (λ under. happened_is (act.Follow c.in-Follow.host) h under) there in
    on_ok_weaker c.follow.result (λ made. made ∙ is) c.follow.ensures.ok

pub returns-in_default-clause-ok : goal.returns-in_default-clause-ok
returns-in_default-clause-ok c =
    let h = c.args.self.now in
    on_ok_weaker c.meet.result (λ made. made ∙ happened_alone c.args.act h c.in_default.not-Elect c.in_default.not-Follow ∙ happened_is c.args.act h c.requires) c.meet.ensures.ok
