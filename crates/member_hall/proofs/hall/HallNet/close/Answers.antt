use Rattle.std.proofs.Common.{sym, subst}
use Rattle.member_hall.specs.Halls.{HallState, IsLive}
use Rattle.member_hall.specs.Playing.{HallKeeps}
use Rattle.net_link.specs.Keeps.{all_but}
use Rattle.member_hall.proofs.Calling.{CloseFacts, close_facts}
use Rattle.member_hall.proofs.hall.HallNet.close.Goals as goal

pub invariant_of-self : goal.invariant_of-self
invariant_of-self c =
    let live : IsLive c.self.inside.core.lines c.args.stream = subst (λ (g : HallState). IsLive g.lines c.args.stream) (sym c.self.view_is) c.requires in
    (subst (λ (g : HallState). CloseFacts c.args.stream c.self.inside.core g) (sym c.close.ensures) (close_facts c.args.stream c.self.inside.core c.self.invariant live)).sound

pub returns-clause-keeps : goal.returns-clause-keeps
returns-clause-keeps c =
    let live : IsLive c.self.inside.core.lines c.args.stream = subst (λ (g : HallState). IsLive g.lines c.args.stream) (sym c.self.view_is) c.requires in
    subst (λ (g : HallState). HallKeeps (all_but c.args.stream) g c.close.new.self) c.self.view_is
    (subst (λ (g : HallState). CloseFacts c.args.stream c.self.inside.core g) (sym c.close.ensures) (close_facts c.args.stream c.self.inside.core c.self.invariant live)).keeps
