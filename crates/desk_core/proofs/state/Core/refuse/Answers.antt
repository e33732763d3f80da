use Rattle.net_link.specs.Causes.{Rose}
use Rattle.desk_core.specs.Appends.{AppendsOf, IsOfOp}
use Rattle.desk_core.specs.Commands.{MovesOne}
use Rattle.desk_core.proofs.AppendsLemmas.{grown-trans, grown-weaken}
use Rattle.desk_core.proofs.BesideLemmas.{MovesOne-trans}
use Rattle.desk_core.proofs.OfferLemmas.{OnOk-by}
use Rattle.desk_core.proofs.state.Core.refuse.Goals as goal
use Rattle.std.proofs.Common.{subst}

pub returns-clause-moves : goal.returns-clause-moves
returns-clause-moves g c =
    OnOk-by c.check_in.result (MovesOne c.args.at.op c.check_in.new.operation c.write_too_large.new.self.trail c.check_in.new.self.trail)
    (MovesOne c.args.at.op c.check_in.new.operation c.args.self.now.trail c.check_in.new.self.trail)
    (MovesOne-trans c.args.at.op c.write_too_large.new.operation c.check_in.new.operation c.args.self.now.trail c.write_too_large.new.self.trail c.check_in.new.self.trail
    c.in_ok-write_too_large.ensures.moves)
    c.check_in.ensures.moves

pub returns-clause-appends : goal.returns-clause-appends
returns-clause-appends g c =
    grown-trans c.args.at.moment c.args.self.now.trail c.write_too_large.new.self.trail c.check_in.new.self.trail
    (grown-weaken c.args.at.moment c.args.self.now.trail c.write_too_large.new.self.trail (λ e. absurd e) c.write_too_large.ensures.appends)
    (subst (λ n. AppendsOf (Rose (g.N.Net.faults n) (g.N.Net.faults c.check_in.new.self.net)) (IsOfOp c.args.at.op) c.args.at.moment c.write_too_large.new.self.trail c.check_in.new.self.trail)
    c.write_too_large.ensures.net c.check_in.ensures.appends)
