use Rattle.std.proofs.Common.{subst}
use Rattle.sess_book.specs.Ids.{id_of}
use Rattle.desk_core.specs.Steps.{MeansEntry}
use Rattle.desk_core.proofs.AppendsLemmas.{grown-leasing}
use Rattle.desk_core.proofs.GoingLemmas.{Appends-then, HasGone-then, IsWaiting-client}
use Rattle.desk_core.proofs.OfferLemmas.{OnOk-by}
use Rattle.desk_core.proofs.state.Core.go.Goals as goal

pub returns-in-Done-clause-gone : goal.returns-in-Done-clause-gone
returns-in-Done-clause-gone g c =
    OnOk-by c.conclude.result _ _
    (λ gone. HasGone-then c.args.self.now c.begin_attempt.new.self c.conclude.new.self c.args.at.moment c.args.at.op _ _ _ _ c.in_ok-begin_attempt.ensures.gone gone)
    c.conclude.ensures.gone

pub returns-in-Done-clause-sight : goal.returns-in-Done-clause-sight
returns-in-Done-clause-sight g c = c.conclude.ensures.sight (id_of c.args.words.first c.args.words.second)

pub returns-in-Wait-clause-sight : goal.returns-in-Wait-clause-sight
returns-in-Wait-clause-sight g c =
    let own = id_of c.args.words.first c.args.words.second in (
      _,
      c.in_ok-begin_attempt.ensures.gone.step.work.there,
      IsWaiting-client c.args.self.now.trail.client c.begin_attempt.new.self.trail.client c.begin_attempt.new.self.trail.point.state c.args.at.moment _ _
          c.begin_attempt.ensures.appends.appends.client
          (subst (MeansEntry c.args.self.now.trail.client c.begin_attempt.new.self.trail.point.state c.args.at.moment own c.begin_attempt.new.operation) c.in-Wait.is
          c.in_ok-begin_attempt.ensures.means),
    )

pub returns-in-Again-clause-sight : goal.returns-in-Again-clause-sight
returns-in-Again-clause-sight g c =
    let own = id_of c.args.words.first c.args.words.second in (
      _,
      c.in_ok-begin_attempt.ensures.gone.step.work.there,
      subst (MeansEntry c.args.self.now.trail.client c.begin_attempt.new.self.trail.point.state c.args.at.moment own c.begin_attempt.new.operation) c.in-Again.is
          c.in_ok-begin_attempt.ensures.means,
    )

pub returns-in-Done-clause-appends : goal.returns-in-Done-clause-appends
returns-in-Done-clause-appends g c =
    Appends-then _ _ _ c.args.at.moment c.args.self.now.trail c.begin_attempt.new.self.trail c.conclude.new.self.trail c.begin_attempt.ensures.faults c.conclude.ensures.faults
    c.begin_attempt.ensures.appends
    (grown-leasing c.args.at.moment c.args.at.op (id_of c.args.words.first c.args.words.second) c.begin_attempt.new.self.trail c.conclude.new.self.trail c.conclude.ensures.appends)
