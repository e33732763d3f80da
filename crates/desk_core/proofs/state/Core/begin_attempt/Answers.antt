use Rattle.std.proofs.Common.{subst}
use Rattle.std.specs.Prelude.{IfOk}
use Rattle.sess_book.specs.Ids.{id_of}
use Rattle.desk_trail.specs.Clients.{Client}
use Rattle.desk_core.specs.Steps.{MeansPhase}
use Rattle.desk_core.proofs.AppendsLemmas.{grown-leasing}
use Rattle.desk_core.proofs.GoingLemmas.{Appends-then, HasGone-one, HasGone-then, IfOk-by, MeansEntry-phase, OnOk-both}
use Rattle.desk_core.proofs.state.Core.begin_attempt.Goals as goal

pub returns-then-eq-clause-gone : goal.returns-then-eq-clause-gone
returns-then-eq-clause-gone g c =
    let gone = c.in_ok-entered.ensures.gone in
    OnOk-both c.attempt.result _ _ _
    (λ ready m. HasGone-then c.args.self.now c.enter_pool.new.self c.attempt.new.self c.args.at.moment c.args.at.op _ _ _ _ gone
    (HasGone-one c.enter_pool.new.self c.attempt.new.self c.args.at.moment c.args.at.op _ _ _ gone.step ready m))
    c.attempt.ensures.ok c.attempt.ensures.moves

pub returns-then-eq-clause-appends : goal.returns-then-eq-clause-appends
returns-then-eq-clause-appends g c =
    Appends-then _ _ _ c.args.at.moment c.args.self.now.trail c.enter_pool.new.self.trail c.attempt.new.self.trail c.enter_pool.ensures.faults c.attempt.ensures.faults
    c.enter_pool.ensures.appends
    (grown-leasing c.args.at.moment c.args.at.op (id_of c.args.words.first c.args.words.second) c.enter_pool.new.self.trail c.attempt.new.self.trail c.attempt.ensures.appends)

pub returns-then-eq-clause-means : goal.returns-then-eq-clause-means
returns-then-eq-clause-means g c =
    let w = c.attempt.new.self.trail.point.state in
    let means = subst (λ (x : Client). IfOk c.attempt.result (MeansPhase x w c.args.at.moment c.attempt.new.operation)) c.enter_pool.ensures.appends.appends.client c.attempt.ensures.means in
    IfOk-by c.attempt.result _ _
    (λ p h. MeansEntry-phase c.args.self.now.trail.client w c.args.at.moment (id_of c.args.words.first c.args.words.second) c.attempt.new.operation p h) means
