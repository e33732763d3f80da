use Rattle.std.proofs.Common.{Option, inl, inr, subst}
use Rattle.std.specs.Prelude.{IfSome}
use Rattle.sess_book.specs.Ids.{id_of}
use Rattle.desk_core.specs.Steps.{MeansGoing}
use Rattle.desk_core.specs.declared.sight.Sight.{Sight}
use Rattle.desk_core.proofs.GoingLemmas.{Appends-then, HasGone-then, IfOk-by, MeansStep-behind, MeansStep-going}
use Rattle.desk_core.specs.Picks.{LooksOnce}
use Rattle.desk_core.proofs.OfferLemmas.{OnOk-by}
use Rattle.desk_core.proofs.PickLemmas.{LooksOnce-behind}
use Rattle.desk_core.proofs.state.Core.step.Goals as goal

pub returns-in-None-clause-gone : goal.returns-in-None-clause-gone
returns-in-None-clause-gone g c =
    OnOk-by c.look_and_go.result _ _
    (λ gone. HasGone-then c.args.self.now c.go_counted.new.self c.look_and_go.new.self c.args.at.moment c.args.at.op _ _ _ _ c.in_ok-sight.ensures.gone gone)
    c.look_and_go.ensures.gone

pub returns-in-Some-clause-sight : goal.returns-in-Some-clause-sight
returns-in-Some-clause-sight g c =
    MeansStep-going c.args.at.moment c.args.at.op c.args.words c.args.self.now.trail c.go_counted.new.self.trail c.in-Some.sight
    (subst (λ (o : Option Sight). IfSome o (MeansGoing c.args.at.moment c.args.at.op (id_of c.args.words.c c.args.words.d) c.go_counted.new.self.trail)) c.in-Some.is
    c.in_ok-sight.ensures.sight)

pub returns-in-None-clause-sight : goal.returns-in-None-clause-sight
returns-in-None-clause-sight g c =
    IfOk-by c.look_and_go.result _ _
    (λ s h. MeansStep-behind c.args.at.moment c.args.at.op c.args.words c.args.self.now.trail c.go_counted.new.self.trail c.look_and_go.new.self.trail s
    c.go_counted.ensures.appends.appends h)
    c.look_and_go.ensures.sight

pub returns-in-None-clause-appends : goal.returns-in-None-clause-appends
returns-in-None-clause-appends g c =
    Appends-then _ _ _ c.args.at.moment c.args.self.now.trail c.go_counted.new.self.trail c.look_and_go.new.self.trail c.go_counted.ensures.faults c.look_and_go.ensures.faults
    c.go_counted.ensures.appends c.look_and_go.ensures.appends

pub returns-in-Some-clause-asks : goal.returns-in-Some-clause-asks
returns-in-Some-clause-asks g c = inr (c.go_counted.ensures.picker, c.go_counted.ensures.unlooked)

pub returns-in-None-clause-asks : goal.returns-in-None-clause-asks
returns-in-None-clause-asks g c =
    OnOk-by c.look_and_go.result _ _
    (λ once. inl
    (LooksOnce-behind {P = g.row.P.Denot} g.P.Picker.allows g.P.Picker.follows c.args.at.moment c.args.at.op c.args.self.now.trail c.go_counted.new.self.trail c.look_and_go.new.self.trail
    c.args.parts.now.picker c.look_and_go.new.parts.picker c.go_counted.ensures.appends.appends.client c.go_counted.ensures.unlooked
    (subst (λ (p : g.row.P.Denot). LooksOnce g.P.Picker.allows g.P.Picker.follows c.args.at.moment c.args.at.op c.go_counted.new.self.trail c.look_and_go.new.self.trail p
    c.look_and_go.new.parts.picker) c.go_counted.ensures.picker once)))
    c.look_and_go.ensures.picks
