use Rattle.std.proofs.Common.{◌≡◌, Option, inr, subst, sym}
use Rattle.std.specs.Prelude.{IfNone, IfSome}
use Rattle.sess_book.specs.Ids.{id_of}
use Rattle.write_retry.specs.declared.events.Next.TheVariants as next
use Rattle.desk_core.specs.Steps.{MeansGoing, MeansPhase}
use Rattle.desk_core.specs.declared.sight.Sight.{Sight}
use Rattle.desk_core.specs.Picks.{LooksOnce}
use Rattle.desk_core.proofs.PickLemmas.{LooksOnce-more}
use Rattle.desk_core.proofs.GoingLemmas.{Appends-then, HasFound-more, HasGone-then, IsWaiting-client, MeansStep-going}
use Rattle.desk_core.proofs.state.Core.look_and_go.Goals as goal

pub returns-in-Some-clause-gone : goal.returns-in-Some-clause-gone
returns-in-Some-clause-gone g c =
    HasGone-then c.args.self.now c.look_counted.new.self c.go_counted.new.self c.args.at.moment c.args.at.op _ _ _ _ c.in_ok-look_counted.ensures.gone
    c.in_ok-sight-in-Done.ensures.gone

pub returns-in-None-clause-gone : goal.returns-in-None-clause-gone
returns-in-None-clause-gone g c =
    HasGone-then c.args.self.now c.look_counted.new.self c.go_counted.new.self c.args.at.moment c.args.at.op _ _ _ _ c.in_ok-look_counted.ensures.gone
    c.in_ok-sight-in-Done.ensures.gone

pub returns-in-Wait-clause-sight : goal.returns-in-Wait-clause-sight
returns-in-Wait-clause-sight g c = (
  _,
  c.in_ok-look_counted.ensures.gone.step.work.there,
  IsWaiting-client c.args.self.now.trail.client c.look_counted.new.self.trail.client c.look_counted.new.self.trail.point.state c.args.at.moment _ _
      c.look_counted.ensures.appends.appends.client
      (subst (MeansPhase c.args.self.now.trail.client c.look_counted.new.self.trail.point.state c.args.at.moment c.look_counted.new.operation) c.in-Wait.is
      c.in_ok-look_counted.ensures.means),
)

pub returns-in-Some-clause-sight : goal.returns-in-Some-clause-sight
returns-in-Some-clause-sight g c =
    MeansStep-going c.args.at.moment c.args.at.op c.args.words c.args.self.now.trail c.go_counted.new.self.trail c.in-Some.sight
    (subst (λ (o : Option Sight). IfSome o (MeansGoing c.args.at.moment c.args.at.op (id_of c.args.words.c c.args.words.d) c.go_counted.new.self.trail)) c.in-Some.is
    c.in_ok-sight-in-Done.ensures.sight)

pub returns-in-None-clause-sight : goal.returns-in-None-clause-sight
returns-in-None-clause-sight g c =
    inr (record {
      selects = (
        _,
        c.in_ok-sight-in-Done.ensures.gone.step.work.there,
        subst (λ (o : Option Sight). IfNone o (c.go_counted.new.operation.op.next ≡ next.Select)) c.in-None.is c.in_ok-sight-in-Done.ensures.looks,
      );
      found =
          HasFound-more c.args.at.moment c.args.at.op c.args.words.a c.args.words.b c.args.self.now.trail c.look_counted.new.self.trail c.go_counted.new.self.trail
          (c.in_ok-look_counted.ensures.found c.in-Done.is) c.go_counted.ensures.appends.appends;
    })

pub returns-in_err-sight-in-Done-clause-appends : goal.returns-in_err-sight-in-Done-clause-appends
returns-in_err-sight-in-Done-clause-appends g c =
    Appends-then _ _ _ c.args.at.moment c.args.self.now.trail c.look_counted.new.self.trail c.go_counted.new.self.trail c.look_counted.ensures.faults c.go_counted.ensures.faults
    c.look_counted.ensures.appends c.go_counted.ensures.appends

pub returns-in-Some-clause-appends : goal.returns-in-Some-clause-appends
returns-in-Some-clause-appends g c =
    Appends-then _ _ _ c.args.at.moment c.args.self.now.trail c.look_counted.new.self.trail c.go_counted.new.self.trail c.look_counted.ensures.faults c.go_counted.ensures.faults
    c.look_counted.ensures.appends c.go_counted.ensures.appends

pub returns-in-None-clause-appends : goal.returns-in-None-clause-appends
returns-in-None-clause-appends g c =
    Appends-then _ _ _ c.args.at.moment c.args.self.now.trail c.look_counted.new.self.trail c.go_counted.new.self.trail c.look_counted.ensures.faults c.go_counted.ensures.faults
    c.look_counted.ensures.appends c.go_counted.ensures.appends

pub returns-in-Wait-clause-picks : goal.returns-in-Wait-clause-picks
returns-in-Wait-clause-picks g c = c.in_ok-look_counted.ensures.picks

pub returns-in-Some-clause-picks : goal.returns-in-Some-clause-picks
returns-in-Some-clause-picks g c =
    subst (λ (q : g.row.P.Denot). LooksOnce g.P.Picker.allows g.P.Picker.follows c.args.at.moment c.args.at.op c.args.self.now.trail c.go_counted.new.self.trail c.args.parts.now.picker q)
    (sym c.go_counted.ensures.picker)
    (LooksOnce-more {P = g.row.P.Denot} g.P.Picker.allows g.P.Picker.follows c.args.at.moment c.args.at.op c.args.self.now.trail c.look_counted.new.self.trail c.go_counted.new.self.trail
    c.args.parts.now.picker c.look_counted.new.parts.picker c.in_ok-look_counted.ensures.picks c.go_counted.ensures.unlooked)

pub returns-in-None-clause-picks : goal.returns-in-None-clause-picks
returns-in-None-clause-picks g c =
    subst (λ (q : g.row.P.Denot). LooksOnce g.P.Picker.allows g.P.Picker.follows c.args.at.moment c.args.at.op c.args.self.now.trail c.go_counted.new.self.trail c.args.parts.now.picker q)
    (sym c.go_counted.ensures.picker)
    (LooksOnce-more {P = g.row.P.Denot} g.P.Picker.allows g.P.Picker.follows c.args.at.moment c.args.at.op c.args.self.now.trail c.look_counted.new.self.trail c.go_counted.new.self.trail
    c.args.parts.now.picker c.look_counted.new.parts.picker c.in_ok-look_counted.ensures.picks c.go_counted.ensures.unlooked)
