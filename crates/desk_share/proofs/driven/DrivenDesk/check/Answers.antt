use Rattle.desk_share.proofs.PlaceLemmas.{so-far}
use Rattle.desk_share.proofs.SharedLemmas.{shared-check}
use Rattle.desk_share.proofs.driven.DrivenDesk.check.Goals as goal

pub invariant_of-self : goal.invariant_of-self
invariant_of-self g c =
    let call = c.step_check.ensures in
    let old = c.self.inside.desk in
    let new = c.step_check.new.self in (
      shared-check g.N.Net.faults g.C.Clock.shows g.D.Dice.rolls g.L.Listener.heard g.J.Opening.opened g.L.Listener.leaves c.each_heard_what_was_told_since.ensures c.all_are_counted.ensures
          c.args.moment old new (record { seen = c.requires.shown; last = call.now; appends = call.appends; later = call.faults; hears = call.heard }) call.names c.self.invariant.0,
      so-far c.a_finished_command_stays_so.ensures _ old.desk new.desk c.self.inside.places c.steps.ensures.point c.steps-2.ensures.point call.appends.client call.names c.self.invariant.1,
    )
