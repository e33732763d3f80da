use Rattle.std.proofs.Common.{◌≡◌, Some, sym, ◌∙◌, subst}
use Rattle.desk_core.specs.Nexts.{IsNextIn}
use Rattle.desk_hooks.specs.State.{HookedDesk}
use Rattle.desk_share.proofs.PlaceLemmas.{so-far}
use Rattle.desk_share.proofs.SharedLemmas.{shared-op}
use Rattle.desk_share.proofs.driven.DrivenDesk.turn.Goals as goal

pub invariant_of-self : goal.invariant_of-self
invariant_of-self g c =
    let same : c.self.inside.desk ≡ c.args.self.now = c.self.view_is ∙ c.in_ok-op.ensures.desk in
    let next : IsNextIn c.self.inside.desk.desk.trail.client c.self.inside.desk.desk.trail.point.state c.args.lane (Some c.in_ok-op.op) =
    subst (λ (h : HookedDesk g.row.N.Denot g.row.P.Denot g.row.L.Denot). IsNextIn h.desk.trail.client h.desk.trail.point.state c.args.lane (Some c.in_ok-op.op)) (sym same) c.in_ok-op.ensures.next.1 in
    let call = c.step_op.ensures in
    let old = c.self.inside.desk in
    let new = c.step_op.new.self in (
      shared-op g.N.Net.faults g.C.Clock.shows g.D.Dice.rolls g.L.Listener.heard g.J.Opening.opened g.L.Listener.leaves c.each_heard_what_was_told_since.ensures c.all_are_counted.ensures
          c.a_command_without_an_answer_goes_on.ensures c.args.lane c.in_ok-op.op c.args.moment c.words_of-words.result old new
          (record { seen = c.requires.shown; last = call.now; appends = call.appends; later = call.faults; hears = call.heard })
          c.steps.ensures.point next c.words_of-words.ensures.rolled call.names c.self.invariant.0,
      so-far c.a_finished_command_stays_so.ensures _ old.desk new.desk c.self.inside.places c.steps.ensures.point c.steps-2.ensures.point call.appends.client call.names c.self.invariant.1,
    )
