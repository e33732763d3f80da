use Rattle.desk_trail.specs.Facts.{facts_of}
use Rattle.desk_hooks.proofs.FrontLemmas.{front-by}
use Rattle.desk_hooks.proofs.desk.HookedDesk.step_check.Goals as goal

pub returns-clause-heard : goal.returns-clause-heard
returns-clause-heard g c =
    let old = c.self.inside.desk.trail in
    let new = c.step_check-sight.new.self.trail in
    rw (← c.self.view_is)
    (c.tell_desk.ensures (facts_of old.lists old.steps)
    (front-by _ old new c.a_legal_trail_is_legal_by_longer_lists.ensures.same c.steps-behind.result.now c.steps-behind.ensures.value c.steps-behind.ensures.legal
    c.step_check-sight.ensures.appends))
