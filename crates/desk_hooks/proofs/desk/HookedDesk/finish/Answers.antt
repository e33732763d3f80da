use Rattle.std.proofs.Common.{length}
use Rattle.desk_core.specs.State.{now_of}
use Rattle.desk_trail.specs.Facts.{facts_of}
use Rattle.desk_trail.specs.Written.{lists_of}
use Rattle.desk_hooks.proofs.FrontLemmas.{front-by, front-same}
use Rattle.desk_hooks.proofs.desk.HookedDesk.finish.Goals as goal

pub returns-clause-appends : goal.returns-clause-appends
returns-clause-appends g c = rw (← c.self.view_is) c.finish-finished.ensures.appends

pub returns-clause-heard : goal.returns-clause-heard
returns-clause-heard g c =
    let old = c.self.inside.desk.trail in
    let was = facts_of old.lists old.steps in
    let trail = c.finish-finished.result.trail in
    let grown = c.finish-finished.ensures.appends in
    rw (← c.self.view_is)
    (c.tell_trail.ensures was c.finish-finished.ensures.legal.placed
    (front-same was (length c.steps-behind.result.now) grown.0.lists (lists_of trail) grown.0.steps trail.steps grown.2 grown.3
    (front-by (now_of c.self.inside.desk.last c.args.moment) old grown.0 c.a_legal_trail_is_legal_by_longer_lists.ensures.same c.steps-behind.result.now
    c.steps-behind.ensures.value c.steps-behind.ensures.legal grown.1)))
