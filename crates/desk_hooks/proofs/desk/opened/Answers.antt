use Rattle.std.proofs.Common.{[]}
use Rattle.desk_trail.specs.Facts.{facts_of}
use Rattle.desk_hooks.proofs.FrontLemmas.{front-begins}
use Rattle.desk_hooks.proofs.HearingLemmas.{AreTold-from_HearMore}
use Rattle.desk_hooks.proofs.desk.opened.Goals as goal

pub returns-clause-heard : goal.returns-clause-heard
returns-clause-heard g c =
    let trail = c.args.desk.trail in
    AreTold-from_HearMore g.L.Listener.heard g.L.Listener.leaves (facts_of trail.lists trail.steps) c.args.hooks c.tell_desk.new.hooks
    (c.tell_desk.ensures [] (front-begins trail.lists trail.steps))
