use Rattle.std.proofs.Common.{ap, ◌∙◌}
use Rattle.wired_trail.specs.Lines.{line_at}
use Rattle.desk_core.proofs.AttemptLemmas.{IsKept-lines}
use Rattle.desk_core.proofs.BesideLemmas.{KeepsCheckLines-conn}
use Rattle.desk_core.proofs.KeptLemmas.{IsKept-room}
use Rattle.desk_core.proofs.state.Core.turn_greeting.Goals as goal

pub invariant_of-self : goal.invariant_of-self
invariant_of-self g c =
    IsKept-room c.self.inside.wired c.reserve.new.self c.self.inside.topology.topology c.self.inside.servers.items c.self.inside.gossip c.self.inside.closings c.self.inside.last c.self.inside.stopped
    c.reserve.ensures.same c.reserve.ensures.kept c.self.invariant

pub invariant_of-self-2 : goal.invariant_of-self-2
invariant_of-self-2 g c =
    let runs = rw (← c.self.view_is) at c.requires.runs in
    let on = rw (← c.self.view_is) at c.requires.line in
    let kept =
    IsKept-room c.self.inside.wired c.reserve.new.self c.self.inside.topology.topology c.self.inside.servers.items c.self.inside.gossip c.self.inside.closings c.self.inside.last c.self.inside.stopped
    c.reserve.ensures.same c.reserve.ensures.kept c.self.invariant in
    IsKept-lines c.reserve.new.self.trail c.hear.new.wired.trail c.reserve.new.self.lines c.hear.new.wired.lines c.self.inside.topology.topology c.self.inside.servers.items c.self.inside.gossip
    c.self.inside.closings c.self.inside.last c.self.inside.stopped kept runs c.hear.ensures.trail
    (KeepsCheckLines-conn c.args.dialled.stream c.args.dialled.host c.args.dialled.conn c.reserve.new.self.lines c.hear.new.wired.lines on.line
    (ap (λ s. line_at s.lines c.args.dialled.stream) c.reserve.ensures.same ∙ on.there) on.is_for c.hear.ensures.others)
