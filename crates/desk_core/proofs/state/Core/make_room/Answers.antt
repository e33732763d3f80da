use Rattle.std.proofs.Common.{ap}
use Rattle.desk_core.proofs.AppendsLemmas.{Appends-refl, Appends-room}
use Rattle.desk_core.proofs.KeptLemmas.{IsKept-room}
use Rattle.desk_core.proofs.state.Core.make_room.Goals as goal

pub returns-in_default-clause-appends : goal.returns-in_default-clause-appends
returns-in_default-clause-appends g c = λ moment. rw (← c.self.view_is) (Appends-refl moment c.self.inside.wired.trail)

pub returns-in-Err-clause-appends : goal.returns-in-Err-clause-appends
returns-in-Err-clause-appends g c = λ moment.
    rw (← c.self.view_is)
    (Appends-room moment c.self.inside.wired.trail c.reserve.new.self.trail c.reserve.new.self.trail.room (ap (λ s. s.trail) c.reserve.ensures.same))

pub invariant_of-self-in_default-reserve : goal.invariant_of-self-in_default-reserve
invariant_of-self-in_default-reserve g c =
    IsKept-room c.self.inside.wired c.reserve.new.self c.self.inside.topology.topology c.self.inside.servers.items c.self.inside.gossip c.self.inside.closings c.self.inside.last c.self.inside.stopped
    c.reserve.ensures.same c.reserve.ensures.kept c.self.invariant

pub returns-clause-appends : goal.returns-clause-appends
returns-clause-appends g c = λ moment.
    rw (← c.self.view_is)
    (Appends-room moment c.self.inside.wired.trail c.reserve.new.self.trail c.reserve.new.self.trail.room (ap (λ s. s.trail) c.reserve.ensures.same))
