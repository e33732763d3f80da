use Rattle.std.proofs.Common.{◌+◌, refl, ap, subst, arith}
use Rattle.desk_trail.specs.declared.entry.Entry.TheVariants as entry_of
use Rattle.desk_trail.specs.declared.room.Room.{Room}
use Rattle.desk_trail.specs.Facts as fact
use Rattle.desk_trail.specs.Legal.{Point}
use Rattle.desk_trail.specs.States.{ClientState}
use Rattle.desk_trail.specs.Written.{IsAtLeast, an_entry}
use Rattle.write_retry.specs.declared.attempt_end.AttemptEnd.TheVariants as attempt
use Rattle.desk_core.proofs.AppendsLemmas.{grown-same}
use Rattle.desk_core.proofs.AttemptLemmas.{IsKept-entry}
use Rattle.desk_core.proofs.BesideLemmas.{GoesBeside-entry, KeepsCheckLines-same}
use Rattle.desk_core.proofs.KeptLemmas.{IsKept-room}
use Rattle.desk_core.proofs.state.Core.write_too_large.Goals as goal

pub invariant_of-self : goal.invariant_of-self
invariant_of-self g c =
    IsKept-room c.self.inside.wired c.reserve.new.self c.self.inside.topology.topology c.self.inside.servers.items c.self.inside.gossip c.self.inside.closings c.self.inside.last c.self.inside.stopped
    c.reserve.ensures.same c.reserve.ensures.kept c.self.invariant

pub returns-in_err-reserve-clause-appends : goal.returns-in_err-reserve-clause-appends
returns-in_err-reserve-clause-appends g c =
    rw (← c.self.view_is)
    (grown-same c.args.at.moment c.self.inside.wired.trail c.reserve.new.self.trail (ap (λ s. s.trail.client) c.reserve.ensures.same) (ap (λ s. s.trail.lists) c.reserve.ensures.same)
    (ap (λ s. s.trail.steps) c.reserve.ensures.same))

pub invariant_of-self-2 : goal.invariant_of-self-2
invariant_of-self-2 g c =
    let ready = rw (← c.self.view_is) at c.requires.work.ready in
    let adds = c.end_too_large.ensures.adds in
    let kept =
    IsKept-room c.self.inside.wired c.reserve.new.self c.self.inside.topology.topology c.self.inside.servers.items c.self.inside.gossip c.self.inside.closings c.self.inside.last c.self.inside.stopped
    c.reserve.ensures.same c.reserve.ensures.kept c.self.invariant in
    let used = adds.room_used.steps in
    let more : IsAtLeast (record { names = 0; events = 0; sessions = 0; requests = 0; steps = c.self.inside.closings + 4 }) c.reserve.new.self.trail.room =
    subst (λ (m : Room). IsAtLeast m c.reserve.new.self.trail.room) c.in_ok-room.ensures c.in_ok-reserve.ensures.room in
    let steps = more.steps in
    IsKept-entry 3 c.reserve.new.self.trail c.end_too_large.new.wired.trail c.reserve.new.self.lines c.end_too_large.new.wired.lines c.self.inside.topology.topology c.self.inside.servers.items
    c.self.inside.gossip c.self.inside.closings c.self.inside.last c.args.at.moment c.self.inside.stopped kept ready.runs
    (GoesBeside-entry an_entry c.args.at.moment (entry_of.Ended c.args.at.op (attempt.Unsent c.args.why)) (fact.Ended c.args.at.op (attempt.Unsent c.args.why)) c.reserve.new.self.trail c.end_too_large.new.wired.trail tt refl adds)
    (ap (λ (w : ClientState). w.servers) c.end_too_large.ensures.moved) (ap (λ (p : Point). p.time) adds.point_now) (ap (λ (p : Point). p.moment) adds.point_now) ready.now used (omega arith)
    (KeepsCheckLines-same c.reserve.new.self.lines c.end_too_large.new.wired.lines (ap (λ s. s.lines) c.end_too_large.ensures.same))
