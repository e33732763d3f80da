use Rattle.std.proofs.Common.{◌+◌, sym, ap, ◌∙◌, subst, arith}
use Rattle.std.specs.Prelude.{OnOk, slice_get}
use Rattle.sess_book.specs.Ids.{id_of}
use Rattle.desk_trail.specs.declared.room.Room.{Room}
use Rattle.desk_trail.specs.Written.{IsAtLeast}
use Rattle.legal_trail.specs.Recorded.{Recorded}
use Rattle.desk_core.specs.Commands.{MovesLease}
use Rattle.desk_core.proofs.AppendsLemmas.{grown-still, grown-trans}
use Rattle.desk_core.proofs.KeptLemmas.{IsKept-room}
use Rattle.desk_core.proofs.LeaseLemmas.{IsKept-leases, IsKept-same, MovesLease-leases, MovesLease-none, MovesLease-room, grown-leases, point-reserved}
use Rattle.desk_core.proofs.state.Core.lease_one.Goals as goal
use Rattle.desk_core.proofs.state.Core.lease_one.Goals.{in-Leased, in-Repeated}

pub returns-then-is_none-clause-moves : goal.returns-then-is_none-clause-moves
returns-then-is_none-clause-moves g c =
    MovesLease-none c.args.at.op c.args.running.now c.args.sessions.now c.args.self.now.trail c.requires.work.there c.requires.book c.requires.ids

pub invariant_of-self : goal.invariant_of-self
invariant_of-self g c =
    IsKept-room c.self.inside.wired c.reserve.new.self c.self.inside.topology.topology c.self.inside.servers.items c.self.inside.gossip c.self.inside.closings c.self.inside.last c.self.inside.stopped
    c.reserve.ensures.same c.reserve.ensures.kept c.self.invariant

pub returns-in_err-reserve-clause-appends : goal.returns-in_err-reserve-clause-appends
returns-in_err-reserve-clause-appends g c =
    rw (← c.self.view_is)
    (grown-still c.args.at.moment c.self.inside.wired.trail c.reserve.new.self.trail c.reserve.new.self.trail.room (ap (λ s. s.trail) c.reserve.ensures.same))

pub invariant_of-self-in_err-lease : goal.invariant_of-self-in_err-lease
invariant_of-self-in_err-lease g c =
    IsKept-same c.reserve.new.self c.lease.new.wired c.self.inside.topology.topology c.self.inside.servers.items c.self.inside.gossip c.self.inside.closings c.self.inside.last c.self.inside.stopped
    c.in_err-lease.ensures.err.0
    (IsKept-room c.self.inside.wired c.reserve.new.self c.self.inside.topology.topology c.self.inside.servers.items c.self.inside.gossip c.self.inside.closings c.self.inside.last c.self.inside.stopped
    c.reserve.ensures.same c.reserve.ensures.kept c.self.invariant)

pub returns-in_err-lease-clause-appends : goal.returns-in_err-lease-clause-appends
returns-in_err-lease-clause-appends g c =
    rw (← c.self.view_is)
    (grown-still c.args.at.moment c.self.inside.wired.trail c.lease.new.wired.trail c.reserve.new.self.trail.room
    (ap (λ s. s.trail) c.in_err-lease.ensures.err.0 ∙ ap (λ s. s.trail) c.reserve.ensures.same))

pub invariant_of-self-2 : goal.invariant_of-self-2
invariant_of-self-2 g c =
    let work = rw (← c.self.view_is) at c.requires.work in
    let r : Recorded = c.reserve.new.self.trail in
    let more : IsAtLeast (record { names = 0; events = 0; sessions = 1; requests = 0; steps = c.self.inside.closings + 1 }) r.room =
    subst (λ (m : Room). IsAtLeast m r.room) c.in_ok-room.ensures c.in_ok-reserve.ensures.room in
    let steps = more.steps in
    let now = work.ready.now in
    IsKept-leases r c.lease.new.wired.trail c.reserve.new.self.lines c.lease.new.wired.lines c.self.inside.topology.topology c.self.inside.servers.items c.self.inside.gossip
    c.self.inside.closings c.self.inside.last c.self.inside.stopped c.args.at c.args.sessions.now c.lease.new.sessions c.args.running.now c.lease.new.running
    (id_of c.args.words.first c.args.words.second) c.in_ok-lease.field-0 c.in_ok-lease.ensures.leases (omega arith) (omega arith) (ap (λ s. s.lines) c.lease.ensures.same) work.ready.runs
    (IsKept-room c.self.inside.wired c.reserve.new.self c.self.inside.topology.topology c.self.inside.servers.items c.self.inside.gossip c.self.inside.closings c.self.inside.last c.self.inside.stopped
    c.reserve.ensures.same c.reserve.ensures.kept c.self.invariant)

pub returns-clause-moves : goal.returns-clause-moves
returns-clause-moves g c =
    let work = rw (← c.self.view_is) at c.requires.work in
    let book = rw (← c.self.view_is) at c.requires.book in
    let old : Recorded = c.self.inside.wired.trail in
    let r : Recorded = c.reserve.new.self.trail in
    let point = point-reserved c.self.inside.wired c.reserve.new.self c.reserve.new.self.trail.room c.reserve.ensures.same in
    let m : MovesLease c.args.at.op c.lease.new.running c.lease.new.sessions old c.lease.new.wired.trail =
    MovesLease-room c.args.at.op c.lease.new.running c.lease.new.sessions old r c.lease.new.wired.trail point
    (MovesLease-leases r c.lease.new.wired.trail c.args.at c.args.sessions.now c.lease.new.sessions c.args.running.now c.lease.new.running
    (id_of c.args.words.first c.args.words.second) c.in_ok-lease.field-0 c.in_ok-lease.ensures.leases
    (ap (λ p. slice_get p.state.commands c.args.at.op) point ∙ work.there) (ap (λ p. p.state.sessions) point ∙ book) c.in_ok-lease.ensures.ids) in
    rw (← c.self.view_is)
    (elim c.match-branch-4.branch [
      | in-Leased w ↦ subst (λ x. OnOk x (MovesLease c.args.at.op c.lease.new.running c.lease.new.sessions old c.lease.new.wired.trail)) (sym w.result-is) m
      | in-Repeated w ↦ subst (λ x. OnOk x (MovesLease c.args.at.op c.lease.new.running c.lease.new.sessions old c.lease.new.wired.trail)) (sym w.result-is) m
    ])

pub returns-clause-appends : goal.returns-clause-appends
returns-clause-appends g c =
    let old : Recorded = c.self.inside.wired.trail in
    let r : Recorded = c.reserve.new.self.trail in
    rw (← c.self.view_is)
    (grown-trans c.args.at.moment old r c.lease.new.wired.trail
    (grown-still c.args.at.moment old r r.room (ap (λ s. s.trail) c.reserve.ensures.same))
    (grown-leases r c.lease.new.wired.trail c.args.at c.args.sessions.now c.lease.new.sessions c.args.running.now c.lease.new.running
    (id_of c.args.words.first c.args.words.second) c.in_ok-lease.field-0 c.in_ok-lease.ensures.leases))
