use Rattle.std.proofs.Common.{◌≡◌, ◌+◌, ap, ◌∙◌, subst, arith, refl, true, rules}
use Rattle.std.specs.Prelude.{is_some, slice_get}
use Rattle.desk_trail.specs.declared.entry.Entry.TheVariants as entry
use Rattle.desk_trail.specs.declared.room.Room.{Room}
use Rattle.desk_trail.specs.Facts as fact
use Rattle.desk_trail.specs.Leases.{needs_number}
use Rattle.desk_trail.specs.Legal.{Point}
use Rattle.desk_trail.specs.States.{ClientState}
use Rattle.desk_trail.specs.Written.{IsAtLeast, an_entry}
use Rattle.legal_trail.specs.Recorded.{Recorded}
use Rattle.trail_laws.specs.Holding.{IsHeldFor}
use Rattle.desk_core.proofs.AppendsLemmas.{grown-still}
use Rattle.desk_core.proofs.BesideLemmas.{GoesBeside-entry}
use Rattle.desk_core.proofs.KeptLemmas.{IsKept-room}
use Rattle.desk_core.proofs.LeaseLemmas.{HoldsSo-undrawn, IsKept-apart, MovesLease-none, point-reserved}
use Rattle.desk_core.proofs.state.Core.draw_one.Goals as goal

pub returns-then-not-needed-clause-moves : goal.returns-then-not-needed-clause-moves
returns-then-not-needed-clause-moves g c =
    MovesLease-none c.args.at.op c.args.running.now c.args.sessions.now c.args.self.now.trail c.requires.work.there c.requires.book c.requires.ids

pub invariant_of-self : goal.invariant_of-self
invariant_of-self g c =
    IsKept-room c.self.inside.wired c.reserve.new.self c.self.inside.topology.topology c.self.inside.servers.items c.self.inside.gossip c.self.inside.closings c.self.inside.last c.self.inside.stopped
    c.reserve.ensures.same c.reserve.ensures.kept c.self.invariant

pub returns-in_err-reserve-clause-appends : goal.returns-in_err-reserve-clause-appends
returns-in_err-reserve-clause-appends g c =
    rw (← c.self.view_is)
    (grown-still c.args.at.moment c.self.inside.wired.trail c.reserve.new.self.trail c.reserve.new.self.trail.room (ap (λ s. s.trail) c.reserve.ensures.same))

pub draw-requires-clause-undrawn : goal.draw-requires-clause-undrawn
draw-requires-clause-undrawn g c =
    let work = rw (← c.self.view_is) at c.requires.work in
    let book = rw (← c.self.view_is) at c.requires.book in
    let point = point-reserved c.self.inside.wired c.reserve.new.self c.reserve.new.self.trail.room c.reserve.ensures.same in
    let some : is_some c.args.running.now.session ≡ true = search rules in
    let needs : needs_number c.args.running.now ≡ true = search rules in
    HoldsSo-undrawn c.args.sessions.now c.args.running.now some needs
    (λ place has. subst (λ s. IsHeldFor s place c.args.running.now.number) (ap (λ (p : Point). p.state.sessions) point ∙ book)
    (c.each_session_is_held.ensures.held c.args.at.op c.args.running.now place (ap (λ (p : Point). slice_get p.state.commands c.args.at.op) point ∙ work.there) has))

pub invariant_of-self-2 : goal.invariant_of-self-2
invariant_of-self-2 g c =
    let work = rw (← c.self.view_is) at c.requires.work in
    let r : Recorded = c.reserve.new.self.trail in
    let new : Recorded = c.draw.new.wired.trail in
    let more : IsAtLeast (record { names = 0; events = 0; sessions = 0; requests = 0; steps = c.self.inside.closings + 1 }) r.room =
    subst (λ (m : Room). IsAtLeast m r.room) c.in_ok-room.ensures c.in_ok-reserve.ensures.room in
    let steps = more.steps in
    let now = work.ready.now in
    let d = c.draw.ensures.drew in
    let used = d.adds.room_used.steps in
    let at : new.point.moment ≡ c.args.at.moment = ap (λ (p : Point). p.moment) d.adds.point_now in
    IsKept-apart 1 r new c.reserve.new.self.lines c.draw.new.wired.lines c.self.inside.topology.topology c.self.inside.servers.items c.self.inside.gossip
    c.self.inside.closings c.self.inside.last c.self.inside.stopped
    (GoesBeside-entry an_entry c.args.at.moment (entry.Drew c.args.at.op d.number) (fact.Drew c.args.at.op d.number) r new tt refl d.adds)
    (ap (λ (w : ClientState). w.servers) d.moved) (ap (λ (p : Point). p.time) d.adds.point_now) (omega arith) (omega arith) (ap (λ s. s.lines) c.draw.ensures.same) work.ready.runs
    (IsKept-room c.self.inside.wired c.reserve.new.self c.self.inside.topology.topology c.self.inside.servers.items c.self.inside.gossip c.self.inside.closings c.self.inside.last c.self.inside.stopped
    c.reserve.ensures.same c.reserve.ensures.kept c.self.invariant)
