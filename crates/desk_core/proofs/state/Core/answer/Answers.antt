use Rattle.std.proofs.Common.{◌≡◌, ◌+◌, true, false, sym, ap, ◌∙◌, subst, arith, rules}
use Rattle.std.specs.Prelude.{[], ◌∷◌, is_some, if◌then◌else◌}
use Rattle.desk_trail.specs.declared.room.Room.{Room}
use Rattle.desk_trail.specs.Legal.{Point}
use Rattle.desk_trail.specs.Owed as owed
use Rattle.desk_trail.specs.States.{ClientState, CommandState}
use Rattle.desk_trail.specs.Written.{IsAtLeast}
use Rattle.legal_trail.specs.Recorded.{Recorded}
use Rattle.trail_laws.specs.Holding.{IsHeldFor}
use Rattle.sess_step.specs.declared.command_at.CommandAt.{CommandAt}
use Rattle.desk_core.proofs.AppendsLemmas.{grown-still}
use Rattle.desk_core.proofs.KeptLemmas.{IsKept-room}
use Rattle.desk_core.proofs.LeaseLemmas.{HasFinished-reserved, HoldsSo-out, IsKept-finished, IsKept-returned, MovesLease-returned, MovesLease-room, point-reserved}
use Rattle.desk_core.proofs.state.Core.answer.Goals as goal

pub invariant_of-self : goal.invariant_of-self
invariant_of-self g c =
    IsKept-room c.self.inside.wired c.reserve.new.self c.self.inside.topology.topology c.self.inside.servers.items c.self.inside.gossip c.self.inside.closings c.self.inside.last c.self.inside.stopped
    c.reserve.ensures.same c.reserve.ensures.kept c.self.invariant

pub returns-in_err-reserve-clause-appends : goal.returns-in_err-reserve-clause-appends
returns-in_err-reserve-clause-appends g c =
    rw (← c.self.view_is)
    (grown-still c.args.moment c.self.inside.wired.trail c.reserve.new.self.trail c.reserve.new.self.trail.room (ap (λ s. s.trail) c.reserve.ensures.same))

pub invariant_of-self-then-is_none : goal.invariant_of-self-then-is_none
invariant_of-self-then-is_none g c =
    let work = rw (← c.self.view_is, ← c.operation.view_is) at c.requires.work in
    let r : Recorded = c.reserve.new.self.trail in
    let new : Recorded = c.finish.new.wired.trail in
    let f =
    HasFinished-reserved c.self.inside.wired c.reserve.new.self c.finish.new.wired.trail c.reserve.new.self.trail.room c.args.moment c.args.op c.in-Answer.outcome
    c.operation.inside.running c.finish.new.running c.reserve.ensures.same work.ready.paid work.there c.finish.ensures.adds c.finish.ensures.moved in
    let more : IsAtLeast (record { names = 0; events = 0; sessions = 0; requests = 0; steps = c.self.inside.closings + 2 }) r.room =
    subst (λ (m : Room). IsAtLeast m r.room) c.in_ok-room.ensures c.in_ok-reserve.ensures.room in
    let steps = more.steps in
    let used = c.finish.ensures.adds.room_used.steps in
    let now = work.ready.now in
    IsKept-finished r new c.reserve.new.self.lines c.finish.new.wired.lines c.self.inside.topology.topology c.self.inside.servers.items c.self.inside.gossip c.self.inside.closings
    c.self.inside.last c.args.moment c.args.op c.self.inside.stopped c.operation.inside.running c.finish.new.running f (omega arith) (omega arith)
    (ap (λ s. s.lines) c.finish.ensures.same) work.ready.runs
    (IsKept-room c.self.inside.wired c.reserve.new.self c.self.inside.topology.topology c.self.inside.servers.items c.self.inside.gossip c.self.inside.closings c.self.inside.last c.self.inside.stopped
    c.reserve.ensures.same c.reserve.ensures.kept c.self.invariant)

pub returns-then-is_none-clause-ok : goal.returns-then-is_none-clause-ok
returns-then-is_none-clause-ok g c =
    let work = rw (← c.self.view_is, ← c.operation.view_is) at c.requires.work in
    let f =
    HasFinished-reserved c.self.inside.wired c.reserve.new.self c.finish.new.wired.trail c.reserve.new.self.trail.room c.args.moment c.args.op c.in-Answer.outcome
    c.operation.inside.running c.finish.new.running c.reserve.ensures.same work.ready.paid work.there c.finish.ensures.adds c.finish.ensures.moved in
    let none : is_some c.finish.new.running.session ≡ false = search rules in
    record {
      runs = work.ready.runs;
      paid = f.owes ∙ ap (λ b. if b then owed.Returned c.args.op ∷ [] else []) (sym (ap (λ (d : CommandState). is_some d.session) f.is) ∙ none);
      now = work.ready.now;
    }

pub returns-then-is_none-clause-finished : goal.returns-then-is_none-clause-finished
returns-then-is_none-clause-finished g c =
    let work = rw (← c.self.view_is, ← c.operation.view_is) at c.requires.work in
    let f =
    HasFinished-reserved c.self.inside.wired c.reserve.new.self c.finish.new.wired.trail c.reserve.new.self.trail.room c.args.moment c.args.op c.in-Answer.outcome
    c.operation.inside.running c.finish.new.running c.reserve.ensures.same work.ready.paid work.there c.finish.ensures.adds c.finish.ensures.moved in
    ap (λ (d : CommandState). d.is_finished) f.is

pub give_back-requires-clause-owes : goal.give_back-requires-clause-owes
give_back-requires-clause-owes g c =
    let work = rw (← c.self.view_is, ← c.operation.view_is) at c.requires.work in
    let h = c.self.invariant.leads work.ready.runs in
    let point = point-reserved c.self.inside.wired c.reserve.new.self c.reserve.new.self.trail.room c.reserve.ensures.same in
    let f =
    HasFinished-reserved c.self.inside.wired c.reserve.new.self c.finish.new.wired.trail c.reserve.new.self.trail.room c.args.moment c.args.op c.in-Answer.outcome
    c.operation.inside.running c.finish.new.running c.reserve.ensures.same work.ready.paid work.there c.finish.ensures.adds c.finish.ensures.moved in
    let some : is_some c.finish.new.running.session ≡ true = search rules in
    record {
      owes = f.owes ∙ ap (λ b. if b then owed.Returned c.args.op ∷ [] else []) (sym (ap (λ (d : CommandState). is_some d.session) f.is) ∙ some);
      time = sym f.at;
      goes_on = f.going ∙ ap (λ (p : Point). p.state.is_ending) point ∙ ap (λ (w : ClientState). w.is_ending) h.state;
      there = f.there;
    }

pub give_back-requires-clause-held : goal.give_back-requires-clause-held
give_back-requires-clause-held g c =
    let work = rw (← c.self.view_is, ← c.operation.view_is) at c.requires.work in
    let book = rw (← c.self.view_is) at c.requires.book in
    let point = point-reserved c.self.inside.wired c.reserve.new.self c.reserve.new.self.trail.room c.reserve.ensures.same in
    let f =
    HasFinished-reserved c.self.inside.wired c.reserve.new.self c.finish.new.wired.trail c.reserve.new.self.trail.room c.args.moment c.args.op c.in-Answer.outcome
    c.operation.inside.running c.finish.new.running c.reserve.ensures.same work.ready.paid work.there c.finish.ensures.adds c.finish.ensures.moved in
    let some : is_some c.finish.new.running.session ≡ true = search rules in
    HoldsSo-out c.args.sessions.now c.finish.new.running some
    (λ place has. subst (λ s. IsHeldFor s place c.finish.new.running.number) (f.sessions ∙ ap (λ (p : Point). p.state.sessions) point ∙ book)
    (c.each_session_is_held.ensures.held c.args.op c.finish.new.running place f.there has))

pub invariant_of-self-2 : goal.invariant_of-self-2
invariant_of-self-2 g c =
    let work = rw (← c.self.view_is, ← c.operation.view_is) at c.requires.work in
    let r : Recorded = c.reserve.new.self.trail in
    let between : Recorded = c.finish.new.wired.trail in
    let new : Recorded = c.give_back.new.wired.trail in
    let at : CommandAt = record { op = c.args.op; moment = c.args.moment } in
    let f =
    HasFinished-reserved c.self.inside.wired c.reserve.new.self c.finish.new.wired.trail c.reserve.new.self.trail.room c.args.moment c.args.op c.in-Answer.outcome
    c.operation.inside.running c.finish.new.running c.reserve.ensures.same work.ready.paid work.there c.finish.ensures.adds c.finish.ensures.moved in
    let more : IsAtLeast (record { names = 0; events = 0; sessions = 0; requests = 0; steps = c.self.inside.closings + 2 }) r.room =
    subst (λ (m : Room). IsAtLeast m r.room) c.in_ok-room.ensures c.in_ok-reserve.ensures.room in
    let steps = more.steps in
    let used_first = c.finish.ensures.adds.room_used.steps in
    let used_then = c.give_back.ensures.returned.adds.room_used.steps in
    let now = work.ready.now in
    IsKept-returned between new c.finish.new.wired.lines c.give_back.new.wired.lines c.self.inside.topology.topology c.self.inside.servers.items c.self.inside.gossip
    c.self.inside.closings c.self.inside.last c.self.inside.stopped at c.finish.new.running c.give_back.new.running c.args.sessions.now c.give_back.new.sessions
    c.give_back.ensures.returned (omega arith) (omega arith) (ap (λ s. s.lines) c.give_back.ensures.same) work.ready.runs
    (IsKept-finished r between c.reserve.new.self.lines c.finish.new.wired.lines c.self.inside.topology.topology c.self.inside.servers.items c.self.inside.gossip c.self.inside.closings
    c.self.inside.last c.args.moment c.args.op c.self.inside.stopped c.operation.inside.running c.finish.new.running f (omega arith) (omega arith)
    (ap (λ s. s.lines) c.finish.ensures.same) work.ready.runs
    (IsKept-room c.self.inside.wired c.reserve.new.self c.self.inside.topology.topology c.self.inside.servers.items c.self.inside.gossip c.self.inside.closings c.self.inside.last c.self.inside.stopped
    c.reserve.ensures.same c.reserve.ensures.kept c.self.invariant))

pub returns-clause-moves : goal.returns-clause-moves
returns-clause-moves g c =
    let work = rw (← c.self.view_is, ← c.operation.view_is) at c.requires.work in
    let ids = rw (← c.self.view_is) at c.requires.ids in
    let old : Recorded = c.self.inside.wired.trail in
    let r : Recorded = c.reserve.new.self.trail in
    let between : Recorded = c.finish.new.wired.trail in
    let new : Recorded = c.give_back.new.wired.trail in
    let point = point-reserved c.self.inside.wired c.reserve.new.self c.reserve.new.self.trail.room c.reserve.ensures.same in
    let at : CommandAt = record { op = c.args.op; moment = c.args.moment } in
    let f =
    HasFinished-reserved c.self.inside.wired c.reserve.new.self c.finish.new.wired.trail c.reserve.new.self.trail.room c.args.moment c.args.op c.in-Answer.outcome
    c.operation.inside.running c.finish.new.running c.reserve.ensures.same work.ready.paid work.there c.finish.ensures.adds c.finish.ensures.moved in
    rw (← c.self.view_is)
    (MovesLease-room c.args.op c.give_back.new.running c.give_back.new.sessions old r new point
    (MovesLease-returned at c.operation.inside.running c.finish.new.running c.give_back.new.running c.args.sessions.now c.give_back.new.sessions r between new f
    c.give_back.ensures.returned (c.give_back.ensures.ids (f.ids ∙ ap (λ s. s.trail.lists.sessions) c.reserve.ensures.same ∙ ids))))

pub returns-clause-finished : goal.returns-clause-finished
returns-clause-finished g c =
    let work = rw (← c.self.view_is, ← c.operation.view_is) at c.requires.work in
    let f =
    HasFinished-reserved c.self.inside.wired c.reserve.new.self c.finish.new.wired.trail c.reserve.new.self.trail.room c.args.moment c.args.op c.in-Answer.outcome
    c.operation.inside.running c.finish.new.running c.reserve.ensures.same work.ready.paid work.there c.finish.ensures.adds c.finish.ensures.moved in
    ap (λ (d : CommandState). d.is_finished) c.give_back.ensures.returned.left ∙ ap (λ (d : CommandState). d.is_finished) f.is
