use Rattle.std.proofs.Common.{◌≡◌, ℕ, Some, refl, sym, ap, ◌∙◌, subst, arith}
use Rattle.std.specs.Prelude.{IfOk, slice_get}
use Rattle.std.specs.declared.alloc.AllocError.{AllocError}
use Rattle.std.specs.declared.result.Result.{Result}
use Rattle.std.specs.declared.result.Result.TheVariants.{Ok}
use Rattle.std.proofs.lemmas.Option.{slice_get_within}
use Rattle.net_link.specs.Causes.{Rose}
use Rattle.pool_book.specs.Pool.{is_swept}
use Rattle.desk_trail.specs.Facts.{facts_of}
use Rattle.desk_trail.specs.Holds.{WaitsAt}
use Rattle.desk_trail.specs.Legal.{Point}
use Rattle.desk_trail.specs.States.{CommandState, ServerState}
use Rattle.cmd_step.specs.Answers.{IsAnswer}
use Rattle.cmd_step.specs.Places.{AreAt}
use Rattle.cmd_step.specs.declared.got.Answer.{Answer}
use Rattle.cmd_step.specs.declared.got.Answer.TheVariants as answer
use Rattle.cmd_step.specs.declared.place.At.{At}
use Rattle.desk_core.proofs.AnswerLemmas.{Appends-told, Came-answer, IsBehindAnswer-by, IsInLine-by, IsMoved-answer, check-lines-answer, time-answer}
use Rattle.desk_core.proofs.AppendsLemmas.{grown-same, grown-still, grown-trans}
use Rattle.desk_core.proofs.ComesLemmas.{AreAt-work, IsKept-comes, KeepsAddress-comes, MovesOne-moved, closing-less, closing-within, read-at}
use Rattle.desk_core.proofs.DropLemmas.{read-there}
use Rattle.desk_core.proofs.KeptLemmas.{IsKept-room}
use Rattle.desk_core.proofs.PoolLemmas.{at-servers}
use Rattle.desk_core.proofs.state.Core.check_out_at.Goals as goal

pub invariant_of-self : goal.invariant_of-self
invariant_of-self g c =
    IsKept-room c.self.inside.wired c.reserve.new.self c.self.inside.topology.topology c.self.inside.servers.items c.self.inside.gossip c.self.inside.closings c.self.inside.last c.self.inside.stopped
    c.reserve.ensures.same c.reserve.ensures.kept c.self.invariant

pub returns-in_err-reserve-clause-appends : goal.returns-in_err-reserve-clause-appends
returns-in_err-reserve-clause-appends g c =
    rw (← c.self.view_is)
    (grown-still c.args.moment c.self.inside.wired.trail c.reserve.new.self.trail c.reserve.new.self.trail.room (ap (λ s. s.trail) c.reserve.ensures.same))

pub index_mut-server-requires : goal.index_mut-server-requires
index_mut-server-requires g c =
    let ready = rw (← c.self.view_is) at c.requires.work.ready in
    let items = c.self.inside.servers.items in
    let s0 = c.requires.swept.0 in
    let first : slice_get items c.args.host ≡ Some s0 =
    at-servers c.self.inside.wired.trail c.self.inside.wired.lines c.self.inside.topology.topology items c.self.inside.gossip c.self.inside.last c.args.host s0
    (c.self.invariant.leads ready.runs) (ap (λ d. slice_get d.trail.point.state.servers c.args.host) c.self.view_is ∙ c.requires.swept.1) in
    omega (arith, slice_get_within items c.args.host s0 first, c.self.inside.servers.ok.0)

pub check_out-told-requires-clause-places : goal.check_out-told-requires-clause-places
check_out-told-requires-clause-places g c =
    let ready = rw (← c.self.view_is) at c.requires.work.ready in
    let items = c.self.inside.servers.items in
    let s0 = c.requires.swept.0 in
    let first : slice_get items c.args.host ≡ Some s0 =
    at-servers c.self.inside.wired.trail c.self.inside.wired.lines c.self.inside.topology.topology items c.self.inside.gossip c.self.inside.last c.args.host s0
    (c.self.invariant.leads ready.runs) (ap (λ d. slice_get d.trail.point.state.servers c.args.host) c.self.view_is ∙ c.requires.swept.1) in
    let s = c.index_mut-server.result.now in
    let there : slice_get items c.args.host ≡ Some s = read-at items c.args.host s0 s first c.index_mut-server.ensures.value in
    let at : At = record { op = c.args.op; host = c.args.host; moment = c.args.moment } in
    let kept = IsKept-room c.self.inside.wired c.reserve.new.self c.self.inside.topology.topology items c.self.inside.gossip c.self.inside.closings c.self.inside.last
    c.self.inside.stopped c.reserve.ensures.same c.reserve.ensures.kept c.self.invariant in
    let places : AreAt c.reserve.new.self.trail.point.state at s c.operation.inside.running =
    AreAt-work c.args.self.now c.args.moment at c.self.inside.wired.trail c.reserve.new.self.trail c.reserve.new.self.trail.room c.reserve.new.self.lines c.self.inside.topology.topology
    items c.self.inside.gossip c.self.inside.last s c.args.operation.now c.operation.inside.running c.requires.work
    (ap (λ d. d.trail) (sym c.self.view_is)) (ap (λ s. s.trail) c.reserve.ensures.same) (kept.leads ready.runs) there c.operation.view_is in
    places

pub check_out-told-requires-clause-idle : goal.check_out-told-requires-clause-idle
check_out-told-requires-clause-idle g c =
    let ready = rw (← c.self.view_is) at c.requires.work.ready in
    let items = c.self.inside.servers.items in
    let s0 = c.requires.swept.0 in
    let first : slice_get items c.args.host ≡ Some s0 =
    at-servers c.self.inside.wired.trail c.self.inside.wired.lines c.self.inside.topology.topology items c.self.inside.gossip c.self.inside.last c.args.host s0
    (c.self.invariant.leads ready.runs) (ap (λ d. slice_get d.trail.point.state.servers c.args.host) c.self.view_is ∙ c.requires.swept.1) in
    let s = c.index_mut-server.result.now in
    let there : slice_get items c.args.host ≡ Some s = read-at items c.args.host s0 s first c.index_mut-server.ensures.value in
    ((c.self.invariant.leads ready.runs).kept c.args.host s there).paid

pub check_out-told-requires-clause-in_line : goal.check_out-told-requires-clause-in_line
check_out-told-requires-clause-in_line g c =
    let ready = rw (← c.self.view_is) at c.requires.work.ready in
    let items = c.self.inside.servers.items in
    let s0 = c.requires.swept.0 in
    let first : slice_get items c.args.host ≡ Some s0 =
    at-servers c.self.inside.wired.trail c.self.inside.wired.lines c.self.inside.topology.topology items c.self.inside.gossip c.self.inside.last c.args.host s0
    (c.self.invariant.leads ready.runs) (ap (λ d. slice_get d.trail.point.state.servers c.args.host) c.self.view_is ∙ c.requires.swept.1) in
    let s = c.index_mut-server.result.now in
    let there : slice_get items c.args.host ≡ Some s = read-at items c.args.host s0 s first c.index_mut-server.ensures.value in
    let at : At = record { op = c.args.op; host = c.args.host; moment = c.args.moment } in
    let kept = IsKept-room c.self.inside.wired c.reserve.new.self c.self.inside.topology.topology items c.self.inside.gossip c.self.inside.closings c.self.inside.last
    c.self.inside.stopped c.reserve.ensures.same c.reserve.ensures.kept c.self.invariant in
    let places : AreAt c.reserve.new.self.trail.point.state at s c.operation.inside.running =
    AreAt-work c.args.self.now c.args.moment at c.self.inside.wired.trail c.reserve.new.self.trail c.reserve.new.self.trail.room c.reserve.new.self.lines c.self.inside.topology.topology
    items c.self.inside.gossip c.self.inside.last s c.args.operation.now c.operation.inside.running c.requires.work
    (ap (λ d. d.trail) (sym c.self.view_is)) (ap (λ s. s.trail) c.reserve.ensures.same) (kept.leads ready.runs) there c.operation.view_is in
    let r = c.reserve.new.self.trail in
    let ts = facts_of r.lists r.steps in
    let waits = ap (λ (x : CommandState). x.check_out) c.operation.view_is ∙ c.requires.waits.1 in
    let there_too = ap (λ (p : Point). slice_get p.state.commands c.args.op) (sym c.steps.ensures.point) ∙ places.command in
    let legal = c.steps.ensures.legal.legal in
    IsInLine-by r.point.state at c.requires.waits.0 s c.operation.inside.running places waits
    (c.each_command_waits_at_its_server.ensures r.client ts c.args.op c.operation.inside.running legal there_too)
    (subst (λ (p : Point). WaitsAt p.state c.args.host c.requires.waits.0) (sym c.steps.ensures.point)
    (c.each_command_is_where_its_pool_has_it.ensures.waits r.client ts c.args.op c.operation.inside.running c.args.host c.requires.waits.0 legal there_too waits))

pub check_out-told-requires-clause-swept : goal.check_out-told-requires-clause-swept
check_out-told-requires-clause-swept g c =
    let ready = rw (← c.self.view_is) at c.requires.work.ready in
    let items = c.self.inside.servers.items in
    let s0 = c.requires.swept.0 in
    let first : slice_get items c.args.host ≡ Some s0 =
    at-servers c.self.inside.wired.trail c.self.inside.wired.lines c.self.inside.topology.topology items c.self.inside.gossip c.self.inside.last c.args.host s0
    (c.self.invariant.leads ready.runs) (ap (λ d. slice_get d.trail.point.state.servers c.args.host) c.self.view_is ∙ c.requires.swept.1) in
    ap (λ (u : ServerState). is_swept u.pool.state c.args.moment) (read-there items c.args.host s0 c.index_mut-server.result.now first c.index_mut-server.ensures.value) ∙ c.requires.swept.2

pub overflow_sub-self : goal.overflow_sub-self
overflow_sub-self g c =
    let ready = rw (← c.self.view_is) at c.requires.work.ready in
    let items = c.self.inside.servers.items in
    let s0 = c.requires.swept.0 in
    let first : slice_get items c.args.host ≡ Some s0 =
    at-servers c.self.inside.wired.trail c.self.inside.wired.lines c.self.inside.topology.topology items c.self.inside.gossip c.self.inside.last c.args.host s0
    (c.self.invariant.leads ready.runs) (ap (λ d. slice_get d.trail.point.state.servers c.args.host) c.self.view_is ∙ c.requires.swept.1) in
    let s = c.index_mut-server.result.now in
    let there : slice_get items c.args.host ≡ Some s = read-at items c.args.host s0 s first c.index_mut-server.ensures.value in
    omega (arith, c.closing_of-before.ensures, closing-within items c.args.host s there, c.self.invariant.counted)

pub overflow_add-self : goal.overflow_add-self
overflow_add-self g c =
    let ready = rw (← c.self.view_is) at c.requires.work.ready in
    let items = c.self.inside.servers.items in
    let s0 = c.requires.swept.0 in
    let first : slice_get items c.args.host ≡ Some s0 =
    at-servers c.self.inside.wired.trail c.self.inside.wired.lines c.self.inside.topology.topology items c.self.inside.gossip c.self.inside.last c.args.host s0
    (c.self.invariant.leads ready.runs) (ap (λ d. slice_get d.trail.point.state.servers c.args.host) c.self.view_is ∙ c.requires.swept.1) in
    let s = c.index_mut-server.result.now in
    let there : slice_get items c.args.host ≡ Some s = read-at items c.args.host s0 s first c.index_mut-server.ensures.value in
    let at : At = record { op = c.args.op; host = c.args.host; moment = c.args.moment } in
    let kept = IsKept-room c.self.inside.wired c.reserve.new.self c.self.inside.topology.topology items c.self.inside.gossip c.self.inside.closings c.self.inside.last
    c.self.inside.stopped c.reserve.ensures.same c.reserve.ensures.kept c.self.invariant in
    let places : AreAt c.reserve.new.self.trail.point.state at s c.operation.inside.running =
    AreAt-work c.args.self.now c.args.moment at c.self.inside.wired.trail c.reserve.new.self.trail c.reserve.new.self.trail.room c.reserve.new.self.lines c.self.inside.topology.topology
    items c.self.inside.gossip c.self.inside.last s c.args.operation.now c.operation.inside.running c.requires.work
    (ap (λ d. d.trail) (sym c.self.view_is)) (ap (λ s. s.trail) c.reserve.ensures.same) (kept.leads ready.runs) there c.operation.view_is in
    let a = c.in-Ok.answer in
    let r = c.reserve.new.self in
    let v = c.check_out-told.new.wired in
    let t = c.check_out-told.new.server in
    let d = c.check_out-told.new.running in
    let e = c.operation.inside.running in
    let answered : IsAnswer at a r.trail v.trail r.lines v.lines s t e d =
    subst (λ (x : Result Answer AllocError). IfOk x (λ b. IsAnswer at b r.trail v.trail r.lines v.lines s t e d)) c.in-Ok.ensures.same c.check_out-told.ensures.answer in
    let came = Came-answer {R = Unit {0}} at a r.trail v.trail r.lines v.lines s t e d (λ conn x. tt) answered in
    let moved = IsMoved-answer at a r.trail v.trail r.lines v.lines s t e d places answered in
    let less = closing-less came.n c.args.moment r.trail v.trail r.lines c.self.inside.topology.topology items c.self.inside.gossip
    c.self.inside.last c.args.host s t (kept.leads ready.runs) came.comes moved.servers there in
    omega (arith, less, c.closing_of-before.ensures, c.closing_of-behind.ensures, closing-within items c.args.host s there, c.self.invariant.counted)

pub invariant_of-self-2 : goal.invariant_of-self-2
invariant_of-self-2 g c =
    let ready = rw (← c.self.view_is) at c.requires.work.ready in
    let items = c.self.inside.servers.items in
    let s0 = c.requires.swept.0 in
    let first : slice_get items c.args.host ≡ Some s0 =
    at-servers c.self.inside.wired.trail c.self.inside.wired.lines c.self.inside.topology.topology items c.self.inside.gossip c.self.inside.last c.args.host s0
    (c.self.invariant.leads ready.runs) (ap (λ d. slice_get d.trail.point.state.servers c.args.host) c.self.view_is ∙ c.requires.swept.1) in
    let s = c.index_mut-server.result.now in
    let there : slice_get items c.args.host ≡ Some s = read-at items c.args.host s0 s first c.index_mut-server.ensures.value in
    let at : At = record { op = c.args.op; host = c.args.host; moment = c.args.moment } in
    let kept = IsKept-room c.self.inside.wired c.reserve.new.self c.self.inside.topology.topology items c.self.inside.gossip c.self.inside.closings c.self.inside.last
    c.self.inside.stopped c.reserve.ensures.same c.reserve.ensures.kept c.self.invariant in
    let places : AreAt c.reserve.new.self.trail.point.state at s c.operation.inside.running =
    AreAt-work c.args.self.now c.args.moment at c.self.inside.wired.trail c.reserve.new.self.trail c.reserve.new.self.trail.room c.reserve.new.self.lines c.self.inside.topology.topology
    items c.self.inside.gossip c.self.inside.last s c.args.operation.now c.operation.inside.running c.requires.work
    (ap (λ d. d.trail) (sym c.self.view_is)) (ap (λ s. s.trail) c.reserve.ensures.same) (kept.leads ready.runs) there c.operation.view_is in
    let a = c.in-Ok.answer in
    let r = c.reserve.new.self in
    let v = c.check_out-told.new.wired in
    let t = c.check_out-told.new.server in
    let d = c.check_out-told.new.running in
    let e = c.operation.inside.running in
    let answered : IsAnswer at a r.trail v.trail r.lines v.lines s t e d =
    subst (λ (x : Result Answer AllocError). IfOk x (λ b. IsAnswer at b r.trail v.trail r.lines v.lines s t e d)) c.in-Ok.ensures.same c.check_out-told.ensures.answer in
    let came = Came-answer {R = Unit {0}} at a r.trail v.trail r.lines v.lines s t e d (λ conn x. tt) answered in
    let moved = IsMoved-answer at a r.trail v.trail r.lines v.lines s t e d places answered in
    IsKept-comes came.n c.args.moment r.trail v.trail r.lines v.lines c.self.inside.topology.topology items
    c.self.inside.gossip c.self.inside.gossip c.self.inside.closings _ c.self.inside.last c.self.inside.stopped c.args.host s t kept ready.runs came.comes moved.servers there
    c.check_out-told.ensures.idle (time-answer at a r.trail v.trail r.lines v.lines s t e d answered ∙ (kept.leads ready.runs).greatest) ready.now
    (omega (arith, came.few, c.in_ok-reserve.ensures.room.steps, ap (λ x. x.steps) c.in_ok-room.ensures))
    (check-lines-answer at a r.trail v.trail r.lines v.lines s t e d answered)
    (omega (arith, c.closing_of-before.ensures, c.closing_of-behind.ensures, closing-within items c.args.host s there, c.self.invariant.counted))

pub returns-clause-answer : goal.returns-clause-answer
returns-clause-answer g c =
    let ready = rw (← c.self.view_is) at c.requires.work.ready in
    let items = c.self.inside.servers.items in
    let s0 = c.requires.swept.0 in
    let first : slice_get items c.args.host ≡ Some s0 =
    at-servers c.self.inside.wired.trail c.self.inside.wired.lines c.self.inside.topology.topology items c.self.inside.gossip c.self.inside.last c.args.host s0
    (c.self.invariant.leads ready.runs) (ap (λ d. slice_get d.trail.point.state.servers c.args.host) c.self.view_is ∙ c.requires.swept.1) in
    let s = c.index_mut-server.result.now in
    let there : slice_get items c.args.host ≡ Some s = read-at items c.args.host s0 s first c.index_mut-server.ensures.value in
    let at : At = record { op = c.args.op; host = c.args.host; moment = c.args.moment } in
    let kept = IsKept-room c.self.inside.wired c.reserve.new.self c.self.inside.topology.topology items c.self.inside.gossip c.self.inside.closings c.self.inside.last
    c.self.inside.stopped c.reserve.ensures.same c.reserve.ensures.kept c.self.invariant in
    let places : AreAt c.reserve.new.self.trail.point.state at s c.operation.inside.running =
    AreAt-work c.args.self.now c.args.moment at c.self.inside.wired.trail c.reserve.new.self.trail c.reserve.new.self.trail.room c.reserve.new.self.lines c.self.inside.topology.topology
    items c.self.inside.gossip c.self.inside.last s c.args.operation.now c.operation.inside.running c.requires.work
    (ap (λ d. d.trail) (sym c.self.view_is)) (ap (λ s. s.trail) c.reserve.ensures.same) (kept.leads ready.runs) there c.operation.view_is in
    let a = c.in-Ok.answer in
    let r = c.reserve.new.self in
    let v = c.check_out-told.new.wired in
    let t = c.check_out-told.new.server in
    let d = c.check_out-told.new.running in
    let e = c.operation.inside.running in
    let answered : IsAnswer at a r.trail v.trail r.lines v.lines s t e d =
    subst (λ (x : Result Answer AllocError). IfOk x (λ b. IsAnswer at b r.trail v.trail r.lines v.lines s t e d)) c.in-Ok.ensures.same c.check_out-told.ensures.answer in
    let came = Came-answer {R = Unit {0}} at a r.trail v.trail r.lines v.lines s t e d (λ conn x. tt) answered in
    let moved = IsMoved-answer at a r.trail v.trail r.lines v.lines s t e d places answered in
    let less = closing-less came.n c.args.moment r.trail v.trail r.lines c.self.inside.topology.topology items c.self.inside.gossip
    c.self.inside.last c.args.host s t (kept.leads ready.runs) came.comes moved.servers there in
    IsBehindAnswer-by _ at a r.trail v.trail r.lines v.lines s t e d refl ready.runs ready.now
    (omega (
      arith,
      less,
      came.few,
      came.comes.space,
      c.in_ok-reserve.ensures.room.steps,
      ap (λ x. x.steps) c.in_ok-room.ensures,
      c.closing_of-before.ensures,
      c.closing_of-behind.ensures,
      closing-within items c.args.host s there,
      c.self.invariant.counted,
    ))
    (ap (λ x. x.trail.point.owed) c.reserve.ensures.same ∙ ready.paid) c.in-Ok.ensures.plain places answered

pub returns-clause-moves : goal.returns-clause-moves
returns-clause-moves g c =
    let ready = rw (← c.self.view_is) at c.requires.work.ready in
    let items = c.self.inside.servers.items in
    let s0 = c.requires.swept.0 in
    let first : slice_get items c.args.host ≡ Some s0 =
    at-servers c.self.inside.wired.trail c.self.inside.wired.lines c.self.inside.topology.topology items c.self.inside.gossip c.self.inside.last c.args.host s0
    (c.self.invariant.leads ready.runs) (ap (λ d. slice_get d.trail.point.state.servers c.args.host) c.self.view_is ∙ c.requires.swept.1) in
    let s = c.index_mut-server.result.now in
    let there : slice_get items c.args.host ≡ Some s = read-at items c.args.host s0 s first c.index_mut-server.ensures.value in
    let at : At = record { op = c.args.op; host = c.args.host; moment = c.args.moment } in
    let kept = IsKept-room c.self.inside.wired c.reserve.new.self c.self.inside.topology.topology items c.self.inside.gossip c.self.inside.closings c.self.inside.last
    c.self.inside.stopped c.reserve.ensures.same c.reserve.ensures.kept c.self.invariant in
    let places : AreAt c.reserve.new.self.trail.point.state at s c.operation.inside.running =
    AreAt-work c.args.self.now c.args.moment at c.self.inside.wired.trail c.reserve.new.self.trail c.reserve.new.self.trail.room c.reserve.new.self.lines c.self.inside.topology.topology
    items c.self.inside.gossip c.self.inside.last s c.args.operation.now c.operation.inside.running c.requires.work
    (ap (λ d. d.trail) (sym c.self.view_is)) (ap (λ s. s.trail) c.reserve.ensures.same) (kept.leads ready.runs) there c.operation.view_is in
    let a = c.in-Ok.answer in
    let r = c.reserve.new.self in
    let v = c.check_out-told.new.wired in
    let t = c.check_out-told.new.server in
    let d = c.check_out-told.new.running in
    let e = c.operation.inside.running in
    let answered : IsAnswer at a r.trail v.trail r.lines v.lines s t e d =
    subst (λ (x : Result Answer AllocError). IfOk x (λ b. IsAnswer at b r.trail v.trail r.lines v.lines s t e d)) c.in-Ok.ensures.same c.check_out-told.ensures.answer in
    let came = Came-answer {R = Unit {0}} at a r.trail v.trail r.lines v.lines s t e d (λ conn x. tt) answered in
    let moved = IsMoved-answer at a r.trail v.trail r.lines v.lines s t e d places answered in
    rw (← c.self.view_is) (MovesOne-moved came.n c.args.moment c.self.inside.wired.trail r.trail v.trail r.trail.room at t d (ap (λ x. x.trail) c.reserve.ensures.same) came.comes moved)

pub returns-clause-stays : goal.returns-clause-stays
returns-clause-stays g c =
    let ready = rw (← c.self.view_is) at c.requires.work.ready in
    let items = c.self.inside.servers.items in
    let s0 = c.requires.swept.0 in
    let first : slice_get items c.args.host ≡ Some s0 =
    at-servers c.self.inside.wired.trail c.self.inside.wired.lines c.self.inside.topology.topology items c.self.inside.gossip c.self.inside.last c.args.host s0
    (c.self.invariant.leads ready.runs) (ap (λ d. slice_get d.trail.point.state.servers c.args.host) c.self.view_is ∙ c.requires.swept.1) in
    let s = c.index_mut-server.result.now in
    let there : slice_get items c.args.host ≡ Some s = read-at items c.args.host s0 s first c.index_mut-server.ensures.value in
    let at : At = record { op = c.args.op; host = c.args.host; moment = c.args.moment } in
    let kept = IsKept-room c.self.inside.wired c.reserve.new.self c.self.inside.topology.topology items c.self.inside.gossip c.self.inside.closings c.self.inside.last
    c.self.inside.stopped c.reserve.ensures.same c.reserve.ensures.kept c.self.invariant in
    let places : AreAt c.reserve.new.self.trail.point.state at s c.operation.inside.running =
    AreAt-work c.args.self.now c.args.moment at c.self.inside.wired.trail c.reserve.new.self.trail c.reserve.new.self.trail.room c.reserve.new.self.lines c.self.inside.topology.topology
    items c.self.inside.gossip c.self.inside.last s c.args.operation.now c.operation.inside.running c.requires.work
    (ap (λ d. d.trail) (sym c.self.view_is)) (ap (λ s. s.trail) c.reserve.ensures.same) (kept.leads ready.runs) there c.operation.view_is in
    let a = c.in-Ok.answer in
    let r = c.reserve.new.self in
    let v = c.check_out-told.new.wired in
    let t = c.check_out-told.new.server in
    let d = c.check_out-told.new.running in
    let e = c.operation.inside.running in
    let answered : IsAnswer at a r.trail v.trail r.lines v.lines s t e d =
    subst (λ (x : Result Answer AllocError). IfOk x (λ b. IsAnswer at b r.trail v.trail r.lines v.lines s t e d)) c.in-Ok.ensures.same c.check_out-told.ensures.answer in
    let came = Came-answer {R = Unit {0}} at a r.trail v.trail r.lines v.lines s t e d (λ conn x. tt) answered in
    let moved = IsMoved-answer at a r.trail v.trail r.lines v.lines s t e d places answered in
    rw (← c.self.view_is)
    (KeepsAddress-comes came.n c.args.moment c.args.host c.self.inside.wired.trail r.trail v.trail r.trail.room t (ap (λ x. x.trail) c.reserve.ensures.same) came.comes moved.servers)

pub returns-clause-appends : goal.returns-clause-appends
returns-clause-appends g c =
    let at : At = record { op = c.args.op; host = c.args.host; moment = c.args.moment } in
    let r = c.reserve.new.self in
    let v = c.check_out-told.new.wired in
    let old = c.self.inside.wired in
    let same : r.trail ≡ record old.trail { room = r.trail.room } = ap (λ x. x.trail) c.reserve.ensures.same in
    let rose : (conn : ℕ) → c.check_out-told.result ≡ Ok (answer.Failed conn) → Rose (g.N.Net.faults old.net) (g.N.Net.faults v.net) = λ conn e.
    subst (λ n. Rose (g.N.Net.faults n) (g.N.Net.faults v.net)) (ap (λ x. x.net) c.reserve.ensures.same) (c.check_out-told.ensures.cause.rose (conn, e)) in
    rw (← c.self.view_is)
    (grown-trans c.args.moment old.trail r.trail v.trail
    (grown-same c.args.moment old.trail r.trail (ap (λ x. x.client) same) (ap (λ x. x.lists) same) (ap (λ x. x.steps) same))
    (Appends-told at c.check_out-told.result r.trail v.trail r.lines v.lines c.index_mut-server.result.now c.check_out-told.new.server c.operation.inside.running c.check_out-told.new.running
    rose c.check_out-told.ensures.answer c.check_out-told.ensures.err))

pub returns-in_default-clause-appends : goal.returns-in_default-clause-appends
returns-in_default-clause-appends g c =
    let at : At = record { op = c.args.op; host = c.args.host; moment = c.args.moment } in
    let r = c.reserve.new.self in
    let v = c.check_out-told.new.wired in
    let old = c.self.inside.wired in
    let same : r.trail ≡ record old.trail { room = r.trail.room } = ap (λ x. x.trail) c.reserve.ensures.same in
    let rose : (conn : ℕ) → c.check_out-told.result ≡ Ok (answer.Failed conn) → Rose (g.N.Net.faults old.net) (g.N.Net.faults v.net) = λ conn e.
    subst (λ n. Rose (g.N.Net.faults n) (g.N.Net.faults v.net)) (ap (λ x. x.net) c.reserve.ensures.same) (c.check_out-told.ensures.cause.rose (conn, e)) in
    rw (← c.self.view_is)
    (grown-trans c.args.moment old.trail r.trail v.trail
    (grown-same c.args.moment old.trail r.trail (ap (λ x. x.client) same) (ap (λ x. x.lists) same) (ap (λ x. x.steps) same))
    (Appends-told at c.check_out-told.result r.trail v.trail r.lines v.lines c.index_mut-server.result.now c.check_out-told.new.server c.operation.inside.running c.check_out-told.new.running
    rose c.check_out-told.ensures.answer c.check_out-told.ensures.err))
