use Rattle.std.proofs.Common.{◌≡◌, ◌<◌, Some, length, refl, sym, ap, ◌∙◌, arith}
use Rattle.std.specs.Prelude.{slice_get, slice_set}
use Rattle.std.proofs.lemmas.Option.{slice_get_read}
use Rattle.desk_trail.specs.Legal.{Point}
use Rattle.desk_trail.specs.States.{ClientState, CommandState}
use Rattle.cmd_step.specs.declared.place.At.{At}
use Rattle.desk_core.proofs.AppendsLemmas.{grown-still}
use Rattle.desk_core.proofs.BesideLemmas.{KeepsCheckLines-same}
use Rattle.desk_core.proofs.ComesLemmas.{AreAt-work, Comes-entered, IsKept-comes, IsKept-same, closing-less, closing-within, entered-command, set-there}
use Rattle.desk_core.proofs.KeptLemmas.{IsKept-room}
use Rattle.desk_core.proofs.state.Core.enter.Goals as goal

pub invariant_of-self : goal.invariant_of-self
invariant_of-self g c =
    IsKept-room c.self.inside.wired c.reserve.new.self c.self.inside.topology.topology c.self.inside.servers.items c.self.inside.gossip c.self.inside.closings c.self.inside.last c.self.inside.stopped
    c.reserve.ensures.same c.reserve.ensures.kept c.self.invariant

pub returns-in_err-reserve-clause-appends : goal.returns-in_err-reserve-clause-appends
returns-in_err-reserve-clause-appends g c =
    rw (← c.self.view_is)
    (grown-still c.args.moment c.self.inside.wired.trail c.reserve.new.self.trail c.reserve.new.self.trail.room (ap (λ s. s.trail) c.reserve.ensures.same))

pub enter-requires-clause-places : goal.enter-requires-clause-places
enter-requires-clause-places g c =
    let at : At = record { op = c.args.op; host = c.args.host; moment = c.args.moment } in
    let runs = rw (← c.self.view_is) at c.requires.work.ready.runs in
    let kept = IsKept-room c.self.inside.wired c.reserve.new.self c.self.inside.topology.topology c.self.inside.servers.items c.self.inside.gossip c.self.inside.closings c.self.inside.last
    c.self.inside.stopped c.reserve.ensures.same c.reserve.ensures.kept c.self.invariant in
    let within : c.args.host < length c.self.inside.servers.items = omega (arith, c.len.ensures, c.if-len-host.false) in
    let there = slice_get_read c.self.inside.servers.items _ c.args.host c.index_mut-server.result.now refl within c.index_mut-server.ensures.value in
    AreAt-work c.args.self.now c.args.moment at c.self.inside.wired.trail c.reserve.new.self.trail c.reserve.new.self.trail.room c.reserve.new.self.lines c.self.inside.topology.topology
    c.self.inside.servers.items c.self.inside.gossip c.self.inside.last c.index_mut-server.result.now c.args.operation.now c.operation.inside.running c.requires.work
    (ap (λ d. d.trail) (sym c.self.view_is)) (ap (λ s. s.trail) c.reserve.ensures.same) (kept.leads runs) there c.operation.view_is

pub enter-requires-clause-idle : goal.enter-requires-clause-idle
enter-requires-clause-idle g c =
    let runs = rw (← c.self.view_is) at c.requires.work.ready.runs in
    let within : c.args.host < length c.self.inside.servers.items = omega (arith, c.len.ensures, c.if-len-host.false) in
    let there = slice_get_read c.self.inside.servers.items _ c.args.host c.index_mut-server.result.now refl within c.index_mut-server.ensures.value in
    ((c.self.invariant.leads runs).kept c.args.host c.index_mut-server.result.now there).paid

pub enter-requires-clause-count : goal.enter-requires-clause-count
enter-requires-clause-count g c =
    let runs = rw (← c.self.view_is) at c.requires.work.ready.runs in
    let within : c.args.host < length c.self.inside.servers.items = omega (arith, c.len.ensures, c.if-len-host.false) in
    let there = slice_get_read c.self.inside.servers.items _ c.args.host c.index_mut-server.result.now refl within c.index_mut-server.ensures.value in
    let entered = ((c.self.invariant.leads runs).kept c.args.host c.index_mut-server.result.now there).entered in
    omega (arith, entered, ap length c.steps.ensures.value, ap (λ s. length s.trail.steps) c.reserve.ensures.same, c.few.ensures)

pub invariant_of-self-in_err-enter : goal.invariant_of-self-in_err-enter
invariant_of-self-in_err-enter g c =
    let items = c.self.inside.servers.items in
    let s = c.index_mut-server.result.now in
    let kept = IsKept-room c.self.inside.wired c.reserve.new.self c.self.inside.topology.topology items c.self.inside.gossip c.self.inside.closings c.self.inside.last
    c.self.inside.stopped c.reserve.ensures.same c.reserve.ensures.kept c.self.invariant in
    let within : c.args.host < length items = omega (arith, c.len.ensures, c.if-len-host.false) in
    let there = slice_get_read items _ c.args.host s refl within c.index_mut-server.ensures.value in
    IsKept-same c.reserve.new.self c.enter.new.wired c.self.inside.topology.topology items (slice_set items c.args.host c.enter.new.server) c.self.inside.gossip c.self.inside.closings
    c.self.inside.last c.self.inside.stopped c.in_err-enter.ensures.err.0 (ap (slice_set items c.args.host) c.in_err-enter.ensures.err.1 ∙ set-there items c.args.host s there) kept

pub overflow_sub-self : goal.overflow_sub-self
overflow_sub-self g c =
    let items = c.self.inside.servers.items in
    let s = c.index_mut-server.result.now in
    let within : c.args.host < length items = omega (arith, c.len.ensures, c.if-len-host.false) in
    let there = slice_get_read items _ c.args.host s refl within c.index_mut-server.ensures.value in
    omega (arith, c.closing_of-before.ensures, closing-within items c.args.host s there, c.self.invariant.counted)

pub overflow_add-self : goal.overflow_add-self
overflow_add-self g c =
    let runs = rw (← c.self.view_is) at c.requires.work.ready.runs in
    let items = c.self.inside.servers.items in
    let s = c.index_mut-server.result.now in
    let kept = IsKept-room c.self.inside.wired c.reserve.new.self c.self.inside.topology.topology items c.self.inside.gossip c.self.inside.closings c.self.inside.last
    c.self.inside.stopped c.reserve.ensures.same c.reserve.ensures.kept c.self.invariant in
    let within : c.args.host < length items = omega (arith, c.len.ensures, c.if-len-host.false) in
    let there = slice_get_read items _ c.args.host s refl within c.index_mut-server.ensures.value in
    let less = closing-less 1 c.args.moment c.reserve.new.self.trail c.enter.new.wired.trail c.reserve.new.self.lines c.self.inside.topology.topology items c.self.inside.gossip
    c.self.inside.last c.args.host s c.enter.new.server (kept.leads runs)
    (Comes-entered {R = ⊥} c.args.moment c.args.op c.args.host s.pool.state.entered c.reserve.new.self.trail c.enter.new.wired.trail c.in_ok-enter.ensures.adds)
    (ap (λ (w : ClientState). w.servers) c.in_ok-enter.ensures.moved) there in
    omega (arith, less, c.closing_of-before.ensures, c.closing_of-behind.ensures, closing-within items c.args.host s there, c.self.invariant.counted)

pub returns-in_err-enter-clause-appends : goal.returns-in_err-enter-clause-appends
returns-in_err-enter-clause-appends g c =
    rw (← c.self.view_is)
    (grown-still c.args.moment c.self.inside.wired.trail c.enter.new.wired.trail c.reserve.new.self.trail.room
    (ap (λ s. s.trail) c.in_err-enter.ensures.err.0 ∙ ap (λ s. s.trail) c.reserve.ensures.same))

pub invariant_of-self-2 : goal.invariant_of-self-2
invariant_of-self-2 g c =
    let ready = rw (← c.self.view_is) at c.requires.work.ready in
    let items = c.self.inside.servers.items in
    let s = c.index_mut-server.result.now in
    let kept = IsKept-room c.self.inside.wired c.reserve.new.self c.self.inside.topology.topology items c.self.inside.gossip c.self.inside.closings c.self.inside.last
    c.self.inside.stopped c.reserve.ensures.same c.reserve.ensures.kept c.self.invariant in
    let within : c.args.host < length items = omega (arith, c.len.ensures, c.if-len-host.false) in
    let there = slice_get_read items _ c.args.host s refl within c.index_mut-server.ensures.value in
    let adds = c.in_ok-enter.ensures.adds in
    let more = c.in_ok-reserve.ensures.room.steps in
    IsKept-comes 1 c.args.moment c.reserve.new.self.trail c.enter.new.wired.trail c.reserve.new.self.lines c.enter.new.wired.lines c.self.inside.topology.topology items c.self.inside.gossip
    c.self.inside.gossip c.self.inside.closings _ c.self.inside.last c.self.inside.stopped c.args.host s c.enter.new.server kept ready.runs
    (Comes-entered {R = ⊥} c.args.moment c.args.op c.args.host s.pool.state.entered c.reserve.new.self.trail c.enter.new.wired.trail adds)
    (ap (λ (w : ClientState). w.servers) c.in_ok-enter.ensures.moved) there c.enter.ensures.idle
    (ap (λ (p : Point). p.time) adds.point_now ∙ (kept.leads ready.runs).greatest) ready.now (omega (arith, more, ap (λ r. r.steps) c.in_ok-room.ensures))
    (KeepsCheckLines-same c.reserve.new.self.lines c.enter.new.wired.lines (ap (λ x. x.lines) c.enter.ensures.same))
    (omega (arith, c.closing_of-before.ensures, c.closing_of-behind.ensures, closing-within items c.args.host s there, c.self.invariant.counted))

pub returns-clause-waits : goal.returns-clause-waits
returns-clause-waits g c =
    let at : At = record { op = c.args.op; host = c.args.host; moment = c.args.moment } in
    let adds = c.in_ok-enter.ensures.adds in
    let command : slice_get c.reserve.new.self.trail.point.state.commands c.args.op ≡ Some c.operation.inside.running =
    ap (λ s. slice_get s.trail.point.state.commands c.args.op) c.reserve.ensures.same ∙ ap (λ d. slice_get d.trail.point.state.commands c.args.op) c.self.view_is
    ∙ c.requires.work.there ∙ ap (λ x. Some x) (sym c.operation.view_is) in
    let is = entered-command c.reserve.new.self.trail.client c.reserve.new.self.trail.point.state at c.index_mut-server.result.now.pool.state.entered c.enter.new.server
    c.operation.inside.running c.enter.new.running command (sym c.in_ok-enter.ensures.moved ∙ ap (λ (p : Point). p.state) adds.point_now) in
    (c.index_mut-server.result.now.pool.state.entered, ap (λ (d : CommandState). d.check_out) is)

pub returns-clause-next : goal.returns-clause-next
returns-clause-next g c =
    let at : At = record { op = c.args.op; host = c.args.host; moment = c.args.moment } in
    let adds = c.in_ok-enter.ensures.adds in
    let command : slice_get c.reserve.new.self.trail.point.state.commands c.args.op ≡ Some c.operation.inside.running =
    ap (λ s. slice_get s.trail.point.state.commands c.args.op) c.reserve.ensures.same ∙ ap (λ d. slice_get d.trail.point.state.commands c.args.op) c.self.view_is
    ∙ c.requires.work.there ∙ ap (λ x. Some x) (sym c.operation.view_is) in
    let is = entered-command c.reserve.new.self.trail.client c.reserve.new.self.trail.point.state at c.index_mut-server.result.now.pool.state.entered c.enter.new.server
    c.operation.inside.running c.enter.new.running command (sym c.in_ok-enter.ensures.moved ∙ ap (λ (p : Point). p.state) adds.point_now) in
    ap (λ (d : CommandState). d.op.next) is ∙ ap (λ (d : CommandState). d.op.next) c.operation.view_is
