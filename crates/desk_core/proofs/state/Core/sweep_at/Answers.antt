use Rattle.std.proofs.Common.{◌≡◌, length, Some, sym, ap, ◌∙◌, arith}
use Rattle.std.specs.Prelude.{slice_get, slice_set}
use Rattle.std.proofs.lemmas.Option.{slice_get_within}
use Rattle.desk_trail.specs.States.{ClientState, ServerState}
use Rattle.desk_core.proofs.AppendsLemmas.{Appends-room}
use Rattle.desk_core.proofs.BesideLemmas.{KeepsCheckLines-closes_host}
use Rattle.desk_core.proofs.ComesLemmas.{Aside-swept, HasShut-all, IsKept-comes, KeepsAddress-comes, closing-less, closing-within, read-at, shut-few, there-by}
use Rattle.desk_core.proofs.DropLemmas.{read-there}
use Rattle.desk_core.proofs.KeptLemmas.{IsKept-room}
use Rattle.desk_core.proofs.PoolLemmas.{at-servers}
use Rattle.desk_core.proofs.state.Core.sweep_at.Goals as goal

pub invariant_of-self : goal.invariant_of-self
invariant_of-self g c =
    IsKept-room c.self.inside.wired c.reserve_beside.new.wired c.self.inside.topology.topology c.self.inside.servers.items c.self.inside.gossip c.self.inside.closings c.self.inside.last c.self.inside.stopped
    c.reserve_beside.ensures.same c.reserve_beside.ensures.kept c.self.invariant

pub returns-in_err-reserve_beside-clause-appends : goal.returns-in_err-reserve_beside-clause-appends
returns-in_err-reserve_beside-clause-appends g c =
    rw (← c.self.view_is)
    (Appends-room c.args.moment c.self.inside.wired.trail c.reserve_beside.new.wired.trail c.reserve_beside.new.wired.trail.room (ap (λ s. s.trail) c.reserve_beside.ensures.same))

pub index_mut-server-requires : goal.index_mut-server-requires
index_mut-server-requires g c =
    let ready = rw (← c.self.view_is) at c.requires.ready in
    let items = c.self.inside.servers.items in
    let s0 = c.requires.there.0 in
    let first : slice_get items c.args.host ≡ Some s0 =
    at-servers c.self.inside.wired.trail c.self.inside.wired.lines c.self.inside.topology.topology items c.self.inside.gossip c.self.inside.last c.args.host s0
    (c.self.invariant.leads ready.runs) (ap (λ d. slice_get d.trail.point.state.servers c.args.host) c.self.view_is ∙ c.requires.there.1) in
    omega (arith, slice_get_within items c.args.host s0 first, c.self.inside.servers.ok.0)

pub sweep-requires-clause-room : goal.sweep-requires-clause-room
sweep-requires-clause-room g c =
    let ready = rw (← c.self.view_is) at c.requires.ready in
    let items = c.self.inside.servers.items in
    let s0 = c.requires.there.0 in
    let first : slice_get items c.args.host ≡ Some s0 =
    at-servers c.self.inside.wired.trail c.self.inside.wired.lines c.self.inside.topology.topology items c.self.inside.gossip c.self.inside.last c.args.host s0
    (c.self.invariant.leads ready.runs) (ap (λ d. slice_get d.trail.point.state.servers c.args.host) c.self.view_is ∙ c.requires.there.1) in
    let s = c.index_mut-server.result.now in
    let there : slice_get items c.args.host ≡ Some s = read-at items c.args.host s0 s first c.index_mut-server.ensures.value in
    let size : length c.available-available.result.now ≡ length s.pool.state.available =
    ap length c.available-available.ensures.available
    ∙ ap (λ (u : ServerState). length u.pool.state.available) (read-there items c.args.host s0 c.index.result.now first c.index.ensures ∙ sym (read-there items c.args.host s0 s first c.index_mut-server.ensures.value)) in
    omega (arith, size, c.in_ok-reserve_beside.ensures.room.steps, ap (λ r. r.steps) c.in_ok-room.ensures)

pub sweep-requires-clause-there : goal.sweep-requires-clause-there
sweep-requires-clause-there g c =
    let ready = rw (← c.self.view_is) at c.requires.ready in
    let items = c.self.inside.servers.items in
    let s0 = c.requires.there.0 in
    let first : slice_get items c.args.host ≡ Some s0 =
    at-servers c.self.inside.wired.trail c.self.inside.wired.lines c.self.inside.topology.topology items c.self.inside.gossip c.self.inside.last c.args.host s0
    (c.self.invariant.leads ready.runs) (ap (λ d. slice_get d.trail.point.state.servers c.args.host) c.self.view_is ∙ c.requires.there.1) in
    let s = c.index_mut-server.result.now in
    let there : slice_get items c.args.host ≡ Some s = read-at items c.args.host s0 s first c.index_mut-server.ensures.value in
    let kept = IsKept-room c.self.inside.wired c.reserve_beside.new.wired c.self.inside.topology.topology items c.self.inside.gossip c.self.inside.closings c.self.inside.last
    c.self.inside.stopped c.reserve_beside.ensures.same c.reserve_beside.ensures.kept c.self.invariant in
    there-by c.reserve_beside.new.wired.trail c.reserve_beside.new.wired.lines c.self.inside.topology.topology items c.self.inside.gossip c.self.inside.last c.args.host s (kept.leads ready.runs) there

pub sweep-requires-clause-idle : goal.sweep-requires-clause-idle
sweep-requires-clause-idle g c =
    let ready = rw (← c.self.view_is) at c.requires.ready in
    let items = c.self.inside.servers.items in
    let s0 = c.requires.there.0 in
    let first : slice_get items c.args.host ≡ Some s0 =
    at-servers c.self.inside.wired.trail c.self.inside.wired.lines c.self.inside.topology.topology items c.self.inside.gossip c.self.inside.last c.args.host s0
    (c.self.invariant.leads ready.runs) (ap (λ d. slice_get d.trail.point.state.servers c.args.host) c.self.view_is ∙ c.requires.there.1) in
    let s = c.index_mut-server.result.now in
    let there : slice_get items c.args.host ≡ Some s = read-at items c.args.host s0 s first c.index_mut-server.ensures.value in
    ((c.self.invariant.leads ready.runs).kept c.args.host s there).paid

pub overflow_sub-self : goal.overflow_sub-self
overflow_sub-self g c =
    let ready = rw (← c.self.view_is) at c.requires.ready in
    let items = c.self.inside.servers.items in
    let s0 = c.requires.there.0 in
    let first : slice_get items c.args.host ≡ Some s0 =
    at-servers c.self.inside.wired.trail c.self.inside.wired.lines c.self.inside.topology.topology items c.self.inside.gossip c.self.inside.last c.args.host s0
    (c.self.invariant.leads ready.runs) (ap (λ d. slice_get d.trail.point.state.servers c.args.host) c.self.view_is ∙ c.requires.there.1) in
    let s = c.index_mut-server.result.now in
    let there : slice_get items c.args.host ≡ Some s = read-at items c.args.host s0 s first c.index_mut-server.ensures.value in
    omega (arith, c.closing_of-before.ensures, closing-within items c.args.host s there, c.self.invariant.counted)

pub overflow_add-self : goal.overflow_add-self
overflow_add-self g c =
    let ready = rw (← c.self.view_is) at c.requires.ready in
    let items = c.self.inside.servers.items in
    let s0 = c.requires.there.0 in
    let first : slice_get items c.args.host ≡ Some s0 =
    at-servers c.self.inside.wired.trail c.self.inside.wired.lines c.self.inside.topology.topology items c.self.inside.gossip c.self.inside.last c.args.host s0
    (c.self.invariant.leads ready.runs) (ap (λ d. slice_get d.trail.point.state.servers c.args.host) c.self.view_is ∙ c.requires.there.1) in
    let s = c.index_mut-server.result.now in
    let there : slice_get items c.args.host ≡ Some s = read-at items c.args.host s0 s first c.index_mut-server.ensures.value in
    let kept = IsKept-room c.self.inside.wired c.reserve_beside.new.wired c.self.inside.topology.topology items c.self.inside.gossip c.self.inside.closings c.self.inside.last
    c.self.inside.stopped c.reserve_beside.ensures.same c.reserve_beside.ensures.kept c.self.invariant in
    let goes = c.sweep.ensures.goes in
    let shut = HasShut-all {R = ⊥} c.args.host c.args.moment c.reserve_beside.new.wired.trail c.sweep.new.wired.trail goes.shuts in
    let moved : c.sweep.new.wired.trail.point.state.servers ≡ slice_set c.reserve_beside.new.wired.trail.point.state.servers c.args.host c.sweep.new.server =
    ap (λ (w : ClientState). w.servers) goes.moved in
    let less = closing-less shut.n c.args.moment c.reserve_beside.new.wired.trail c.sweep.new.wired.trail c.reserve_beside.new.wired.lines c.self.inside.topology.topology items c.self.inside.gossip
    c.self.inside.last c.args.host s c.sweep.new.server (kept.leads ready.runs) shut.comes moved there in
    omega (arith, less, c.closing_of-before.ensures, c.closing_of-behind.ensures, closing-within items c.args.host s there, c.self.invariant.counted)

pub invariant_of-self-2 : goal.invariant_of-self-2
invariant_of-self-2 g c =
    let ready = rw (← c.self.view_is) at c.requires.ready in
    let items = c.self.inside.servers.items in
    let s0 = c.requires.there.0 in
    let first : slice_get items c.args.host ≡ Some s0 =
    at-servers c.self.inside.wired.trail c.self.inside.wired.lines c.self.inside.topology.topology items c.self.inside.gossip c.self.inside.last c.args.host s0
    (c.self.invariant.leads ready.runs) (ap (λ d. slice_get d.trail.point.state.servers c.args.host) c.self.view_is ∙ c.requires.there.1) in
    let s = c.index_mut-server.result.now in
    let there : slice_get items c.args.host ≡ Some s = read-at items c.args.host s0 s first c.index_mut-server.ensures.value in
    let size : length c.available-available.result.now ≡ length s.pool.state.available =
    ap length c.available-available.ensures.available
    ∙ ap (λ (u : ServerState). length u.pool.state.available) (read-there items c.args.host s0 c.index.result.now first c.index.ensures ∙ sym (read-there items c.args.host s0 s first c.index_mut-server.ensures.value)) in
    let kept = IsKept-room c.self.inside.wired c.reserve_beside.new.wired c.self.inside.topology.topology items c.self.inside.gossip c.self.inside.closings c.self.inside.last
    c.self.inside.stopped c.reserve_beside.ensures.same c.reserve_beside.ensures.kept c.self.invariant in
    let goes = c.sweep.ensures.goes in
    let shut = HasShut-all {R = ⊥} c.args.host c.args.moment c.reserve_beside.new.wired.trail c.sweep.new.wired.trail goes.shuts in
    let moved : c.sweep.new.wired.trail.point.state.servers ≡ slice_set c.reserve_beside.new.wired.trail.point.state.servers c.args.host c.sweep.new.server =
    ap (λ (w : ClientState). w.servers) goes.moved in
    let few = shut-few c.args.moment c.args.host c.reserve_beside.new.wired.trail c.sweep.new.wired.trail s c.sweep.new.server shut.n shut.used goes in
    IsKept-comes shut.n c.args.moment c.reserve_beside.new.wired.trail c.sweep.new.wired.trail c.reserve_beside.new.wired.lines c.sweep.new.wired.lines c.self.inside.topology.topology items
    c.self.inside.gossip c.self.inside.gossip c.self.inside.closings _ c.self.inside.last c.self.inside.stopped c.args.host s c.sweep.new.server kept ready.runs shut.comes moved there
    goes.idle (shut.time ∙ (kept.leads ready.runs).greatest) ready.now
    (omega (arith, few, size, c.in_ok-reserve_beside.ensures.room.steps, ap (λ r. r.steps) c.in_ok-room.ensures))
    (KeepsCheckLines-closes_host c.args.host c.reserve_beside.new.wired.lines c.sweep.new.wired.lines c.sweep.ensures.closes)
    (omega (arith, c.closing_of-before.ensures, c.closing_of-behind.ensures, closing-within items c.args.host s there, c.self.invariant.counted))

pub returns-clause-stays : goal.returns-clause-stays
returns-clause-stays g c =
    let goes = c.sweep.ensures.goes in
    let shut = HasShut-all {R = ⊥} c.args.host c.args.moment c.reserve_beside.new.wired.trail c.sweep.new.wired.trail goes.shuts in
    let moved : c.sweep.new.wired.trail.point.state.servers ≡ slice_set c.reserve_beside.new.wired.trail.point.state.servers c.args.host c.sweep.new.server =
    ap (λ (w : ClientState). w.servers) goes.moved in
    rw (← c.self.view_is)
    (KeepsAddress-comes shut.n c.args.moment c.args.host c.self.inside.wired.trail c.reserve_beside.new.wired.trail c.sweep.new.wired.trail c.reserve_beside.new.wired.trail.room c.sweep.new.server
    (ap (λ s. s.trail) c.reserve_beside.ensures.same) shut.comes moved)

pub returns-clause-appends : goal.returns-clause-appends
returns-clause-appends g c =
    let goes = c.sweep.ensures.goes in
    let shut = HasShut-all {R = ⊥} c.args.host c.args.moment c.reserve_beside.new.wired.trail c.sweep.new.wired.trail goes.shuts in
    let moved : c.sweep.new.wired.trail.point.state.servers ≡ slice_set c.reserve_beside.new.wired.trail.point.state.servers c.args.host c.sweep.new.server =
    ap (λ (w : ClientState). w.servers) goes.moved in
    rw (← c.self.view_is)
    (Aside-swept shut.n c.args.moment c.args.host c.self.inside.wired.trail c.reserve_beside.new.wired.trail c.sweep.new.wired.trail c.reserve_beside.new.wired.trail.room c.sweep.new.server
    (ap (λ s. s.trail) c.reserve_beside.ensures.same) shut.comes goes.moved)
