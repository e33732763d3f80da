use Rattle.std.proofs.Common.{◌≡◌, ◌+◌, None, Some, length, sym, ap, ◌∙◌, subst, arith}
use Rattle.std.specs.Prelude.{IfSome}
use Rattle.std.proofs.lemmas.Option.{slice_get_within}
use Rattle.pool_book.specs.Entries as pool
use Rattle.pool_book.specs.Pool.{is_closed}
use Rattle.desk_trail.specs.Checks.{leaves}
use Rattle.desk_trail.specs.Facts.{Lists}
use Rattle.desk_trail.specs.States.{ServerState}
use Rattle.server_state.specs.PoolMoves.{behind_group}
use Rattle.wired_trail.specs.Lines.{line_at}
use Rattle.desk_core.specs.Leaving.{Drops, dropped}
use Rattle.desk_core.specs.Servers.{IsKeptServer}
use Rattle.desk_core.proofs.DropLemmas.{IsKept-dropped, IsStanding-of, IsUntouched-dropped, closings-dropped, read-there}
use Rattle.desk_core.proofs.RestLemmas.{KeepsChecks-dropped}
use Rattle.desk_core.proofs.state.Core.drop_server.Goals as goal

pub index_mut-server-requires : goal.index_mut-server-requires
index_mut-server-requires g c =
    let w = rw (← c.self.view_is) at c.requires.writing in
    let stays = rw (← c.self.view_is) at c.requires.stays in
    let h =
    IsStanding-of c.self.inside.wired.trail c.self.inside.wired.lines c.self.inside.topology.topology c.self.inside.servers.items c.self.inside.gossip c.self.inside.closings
    c.self.inside.last c.self.inside.stopped c.args.host c.self.invariant w.2.runs stays in
    let within = slice_get_within c.self.inside.servers.items c.args.host h.server h.there in
    omega (arith, c.self.inside.servers.ok)

pub overflow_add-closing : goal.overflow_add-closing
overflow_add-closing g c =
    let w = rw (← c.self.view_is) at c.requires.writing in
    let stays = rw (← c.self.view_is) at c.requires.stays in
    let h =
    IsStanding-of c.self.inside.wired.trail c.self.inside.wired.lines c.self.inside.topology.topology c.self.inside.servers.items c.self.inside.gossip c.self.inside.closings
    c.self.inside.last c.self.inside.stopped c.args.host c.self.invariant w.2.runs stays in
    let is : c.index_mut-server.result.now ≡ h.server =
    read-there c.self.inside.servers.items c.args.host h.server c.index_mut-server.result.now h.there c.index_mut-server.ensures.value in
    let size : length c.available.result.now ≡ length h.server.pool.state.available =
    ap length c.available.ensures.available ∙ ap (λ (s : ServerState). length s.pool.state.available) is in
    let fewer = closings-dropped c.self.inside.servers.items c.args.host c.args.moment h.server h.there h.stays in
    let counted = c.self.invariant.counted in
    omega (arith, size, fewer, counted)

pub write_leaving-requires-clause-owes : goal.write_leaving-requires-clause-owes
write_leaving-requires-clause-owes g c =
    let w = rw (← c.self.view_is) at c.requires.writing in
    let stays = rw (← c.self.view_is) at c.requires.stays in
    let h =
    IsStanding-of c.self.inside.wired.trail c.self.inside.wired.lines c.self.inside.topology.topology c.self.inside.servers.items c.self.inside.gossip c.self.inside.closings
    c.self.inside.last c.self.inside.stopped c.args.host c.self.invariant w.2.runs stays in
    (w.0, w.2.owes)

pub write_leaving-requires-clause-there : goal.write_leaving-requires-clause-there
write_leaving-requires-clause-there g c =
    let w = rw (← c.self.view_is) at c.requires.writing in
    let stays = rw (← c.self.view_is) at c.requires.stays in
    let h =
    IsStanding-of c.self.inside.wired.trail c.self.inside.wired.lines c.self.inside.topology.topology c.self.inside.servers.items c.self.inside.gossip c.self.inside.closings
    c.self.inside.last c.self.inside.stopped c.args.host c.self.invariant w.2.runs stays in
    let is : c.index_mut-server.result.now ≡ h.server =
    read-there c.self.inside.servers.items c.args.host h.server c.index_mut-server.result.now h.there c.index_mut-server.ensures.value in
    h.at_point ∙ ap (λ s. Some s) (sym is)

pub write_leaving-requires-clause-kept : goal.write_leaving-requires-clause-kept
write_leaving-requires-clause-kept g c =
    let w = rw (← c.self.view_is) at c.requires.writing in
    let stays = rw (← c.self.view_is) at c.requires.stays in
    let h =
    IsStanding-of c.self.inside.wired.trail c.self.inside.wired.lines c.self.inside.topology.topology c.self.inside.servers.items c.self.inside.gossip c.self.inside.closings
    c.self.inside.last c.self.inside.stopped c.args.host c.self.invariant w.2.runs stays in
    let is : c.index_mut-server.result.now ≡ h.server =
    read-there c.self.inside.servers.items c.args.host h.server c.index_mut-server.result.now h.there c.index_mut-server.ensures.value in
    subst (λ (s : ServerState). IsKeptServer c.self.inside.wired.lines (length c.self.inside.wired.trail.steps) c.args.host s) (sym is) h.kept

pub write_leaving-requires-clause-stays : goal.write_leaving-requires-clause-stays
write_leaving-requires-clause-stays g c =
    let w = rw (← c.self.view_is) at c.requires.writing in
    let stays = rw (← c.self.view_is) at c.requires.stays in
    let h =
    IsStanding-of c.self.inside.wired.trail c.self.inside.wired.lines c.self.inside.topology.topology c.self.inside.servers.items c.self.inside.gossip c.self.inside.closings
    c.self.inside.last c.self.inside.stopped c.args.host c.self.invariant w.2.runs stays in
    let is : c.index_mut-server.result.now ≡ h.server =
    read-there c.self.inside.servers.items c.args.host h.server c.index_mut-server.result.now h.there c.index_mut-server.ensures.value in
    ap (λ (s : ServerState). s.has_left) is ∙ h.stays

pub write_leaving-requires-clause-going : goal.write_leaving-requires-clause-going
write_leaving-requires-clause-going g c =
    let w = rw (← c.self.view_is) at c.requires.writing in
    let stays = rw (← c.self.view_is) at c.requires.stays in
    let h =
    IsStanding-of c.self.inside.wired.trail c.self.inside.wired.lines c.self.inside.topology.topology c.self.inside.servers.items c.self.inside.gossip c.self.inside.closings
    c.self.inside.last c.self.inside.stopped c.args.host c.self.invariant w.2.runs stays in
    h.going

pub write_leaving-requires-clause-time : goal.write_leaving-requires-clause-time
write_leaving-requires-clause-time g c =
    let w = rw (← c.self.view_is) at c.requires.writing in
    let stays = rw (← c.self.view_is) at c.requires.stays in
    let h =
    IsStanding-of c.self.inside.wired.trail c.self.inside.wired.lines c.self.inside.topology.topology c.self.inside.servers.items c.self.inside.gossip c.self.inside.closings
    c.self.inside.last c.self.inside.stopped c.args.host c.self.invariant w.2.runs stays in
    w.2.at

pub write_leaving-requires-clause-room : goal.write_leaving-requires-clause-room
write_leaving-requires-clause-room g c =
    let w = rw (← c.self.view_is) at c.requires.writing in
    let stays = rw (← c.self.view_is) at c.requires.stays in
    let h =
    IsStanding-of c.self.inside.wired.trail c.self.inside.wired.lines c.self.inside.topology.topology c.self.inside.servers.items c.self.inside.gossip c.self.inside.closings
    c.self.inside.last c.self.inside.stopped c.args.host c.self.invariant w.2.runs stays in
    let is : c.index_mut-server.result.now ≡ h.server =
    read-there c.self.inside.servers.items c.args.host h.server c.index_mut-server.result.now h.there c.index_mut-server.ensures.value in
    let fewer = closings-dropped c.self.inside.servers.items c.args.host c.args.moment h.server h.there h.stays in
    let counted = c.self.invariant.counted in
    let space = w.2.space in
    let same : length c.index_mut-server.result.now.pool.state.available ≡ length h.server.pool.state.available = ap (λ (s : ServerState). length s.pool.state.available) is in
    omega (arith, fewer, counted, space, same)

pub leave-requires : goal.leave-requires
leave-requires g c =
    let w = rw (← c.self.view_is) at c.requires.writing in
    let stays = rw (← c.self.view_is) at c.requires.stays in
    let h =
    IsStanding-of c.self.inside.wired.trail c.self.inside.wired.lines c.self.inside.topology.topology c.self.inside.servers.items c.self.inside.gossip c.self.inside.closings
    c.self.inside.last c.self.inside.stopped c.args.host c.self.invariant w.2.runs stays in
    let is : c.index_mut-server.result.now ≡ h.server =
    read-there c.self.inside.servers.items c.args.host h.server c.index_mut-server.result.now h.there c.index_mut-server.ensures.value in
    ap (λ (s : ServerState). s.has_left) is ∙ h.stays

pub shut_pool-requires : goal.shut_pool-requires
shut_pool-requires g c =
    let w = rw (← c.self.view_is) at c.requires.writing in
    let stays = rw (← c.self.view_is) at c.requires.stays in
    let h =
    IsStanding-of c.self.inside.wired.trail c.self.inside.wired.lines c.self.inside.topology.topology c.self.inside.servers.items c.self.inside.gossip c.self.inside.closings
    c.self.inside.last c.self.inside.stopped c.args.host c.self.invariant w.2.runs stays in
    let is : c.index_mut-server.result.now ≡ h.server =
    read-there c.self.inside.servers.items c.args.host h.server c.index_mut-server.result.now h.there c.index_mut-server.ensures.value in
    record { is_open = ap (λ (s : ServerState). is_closed s.pool.state.state) (c.leave.ensures.leaves ∙ ap leaves is) ∙ h.kept.is_open h.stays }

pub overflow_sub-self : goal.overflow_sub-self
overflow_sub-self g c =
    let w = rw (← c.self.view_is) at c.requires.writing in
    let stays = rw (← c.self.view_is) at c.requires.stays in
    let h =
    IsStanding-of c.self.inside.wired.trail c.self.inside.wired.lines c.self.inside.topology.topology c.self.inside.servers.items c.self.inside.gossip c.self.inside.closings
    c.self.inside.last c.self.inside.stopped c.args.host c.self.invariant w.2.runs stays in
    let is : c.index_mut-server.result.now ≡ h.server =
    read-there c.self.inside.servers.items c.args.host h.server c.index_mut-server.result.now h.there c.index_mut-server.ensures.value in
    let size : length c.available.result.now ≡ length h.server.pool.state.available =
    ap length c.available.ensures.available ∙ ap (λ (s : ServerState). length s.pool.state.available) is in
    let fewer = closings-dropped c.self.inside.servers.items c.args.host c.args.moment h.server h.there h.stays in
    let counted = c.self.invariant.counted in
    omega (arith, size, fewer, counted)

pub invariant_of-self : goal.invariant_of-self
invariant_of-self g c =
    let w = rw (← c.self.view_is) at c.requires.writing in
    let stays = rw (← c.self.view_is) at c.requires.stays in
    let h =
    IsStanding-of c.self.inside.wired.trail c.self.inside.wired.lines c.self.inside.topology.topology c.self.inside.servers.items c.self.inside.gossip c.self.inside.closings
    c.self.inside.last c.self.inside.stopped c.args.host c.self.invariant w.2.runs stays in
    let is : c.index_mut-server.result.now ≡ h.server =
    read-there c.self.inside.servers.items c.args.host h.server c.index_mut-server.result.now h.there c.index_mut-server.ensures.value in
    let drops : Drops c.args.moment c.args.host h.server c.self.inside.wired.trail c.write_leaving.new.wired.trail =
    subst (λ (s : ServerState). Drops c.args.moment c.args.host s c.self.inside.wired.trail c.write_leaving.new.wired.trail) is c.write_leaving.ensures.drops in
    let size : length c.available.result.now ≡ length h.server.pool.state.available =
    ap length c.available.ensures.available ∙ ap (λ (s : ServerState). length s.pool.state.available) is in
    let space = w.2.space in
    let now = w.2.now in
    let left : c.shut_pool.new.self ≡ dropped c.args.moment h.server =
    c.shut_pool.ensures.shut ∙ ap (behind_group c.args.moment pool.Shut) (c.leave.ensures.leaves ∙ ap leaves is) in
    IsKept-dropped c.self.inside.wired.trail c.write_leaving.new.wired.trail c.self.inside.wired.lines c.write_leaving.new.wired.lines c.self.inside.topology.topology
    c.self.inside.servers.items c.self.inside.gossip c.self.inside.closings c.self.inside.last c.args.moment c.args.host (length c.available.result.now + 1) c.self.inside.stopped h.server c.shut_pool.new.self drops
    h.there h.stays (omega (arith, now)) (omega (arith, space)) (ap (λ n. n + 1) size) c.write_leaving.ensures.uses left c.self.invariant

pub returns-clause-writing : goal.returns-clause-writing
returns-clause-writing g c =
    let w = rw (← c.self.view_is) at c.requires.writing in
    let stays = rw (← c.self.view_is) at c.requires.stays in
    let h =
    IsStanding-of c.self.inside.wired.trail c.self.inside.wired.lines c.self.inside.topology.topology c.self.inside.servers.items c.self.inside.gossip c.self.inside.closings
    c.self.inside.last c.self.inside.stopped c.args.host c.self.invariant w.2.runs stays in
    let is : c.index_mut-server.result.now ≡ h.server =
    read-there c.self.inside.servers.items c.args.host h.server c.index_mut-server.result.now h.there c.index_mut-server.ensures.value in
    let drops : Drops c.args.moment c.args.host h.server c.self.inside.wired.trail c.write_leaving.new.wired.trail =
    subst (λ (s : ServerState). Drops c.args.moment c.args.host s c.self.inside.wired.trail c.write_leaving.new.wired.trail) is c.write_leaving.ensures.drops in
    let size : length c.available.result.now ≡ length h.server.pool.state.available =
    ap length c.available.ensures.available ∙ ap (λ (s : ServerState). length s.pool.state.available) is in
    let fewer = closings-dropped c.self.inside.servers.items c.args.host c.args.moment h.server h.there h.stays in
    let counted = c.self.invariant.counted in
    λ rest n writes.
    let k = rw (← c.self.view_is) at writes in
    let space = k.space in
    let used = drops.room in
    record { runs = k.runs; owes = drops.next rest k.owes; at = drops.at; now = k.now; space = omega (arith, space, used, fewer, counted, size) }

pub returns-clause-others : goal.returns-clause-others
returns-clause-others g c =
    let w = rw (← c.self.view_is) at c.requires.writing in
    let stays = rw (← c.self.view_is) at c.requires.stays in
    let h =
    IsStanding-of c.self.inside.wired.trail c.self.inside.wired.lines c.self.inside.topology.topology c.self.inside.servers.items c.self.inside.gossip c.self.inside.closings
    c.self.inside.last c.self.inside.stopped c.args.host c.self.invariant w.2.runs stays in
    let is : c.index_mut-server.result.now ≡ h.server =
    read-there c.self.inside.servers.items c.args.host h.server c.index_mut-server.result.now h.there c.index_mut-server.ensures.value in
    let drops : Drops c.args.moment c.args.host h.server c.self.inside.wired.trail c.write_leaving.new.wired.trail =
    subst (λ (s : ServerState). Drops c.args.moment c.args.host s c.self.inside.wired.trail c.write_leaving.new.wired.trail) is c.write_leaving.ensures.drops in
    rw (← c.self.view_is)
    (λ s there a differ.
    IsUntouched-dropped c.self.inside.wired.trail c.write_leaving.new.wired.trail c.args.moment c.args.host h.server s a drops h.at_point there differ)

pub returns-clause-closed : goal.returns-clause-closed
returns-clause-closed g c =
    let w = rw (← c.self.view_is) at c.requires.writing in
    let stays = rw (← c.self.view_is) at c.requires.stays in
    let h =
    IsStanding-of c.self.inside.wired.trail c.self.inside.wired.lines c.self.inside.topology.topology c.self.inside.servers.items c.self.inside.gossip c.self.inside.closings
    c.self.inside.last c.self.inside.stopped c.args.host c.self.invariant w.2.runs stays in
    let is : c.index_mut-server.result.now ≡ h.server =
    read-there c.self.inside.servers.items c.args.host h.server c.index_mut-server.result.now h.there c.index_mut-server.ensures.value in
    rw (← c.self.view_is)
    (λ s there.
    let both : Some s ≡ Some h.server = sym there ∙ h.at_point in
    let same : s ≡ h.server = (cc) in
    subst (λ (t : ServerState). IfSome t.check_stream (λ x. line_at c.write_leaving.new.wired.lines x ≡ None)) (is ∙ sym same) c.write_leaving.ensures.closed)

pub returns-clause-checks : goal.returns-clause-checks
returns-clause-checks g c =
    let w = rw (← c.self.view_is) at c.requires.writing in
    let stays = rw (← c.self.view_is) at c.requires.stays in
    let h =
    IsStanding-of c.self.inside.wired.trail c.self.inside.wired.lines c.self.inside.topology.topology c.self.inside.servers.items c.self.inside.gossip c.self.inside.closings
    c.self.inside.last c.self.inside.stopped c.args.host c.self.invariant w.2.runs stays in
    let is : c.index_mut-server.result.now ≡ h.server =
    read-there c.self.inside.servers.items c.args.host h.server c.index_mut-server.result.now h.there c.index_mut-server.ensures.value in
    let drops : Drops c.args.moment c.args.host h.server c.self.inside.wired.trail c.write_leaving.new.wired.trail =
    subst (λ (s : ServerState). Drops c.args.moment c.args.host s c.self.inside.wired.trail c.write_leaving.new.wired.trail) is c.write_leaving.ensures.drops in
    rw (← c.self.view_is) (KeepsChecks-dropped c.self.inside.wired.trail c.write_leaving.new.wired.trail c.args.moment c.args.host h.server drops h.at_point)

pub returns-clause-names : goal.returns-clause-names
returns-clause-names g c =
    let w = rw (← c.self.view_is) at c.requires.writing in
    let stays = rw (← c.self.view_is) at c.requires.stays in
    let h =
    IsStanding-of c.self.inside.wired.trail c.self.inside.wired.lines c.self.inside.topology.topology c.self.inside.servers.items c.self.inside.gossip c.self.inside.closings
    c.self.inside.last c.self.inside.stopped c.args.host c.self.invariant w.2.runs stays in
    let is : c.index_mut-server.result.now ≡ h.server =
    read-there c.self.inside.servers.items c.args.host h.server c.index_mut-server.result.now h.there c.index_mut-server.ensures.value in
    let drops : Drops c.args.moment c.args.host h.server c.self.inside.wired.trail c.write_leaving.new.wired.trail =
    subst (λ (s : ServerState). Drops c.args.moment c.args.host s c.self.inside.wired.trail c.write_leaving.new.wired.trail) is c.write_leaving.ensures.drops in
    rw (← c.self.view_is) (ap (λ (l : Lists). l.names) drops.lists)

pub returns-clause-appends : goal.returns-clause-appends
returns-clause-appends g c =
    rw (← c.self.view_is) c.write_leaving.ensures.appends
