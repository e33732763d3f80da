use Rattle.std.proofs.Common.{◌<◌, ◌+◌, length, get_or, refl, sym, ap, subst, arith}
use Rattle.std.proofs.Math.ListN.{drop}
use Rattle.std.proofs.lemmas.List.{drop_more}
use Rattle.pool_book.specs.declared.answers.CloseReason.TheVariants.{PoolClosed}
use Rattle.pool_book.specs.declared.connections.Available.{Available}
use Rattle.desk_trail.specs.declared.entry.Entry.TheVariants as entry_of
use Rattle.desk_trail.specs.Facts as fact
use Rattle.desk_trail.specs.Written.{an_entry}
use Rattle.legal_trail.specs.Recorded.{Recorded}
use Rattle.wired_trail.specs.Lines.{Lines}
use Rattle.desk_core.specs.Appends.{AppendsAside}
use Rattle.desk_core.specs.Shutting.{KeepsUses, is_of_pool}
use Rattle.desk_core.proofs.AppendsLemmas.{Appends-adds, Appends-refl, Appends-trans, AreLonger-refl, kept-by_conn_shut}
use Rattle.desk_core.proofs.ShutLemmas.{AreShutting, Shuts-end, StandsAt-next, room-next, shutting-next, shutting-none}
use Rattle.desk_core.proofs.UseLemmas.{KeepsUses-same, KeepsUses-trans}
use Rattle.desk_core.proofs.shutting.shut_available.Goals as goal

abbrev none : Available
none = record { conn = 0; generation = 0; since = 0 }

pub shutting-init : goal.shutting-init
shutting-init g c = (
  omega arith,
  λ s there. shutting-none c.args.moment c.args.host c.args.server.now.pool.state.available s c.args.wired.now.trail there c.requires.time,
  KeepsUses-same (is_of_pool c.args.host) c.args.wired.now.lines c.args.wired.now.lines refl,
  omega arith,
  Appends-refl c.args.moment c.args.wired.now.trail,
)

pub append-requires-clause-room : goal.append-requires-clause-room
append-requires-clause-room g c =
    let all = c.args.server.now.pool.state.available in
    let same = c.available-available.ensures.available in
    let size = ap length same in
    let within : c.shutting.place < length all = omega (arith, size, c.shutting-test.true) in
    let h = c.shutting.invariant.1 c.requires.there.0 c.requires.there.1 in
    let some = room-next c.args.moment c.args.host c.shutting.place all (get_or all c.shutting.place none) c.requires.there.0 c.args.wired.now.trail c.shutting.wired.trail h
    (drop_more all c.shutting.place none within) c.requires.room in
    record { names = omega arith; events = omega arith; sessions = omega arith; requests = omega arith; steps = some }

pub append-requires-clause-stands : goal.append-requires-clause-stands
append-requires-clause-stands g c =
    let all = c.args.server.now.pool.state.available in
    let same = c.available-available.ensures.available in
    let size = ap length same in
    let within : c.shutting.place < length all = omega (arith, size, c.shutting-test.true) in
    let h = c.shutting.invariant.1 c.requires.there.0 c.requires.there.1 in
    let a : Available = get_or all c.shutting.place none in
    rw same (
      fact.ConnShut c.args.host a.conn PoolClosed,
      refl,
      StandsAt-next c.args.moment c.args.host c.shutting.place all a c.requires.there.0 c.requires.owes.0 c.args.wired.now.trail
          c.shutting.wired.trail h (drop_more all c.shutting.place none within) c.requires.owes.1,
    )

pub shutting-preserved : goal.shutting-preserved
shutting-preserved g c =
    let all = c.args.server.now.pool.state.available in
    let same = c.available-available.ensures.available in
    let size = ap length same in
    let within : c.shutting.place < length all = omega (arith, size, c.shutting-test.true) in
    let a : Available = get_or all c.shutting.place none in
    let adds = rw same at (c.append.ensures.adds (fact.ConnShut c.args.host (get_or c.available-available.result.now c.shutting.place none).conn PoolClosed) refl) in
    let lines = ap (λ s. s.lines) c.append.ensures.same in
    let net = ap (λ s. g.N.Net.faults s.net) c.append.ensures.same in
    let more = c.close_stream_of.ensures.faults in
    let ahead = c.shutting.invariant.3 in (
      omega (arith, size, within),
      λ s there.
          subst (λ (t : Recorded). AreShutting c.args.moment c.args.host all (drop (c.shutting.place + 1) all) s c.args.wired.now.trail t) (sym c.close_stream_of.ensures.trail)
          (shutting-next c.args.moment c.args.host c.shutting.place all a s c.args.wired.now.trail c.shutting.wired.trail c.append.new.self.trail (entry_of.ConnShut c.args.host a.conn PoolClosed)
          (c.shutting.invariant.1 s there) (drop_more all c.shutting.place none within) adds),
      KeepsUses-trans (is_of_pool c.args.host) c.args.wired.now.lines c.append.new.self.lines c.close_stream_of.new.wired.lines
          (subst (λ (l : Lines). KeepsUses (is_of_pool c.args.host) c.args.wired.now.lines l) (sym lines) c.shutting.invariant.2) c.close_stream_of.ensures.uses,
      omega (arith, net, more, ahead),
      subst (λ (t : Recorded). AppendsAside ⊥ c.args.moment c.args.wired.now.trail t) (sym c.close_stream_of.ensures.trail)
          (Appends-trans c.args.moment c.args.wired.now.trail c.shutting.wired.trail c.append.new.self.trail c.shutting.invariant.4
          (Appends-adds an_entry c.shutting.wired.trail.lists c.args.moment (entry_of.ConnShut c.args.host a.conn PoolClosed) (fact.ConnShut c.args.host a.conn PoolClosed)
          c.shutting.wired.trail c.append.new.self.trail (AreLonger-refl c.shutting.wired.trail.lists) adds (λ e. absurd (cc)) (kept-by_conn_shut c.shutting.wired.trail.client c.args.moment c.shutting.wired.trail.point.state c.args.host a.conn PoolClosed))),
    )

pub returns-clause-shuts : goal.returns-clause-shuts
returns-clause-shuts g c = λ s there.
    let all = c.args.server.now.pool.state.available in
    let size = ap length c.available-available.ensures.available in
    Shuts-end c.args.moment c.args.host c.shutting.place all s c.args.wired.now.trail c.shutting.wired.trail (c.shutting.invariant.1 s there) (omega (arith, size, c.shutting-test.false))
