use Rattle.std.proofs.Common.{◌≡◌, ℕ, Option, None, refl, sym, ap, ◌∙◌, subst, arith}
use Rattle.std.specs.Prelude.{IfSome}
use Rattle.pool_book.specs.Entries as pool
use Rattle.desk_trail.specs.declared.entry.Entry.TheVariants as entry_of
use Rattle.desk_trail.specs.Checks.{leaves}
use Rattle.desk_trail.specs.Facts as fact
use Rattle.desk_trail.specs.Written.{an_entry}
use Rattle.legal_trail.specs.Recorded.{Recorded}
use Rattle.server_state.specs.PoolMoves.{behind_group}
use Rattle.wired_trail.specs.Lines.{KeepsOthers, Lines, line_at}
use Rattle.desk_core.specs.Appends.{AppendsAside}
use Rattle.desk_core.specs.Leaving.{Drops}
use Rattle.desk_core.specs.Shutting.{KeepsUses, is_of_pool}
use Rattle.desk_core.proofs.AppendsLemmas.{Appends-adds, Appends-trans, AreLonger-refl, kept-by_drop, kept-by_shut}
use Rattle.desk_core.proofs.DropLemmas.{Closes-by, Drops-by, IsThere-checked, KeepsUses-left, Leaves-by, StandsAt-dropped, StandsAt-shut}
use Rattle.desk_core.proofs.UseLemmas.{HasStream-shut}
use Rattle.desk_core.proofs.leaving.write_leaving.Goals as goal

pub append-requires-clause-stands : goal.append-requires-clause-stands
append-requires-clause-stands g c = (
  fact.Dropped c.args.host,
  refl,
  StandsAt-dropped c.args.wired.now.trail.client c.args.wired.now.trail.point c.args.moment c.args.host c.requires.owes.0 c.requires.owes.1 c.requires.time c.requires.going
      (record { server = c.args.server.now; there = c.requires.there; stays = c.requires.stays }),
)

pub append-requires-2-clause-room : goal.append-requires-2-clause-room
append-requires-2-clause-room g c =
    let first = Leaves-by c.args.wired.now.trail c.append.new.self.trail c.args.moment c.args.host c.args.server.now (entry_of.Dropped c.args.host) c.requires.there
    (c.append.ensures.adds (fact.Dropped c.args.host) refl) in
    let used = first.room in
    let space = c.requires.room in
    record { names = omega arith; events = omega arith; sessions = omega arith; requests = omega arith; steps = omega arith }

pub append-requires-2-clause-stands : goal.append-requires-2-clause-stands
append-requires-2-clause-stands g c =
    let first = Leaves-by c.args.wired.now.trail c.append.new.self.trail c.args.moment c.args.host c.args.server.now (entry_of.Dropped c.args.host) c.requires.there
    (c.append.ensures.adds (fact.Dropped c.args.host) refl) in (
      fact.PoolShut c.args.host,
      refl,
      StandsAt-shut c.append.new.self.trail.client c.append.new.self.trail.point c.args.moment c.args.host c.requires.owes.0 (leaves c.args.server.now)
          (first.next c.requires.owes.0 c.requires.owes.1) first.at (first.going ∙ c.requires.going) first.here c.requires.kept.paid (c.requires.kept.is_open c.requires.stays),
    )

pub shut_available-requires-clause-owes : goal.shut_available-requires-clause-owes
shut_available-requires-clause-owes g c =
    let first = Leaves-by c.args.wired.now.trail c.append.new.self.trail c.args.moment c.args.host c.args.server.now (entry_of.Dropped c.args.host) c.requires.there
    (c.append.ensures.adds (fact.Dropped c.args.host) refl) in
    let second = Closes-by c.append.new.self.trail c.append-2.new.self.trail c.args.moment c.args.host (leaves c.args.server.now) (entry_of.PoolShut c.args.host) first.here refl
    c.requires.kept.paid (c.append-2.ensures.adds (fact.PoolShut c.args.host) refl) in
    (c.requires.owes.0, second.next c.requires.owes.0 (first.next c.requires.owes.0 c.requires.owes.1))

pub shut_available-requires-clause-there : goal.shut_available-requires-clause-there
shut_available-requires-clause-there g c =
    let first = Leaves-by c.args.wired.now.trail c.append.new.self.trail c.args.moment c.args.host c.args.server.now (entry_of.Dropped c.args.host) c.requires.there
    (c.append.ensures.adds (fact.Dropped c.args.host) refl) in
    let second = Closes-by c.append.new.self.trail c.append-2.new.self.trail c.args.moment c.args.host (leaves c.args.server.now) (entry_of.PoolShut c.args.host) first.here refl
    c.requires.kept.paid (c.append-2.ensures.adds (fact.PoolShut c.args.host) refl) in
    (behind_group c.args.moment pool.Shut (leaves c.args.server.now), second.here)

pub shut_available-requires-clause-time : goal.shut_available-requires-clause-time
shut_available-requires-clause-time g c =
    let first = Leaves-by c.args.wired.now.trail c.append.new.self.trail c.args.moment c.args.host c.args.server.now (entry_of.Dropped c.args.host) c.requires.there
    (c.append.ensures.adds (fact.Dropped c.args.host) refl) in
    let second = Closes-by c.append.new.self.trail c.append-2.new.self.trail c.args.moment c.args.host (leaves c.args.server.now) (entry_of.PoolShut c.args.host) first.here refl
    c.requires.kept.paid (c.append-2.ensures.adds (fact.PoolShut c.args.host) refl) in
    second.at

pub shut_available-requires-clause-room : goal.shut_available-requires-clause-room
shut_available-requires-clause-room g c =
    let one = (c.append.ensures.adds (fact.Dropped c.args.host) refl).room_used.steps in
    let two = (c.append-2.ensures.adds (fact.PoolShut c.args.host) refl).room_used.steps in
    let space = c.requires.room in
    omega (arith, one, two, space)

pub close_where-requires : goal.close_where-requires
close_where-requires g c =
    let lines : c.append-2.new.self.lines ≡ c.args.wired.now.lines = ap (λ s. s.lines) c.append-2.ensures.same ∙ ap (λ s. s.lines) c.append.ensures.same in
    let uses = subst (λ (l : Lines). KeepsUses (is_of_pool c.args.host) l c.shut_available.new.wired.lines) lines c.shut_available.ensures.uses in
    let has = HasStream-shut c.args.host c.args.wired.now.lines c.shut_available.new.wired.lines c.args.host c.args.server.now.checks.began c.args.server.now.check_stream uses c.requires.kept.checked in
    IsThere-checked c.shut_available.new.wired.lines c.shut_available.new.wired.lines c.args.host c.args.server.now.checks.began c.args.server.now.check_stream c.check_stream.result has refl
    c.check_stream.ensures.stream

pub returns-clause-drops : goal.returns-clause-drops
returns-clause-drops g c =
    let first = Leaves-by c.args.wired.now.trail c.append.new.self.trail c.args.moment c.args.host c.args.server.now (entry_of.Dropped c.args.host) c.requires.there
    (c.append.ensures.adds (fact.Dropped c.args.host) refl) in
    let second = Closes-by c.append.new.self.trail c.append-2.new.self.trail c.args.moment c.args.host (leaves c.args.server.now) (entry_of.PoolShut c.args.host) first.here refl
    c.requires.kept.paid (c.append-2.ensures.adds (fact.PoolShut c.args.host) refl) in
    subst (λ (t : Recorded). Drops c.args.moment c.args.host c.args.server.now c.args.wired.now.trail t) (sym c.close_where.ensures.trail)
    (Drops-by c.args.wired.now.trail c.append.new.self.trail c.append-2.new.self.trail c.shut_available.new.wired.trail c.args.moment c.args.host c.args.server.now first second
    (c.shut_available.ensures.shuts (behind_group c.args.moment pool.Shut (leaves c.args.server.now)) second.here))

pub returns-clause-closed : goal.returns-clause-closed
returns-clause-closed g c =
    subst (λ (o : Option ℕ). IfSome o (λ x. line_at c.close_where.new.wired.lines x ≡ None)) c.check_stream.ensures.stream c.close_where.ensures.gone

pub returns-clause-uses : goal.returns-clause-uses
returns-clause-uses g c =
    let lines : c.append-2.new.self.lines ≡ c.args.wired.now.lines = ap (λ s. s.lines) c.append-2.ensures.same ∙ ap (λ s. s.lines) c.append.ensures.same in
    let uses = subst (λ (l : Lines). KeepsUses (is_of_pool c.args.host) l c.shut_available.new.wired.lines) lines c.shut_available.ensures.uses in
    let has = HasStream-shut c.args.host c.args.wired.now.lines c.shut_available.new.wired.lines c.args.host c.args.server.now.checks.began c.args.server.now.check_stream uses c.requires.kept.checked in
    KeepsUses-left c.args.wired.now.lines c.shut_available.new.wired.lines c.close_where.new.wired.lines c.args.host c.args.server.now.checks.began c.args.server.now.check_stream has uses
    (subst (λ (o : Option ℕ). IfSome o (λ s. KeepsOthers s c.shut_available.new.wired.lines c.close_where.new.wired.lines)) c.check_stream.ensures.stream c.close_where.ensures.others)
    (λ none. c.close_where.ensures.none (c.check_stream.ensures.stream ∙ none))

pub returns-clause-appends : goal.returns-clause-appends
returns-clause-appends g c =
    let first =
    Appends-adds an_entry c.args.wired.now.trail.lists c.args.moment (entry_of.Dropped c.args.host) (fact.Dropped c.args.host) c.args.wired.now.trail c.append.new.self.trail
    (AreLonger-refl c.args.wired.now.trail.lists) (c.append.ensures.adds (fact.Dropped c.args.host) refl) (λ e. absurd (cc)) (kept-by_drop c.args.wired.now.trail.client c.args.moment c.args.wired.now.trail.point.state c.args.host) in
    let second =
    Appends-adds an_entry c.append.new.self.trail.lists c.args.moment (entry_of.PoolShut c.args.host) (fact.PoolShut c.args.host) c.append.new.self.trail c.append-2.new.self.trail
    (AreLonger-refl c.append.new.self.trail.lists) (c.append-2.ensures.adds (fact.PoolShut c.args.host) refl) (λ e. absurd (cc)) (kept-by_shut c.append.new.self.trail.client c.args.moment c.append.new.self.trail.point.state c.args.host) in
    let both = Appends-trans c.args.moment c.args.wired.now.trail c.append.new.self.trail c.append-2.new.self.trail first second in
    subst (λ (t : Recorded). AppendsAside ⊥ c.args.moment c.args.wired.now.trail t) (sym c.close_where.ensures.trail)
    (Appends-trans c.args.moment c.args.wired.now.trail c.append-2.new.self.trail c.shut_available.new.wired.trail both c.shut_available.ensures.appends)
