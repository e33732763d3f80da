use Rattle.std.proofs.Common.{◌≡◌, [], true, false, refl, sym, ap, ◌∙◌, arith, Some}
use Rattle.std.specs.Prelude.{slice_get}
use Rattle.pool_book.specs.Entries as pool
use Rattle.pool_book.specs.Pool.{is_closed}
use Rattle.desk_trail.specs.declared.entry.Entry.TheVariants as entry_of
use Rattle.desk_trail.specs.Facts as fact
use Rattle.desk_trail.specs.Legal.{Point}
use Rattle.desk_trail.specs.States.{ClientState, ServerState}
use Rattle.desk_trail.specs.Written.{an_entry}
use Rattle.server_state.specs.PoolMoves.{behind_group}
use Rattle.desk_core.specs.Shutting.{owing}
use Rattle.desk_core.proofs.AppendsLemmas.{Appends-adds, Appends-trans, AreLonger-refl, kept-by_shut}
use Rattle.desk_core.proofs.ServerLemmas.{closing_of-left, closing_of-stays, slice_get-set_same}
use Rattle.desk_core.proofs.ShutLemmas.{StandsAt-shut, others-set, owed-shut, servers-shut, there-shut}
use Rattle.desk_core.proofs.ending.shut_pool.Goals as goal

pub append-requires-clause-room : goal.append-requires-clause-room
append-requires-clause-room g c =
    let stays : c.args.server.now.has_left ≡ false = sym c.has_left.ensures.left ∙ c.if-not-has_left.true in
    let size = closing_of-stays c.args.server.now stays in
    let space = c.requires.room in
    record { names = omega arith; events = omega arith; sessions = omega arith; requests = omega arith; steps = omega (arith, size, space) }

pub append-requires-clause-stands : goal.append-requires-clause-stands
append-requires-clause-stands g c =
    let stays : c.args.server.now.has_left ≡ false = sym c.has_left.ensures.left ∙ c.if-not-has_left.true in (
      fact.PoolShut c.args.host,
      refl,
      StandsAt-shut c.args.wired.now.trail.client c.args.wired.now.trail.point c.args.host c.args.moment c.args.server.now
          c.requires.there c.requires.idle (c.requires.is_open stays) c.requires.paid c.requires.moment,
    )

pub shut_available-requires-clause-owes : goal.shut_available-requires-clause-owes
shut_available-requires-clause-owes g c =
    let adds = c.append.ensures.adds (fact.PoolShut c.args.host) refl in (
      [],
      ap (λ (p : Point). p.owed) adds.point_now
          ∙ owed-shut c.args.wired.now.trail.client c.args.wired.now.trail.point c.args.host c.args.moment c.args.server.now c.requires.there c.requires.idle c.requires.paid,
    )

pub shut_available-requires-clause-there : goal.shut_available-requires-clause-there
shut_available-requires-clause-there g c =
    let adds = c.append.ensures.adds (fact.PoolShut c.args.host) refl in (
      behind_group c.args.moment pool.Shut c.args.server.now,
      ap (λ (p : Point). slice_get p.state.servers c.args.host) adds.point_now
          ∙ there-shut c.args.wired.now.trail.client c.args.wired.now.trail.point c.args.host c.args.moment c.args.server.now c.requires.there c.requires.idle,
    )

pub shut_available-requires-clause-time : goal.shut_available-requires-clause-time
shut_available-requires-clause-time g c = ap (λ (p : Point). p.moment) (c.append.ensures.adds (fact.PoolShut c.args.host) refl).point_now

pub shut_available-requires-clause-room : goal.shut_available-requires-clause-room
shut_available-requires-clause-room g c =
    let stays : c.args.server.now.has_left ≡ false = sym c.has_left.ensures.left ∙ c.if-not-has_left.true in
    let size = closing_of-stays c.args.server.now stays in
    let used = (c.append.ensures.adds (fact.PoolShut c.args.host) refl).room_used.steps in
    let space = c.requires.room in
    omega (arith, size, used, space)

pub returns-then-not-has_left-clause-paid : goal.returns-then-not-has_left-clause-paid
returns-then-not-has_left-clause-paid g c =
    let adds = c.append.ensures.adds (fact.PoolShut c.args.host) refl in
    let there = ap (λ (p : Point). slice_get p.state.servers c.args.host) adds.point_now
    ∙ there-shut c.args.wired.now.trail.client c.args.wired.now.trail.point c.args.host c.args.moment c.args.server.now c.requires.there c.requires.idle in
    (c.shut_available.ensures.shuts (behind_group c.args.moment pool.Shut c.args.server.now) there).next []
    (ap (λ (p : Point). p.owed) adds.point_now
    ∙ owed-shut c.args.wired.now.trail.client c.args.wired.now.trail.point c.args.host c.args.moment c.args.server.now c.requires.there c.requires.idle c.requires.paid)

pub returns-then-not-has_left-clause-moment : goal.returns-then-not-has_left-clause-moment
returns-then-not-has_left-clause-moment g c =
    let adds = c.append.ensures.adds (fact.PoolShut c.args.host) refl in
    let there = ap (λ (p : Point). slice_get p.state.servers c.args.host) adds.point_now
    ∙ there-shut c.args.wired.now.trail.client c.args.wired.now.trail.point c.args.host c.args.moment c.args.server.now c.requires.there c.requires.idle in
    let at = (c.shut_available.ensures.shuts (behind_group c.args.moment pool.Shut c.args.server.now) there).at in
    omega (arith, at)

pub returns-then-not-has_left-clause-others : goal.returns-then-not-has_left-clause-others
returns-then-not-has_left-clause-others g c = λ x h.
    let adds = c.append.ensures.adds (fact.PoolShut c.args.host) refl in
    let t = behind_group c.args.moment pool.Shut c.args.server.now in
    let u = owing c.args.server.now.pool.state.available t in
    let now = ap (λ (p : Point). p.state.servers) adds.point_now
    ∙ servers-shut c.args.wired.now.trail.client c.args.wired.now.trail.point c.args.host c.args.moment c.args.server.now c.requires.there c.requires.idle in
    let there = ap (λ (p : Point). slice_get p.state.servers c.args.host) adds.point_now
    ∙ there-shut c.args.wired.now.trail.client c.args.wired.now.trail.point c.args.host c.args.moment c.args.server.now c.requires.there c.requires.idle in
    let all = c.shut_available.ensures.shuts t there in
    ap (λ (w : ClientState). slice_get w.servers x) all.moves.state
    ∙ others-set c.append.new.self.trail.point.state.servers c.args.host x (owing [] t) h
    ∙ ap (λ ss. slice_get ss x) now
    ∙ others-set c.args.wired.now.trail.point.state.servers c.args.host x u h

pub returns-then-not-has_left-clause-shut : goal.returns-then-not-has_left-clause-shut
returns-then-not-has_left-clause-shut g c = λ s at h.
    let adds = c.append.ensures.adds (fact.PoolShut c.args.host) refl in
    let t = behind_group c.args.moment pool.Shut c.args.server.now in
    let u = owing c.args.server.now.pool.state.available t in
    let there = ap (λ (p : Point). slice_get p.state.servers c.args.host) adds.point_now
    ∙ there-shut c.args.wired.now.trail.client c.args.wired.now.trail.point c.args.host c.args.moment c.args.server.now c.requires.there c.requires.idle in
    let all = c.shut_available.ensures.shuts t there in
    let both : Some (owing [] t) ≡ Some s =
    sym (ap (λ (w : ClientState). slice_get w.servers c.args.host) all.moves.state
    ∙ slice_get-set_same c.append.new.self.trail.point.state.servers c.args.host (owing [] t) u there) ∙ at in
    let same : owing [] t ≡ s = (cc) in
    ap (λ (v : ServerState). is_closed v.pool.state.state) (sym same)

pub returns-then-not-has_left-clause-room : goal.returns-then-not-has_left-clause-room
returns-then-not-has_left-clause-room g c =
    let stays : c.args.server.now.has_left ≡ false = sym c.has_left.ensures.left ∙ c.if-not-has_left.true in
    let size = closing_of-stays c.args.server.now stays in
    let adds = c.append.ensures.adds (fact.PoolShut c.args.host) refl in
    let used = adds.room_used.steps in
    let there = ap (λ (p : Point). slice_get p.state.servers c.args.host) adds.point_now
    ∙ there-shut c.args.wired.now.trail.client c.args.wired.now.trail.point c.args.host c.args.moment c.args.server.now c.requires.there c.requires.idle in
    let more = (c.shut_available.ensures.shuts (behind_group c.args.moment pool.Shut c.args.server.now) there).room in
    omega (arith, size, used, more)

pub returns-else-not-has_left-clause-room : goal.returns-else-not-has_left-clause-room
returns-else-not-has_left-clause-room g c =
    let left : c.args.server.now.has_left ≡ true = sym c.has_left.ensures.left ∙ c.if-not-has_left.false in
    let size = closing_of-left c.args.server.now left in
    omega (arith, size)

pub returns-then-not-has_left-clause-appends : goal.returns-then-not-has_left-clause-appends
returns-then-not-has_left-clause-appends g c =
    let adds = c.append.ensures.adds (fact.PoolShut c.args.host) refl in
    Appends-trans c.args.moment c.args.wired.now.trail c.append.new.self.trail c.shut_available.new.wired.trail
    (Appends-adds an_entry c.args.wired.now.trail.lists c.args.moment (entry_of.PoolShut c.args.host) (fact.PoolShut c.args.host) c.args.wired.now.trail
    c.append.new.self.trail (AreLonger-refl c.args.wired.now.trail.lists) adds (λ e. absurd (cc)) (kept-by_shut c.args.wired.now.trail.client c.args.moment c.args.wired.now.trail.point.state c.args.host))
    c.shut_available.ensures.appends
