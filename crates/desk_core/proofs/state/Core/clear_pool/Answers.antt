use Rattle.std.proofs.Common.{◌≡◌, Some, length, refl, ap, ◌∙◌, arith}
use Rattle.std.specs.Prelude.{slice_get}
use Rattle.std.proofs.lemmas.Option.{slice_get_read, slice_get_within}
use Rattle.pool_book.specs.Entries as pool
use Rattle.desk_trail.specs.Facts as fact
use Rattle.desk_trail.specs.Pools.{with_pool}
use Rattle.desk_core.proofs.AppendsLemmas.{Appends-adds, AreLonger-refl, kept-by_clear}
use Rattle.desk_core.proofs.PoolLemmas.{Changes-clear, IsKept-changed, IsKeptServer-clear, IsWriting-next, StandsAt-clear, at-servers}
use Rattle.desk_core.proofs.RestLemmas.{KeepsChecks-changed}
use Rattle.desk_core.proofs.state.Core.clear_pool.Goals as goal

pub append-requires-clause-stands : goal.append-requires-clause-stands
append-requires-clause-stands g c =
    let w = rw (← c.self.view_is) at c.requires.writing in
    let l = c.self.invariant.leads w.2.runs in
    let p = c.requires.there in
    let there : slice_get c.self.inside.servers.items c.args.host ≡ Some p.0 = at-servers _ _ _ _ _ _ c.args.host p.0 l (ap (λ d. slice_get d.trail.point.state.servers c.args.host) c.self.view_is ∙ p.1) in
    (fact.PoolClear c.args.host, refl, StandsAt-clear _ _ _ _ w.0 p.0 w.2.owes w.2.at (ap (λ s. s.is_ending) l.state) (ap (λ d. slice_get d.trail.point.state.servers c.args.host) c.self.view_is ∙ p.1) (l.kept c.args.host p.0 there).paid)

pub index_mut-server-requires : goal.index_mut-server-requires
index_mut-server-requires g c =
    let w = rw (← c.self.view_is) at c.requires.writing in
    let l = c.self.invariant.leads w.2.runs in
    let p = c.requires.there in
    let there : slice_get c.self.inside.servers.items c.args.host ≡ Some p.0 = at-servers _ _ _ _ _ _ c.args.host p.0 l (ap (λ d. slice_get d.trail.point.state.servers c.args.host) c.self.view_is ∙ p.1) in
    omega (arith, slice_get_within c.self.inside.servers.items c.args.host p.0 there, c.self.inside.servers.ok.0)

pub clear_pool-requires : goal.clear_pool-requires
clear_pool-requires g c =
    let w = rw (← c.self.view_is) at c.requires.writing in
    let l = c.self.invariant.leads w.2.runs in
    let p = c.requires.there in
    let there : slice_get c.self.inside.servers.items c.args.host ≡ Some p.0 = at-servers _ _ _ _ _ _ c.args.host p.0 l (ap (λ d. slice_get d.trail.point.state.servers c.args.host) c.self.view_is ∙ p.1) in
    let within = slice_get_within c.self.inside.servers.items c.args.host p.0 there in
    let is = slice_get_read c.self.inside.servers.items _ c.args.host c.index_mut-server.result.now refl within c.index_mut-server.ensures.value in
    let same : c.index_mut-server.result.now ≡ p.0 = cc in
    let generation = (l.kept c.args.host p.0 there).generation in
    omega (arith, ap (λ s. s.pool.state.generation) same, ap length c.steps.ensures.value, c.few.ensures)

pub invariant_of-self : goal.invariant_of-self
invariant_of-self g c =
    let w = rw (← c.self.view_is) at c.requires.writing in
    let l = c.self.invariant.leads w.2.runs in
    let p = c.requires.there in
    let there : slice_get c.self.inside.servers.items c.args.host ≡ Some p.0 = at-servers _ _ _ _ _ _ c.args.host p.0 l (ap (λ d. slice_get d.trail.point.state.servers c.args.host) c.self.view_is ∙ p.1) in
    let within = slice_get_within c.self.inside.servers.items c.args.host p.0 there in
    let is = slice_get_read c.self.inside.servers.items _ c.args.host c.index_mut-server.result.now refl within c.index_mut-server.ensures.value in
    let same : c.index_mut-server.result.now ≡ p.0 = cc in
    let changed : c.clear_pool.new.self ≡ with_pool c.args.moment pool.Clear p.0 = c.clear_pool.ensures.cleared ∙ ap (with_pool c.args.moment pool.Clear) same in
    IsKept-changed _ _ _ _ _ _ _ _ _ _ c.args.moment c.args.host w.1 _ _ _ p.0 _ c.self.invariant w.2.runs (ap (λ x. x.lines) c.append.ensures.same)
    (c.append.ensures.adds (fact.PoolClear c.args.host) refl) (Changes-clear _ _ _) there changed w.2.now w.2.space
    (IsKeptServer-clear _ _ c.args.moment _ _ (l.kept c.args.host p.0 there))

pub returns-clause-writing : goal.returns-clause-writing
returns-clause-writing g c = λ rest n before.
    let w = rw (← c.self.view_is) at before in
    IsWriting-next _ _ _ _ _ _ _ _ _ w (c.append.ensures.adds (fact.PoolClear c.args.host) refl) refl refl refl refl refl

pub returns-clause-names : goal.returns-clause-names
returns-clause-names g c = rw (← c.self.view_is) (ap (λ x. x.names) (c.append.ensures.adds (fact.PoolClear c.args.host) refl).lists_now)

pub returns-clause-appends : goal.returns-clause-appends
returns-clause-appends g c = rw (← c.self.view_is) (Appends-adds _ _ _ _ _ _ _ (AreLonger-refl _) (c.append.ensures.adds (fact.PoolClear c.args.host) refl) (λ e. absurd (cc)) (kept-by_clear c.self.inside.wired.trail.client c.args.moment c.self.inside.wired.trail.point.state c.args.host))

pub returns-clause-checks : goal.returns-clause-checks
returns-clause-checks g c =
    let w = rw (← c.self.view_is) at c.requires.writing in
    let l = c.self.invariant.leads w.2.runs in
    let p = c.requires.there in
    let there : slice_get c.self.inside.servers.items c.args.host ≡ Some p.0 = at-servers _ _ _ _ _ _ c.args.host p.0 l (ap (λ d. slice_get d.trail.point.state.servers c.args.host) c.self.view_is ∙ p.1) in
    rw (← c.self.view_is)
    (KeepsChecks-changed _ _ _ _ _ _ _ c.args.moment c.args.host _ _ _ p.0 l (c.append.ensures.adds (fact.PoolClear c.args.host) refl) (Changes-clear _ _ _) there refl)
