use Rattle.std.proofs.Common.{◌≡◌, ◌+◌, ◌++◌, List, Some, true, false, refl, sym, ap, ◌∙◌, subst, arith}
use Rattle.std.specs.Prelude.{slice_get}
use Rattle.std.proofs.lemmas.Option.{slice_get_read, slice_get_within}
use Rattle.pool_book.specs.Pool.{is_paused}
use Rattle.desk_trail.specs.Owed.{Owed}
use Rattle.desk_trail.specs.States.{number_of}
use Rattle.desk_trail.specs.Topologies.{is_paused_at}
use Rattle.desk_core.specs.Kept.{IsWriting}
use Rattle.desk_core.proofs.ServerLemmas.{number_of-found}
use Rattle.desk_core.proofs.PoolLemmas.{IsWriting-less, at-servers, is_paused_at-there, readied-other, readied-paused}
use Rattle.desk_core.proofs.state.Core.ready_at.Goals as goal

pub index-requires : goal.index-requires
index-requires g c =
    let w = c.requires.writing in
    let l = c.self.invariant.leads (rw (← c.self.view_is) at w.2.runs) in
    let numbered : number_of c.args.self.now.trail.point.state c.args.host.now ≡ Some c.in-Some.number = sym c.number_of.ensures ∙ c.in-Some.is in
    let f = number_of-found c.args.self.now.trail.point.state c.args.host.now c.in-Some.number numbered in
    let there = at-servers _ _ _ _ _ _ c.in-Some.number f.server l (ap (λ d. slice_get d.trail.point.state.servers c.in-Some.number) c.self.view_is ∙ f.there) in
    omega (arith, slice_get_within c.self.inside.servers.items c.in-Some.number f.server there, c.self.inside.servers.ok.0)

pub ready_pool-requires-clause-writing : goal.ready_pool-requires-clause-writing
ready_pool-requires-clause-writing g c =
    let w = c.requires.writing in
    let l = c.self.invariant.leads (rw (← c.self.view_is) at w.2.runs) in
    let numbered : number_of c.args.self.now.trail.point.state c.args.host.now ≡ Some c.in-Some.number = sym c.number_of.ensures ∙ c.in-Some.is in
    let f = number_of-found c.args.self.now.trail.point.state c.args.host.now c.in-Some.number numbered in
    let there = at-servers _ _ _ _ _ _ c.in-Some.number f.server l (ap (λ d. slice_get d.trail.point.state.servers c.in-Some.number) c.self.view_is ∙ f.there) in
    let is = slice_get_read c.self.inside.servers.items _ c.in-Some.number c.index.result.now refl (slice_get_within c.self.inside.servers.items c.in-Some.number f.server there) c.index.ensures in
    let same : c.index.result.now ≡ f.server = cc in
    let paused : is_paused_at c.args.self.now.trail.point.state c.in-Some.number ≡ true =
    is_paused_at-there c.args.self.now.trail.point.state c.in-Some.number f.server f.there ∙ sym (ap (λ s. is_paused s.pool.state.state) same) ∙ sym c.is_paused.ensures.paused ∙ c.if-is_paused.true in
    (w.0, w.1, subst (λ (xs : List Owed). IsWriting c.args.self.now c.args.moment (w.1 + 1) (xs ++ w.0)) (readied-paused c.args.self.now.trail.point.state _ c.in-Some.number numbered paused) w.2)

pub ready_pool-requires-clause-paused : goal.ready_pool-requires-clause-paused
ready_pool-requires-clause-paused g c =
    let w = c.requires.writing in
    let l = c.self.invariant.leads (rw (← c.self.view_is) at w.2.runs) in
    let numbered : number_of c.args.self.now.trail.point.state c.args.host.now ≡ Some c.in-Some.number = sym c.number_of.ensures ∙ c.in-Some.is in
    let f = number_of-found c.args.self.now.trail.point.state c.args.host.now c.in-Some.number numbered in
    let there = at-servers _ _ _ _ _ _ c.in-Some.number f.server l (ap (λ d. slice_get d.trail.point.state.servers c.in-Some.number) c.self.view_is ∙ f.there) in
    let is = slice_get_read c.self.inside.servers.items _ c.in-Some.number c.index.result.now refl (slice_get_within c.self.inside.servers.items c.in-Some.number f.server there) c.index.ensures in
    let same : c.index.result.now ≡ f.server = cc in
    let paused : is_paused_at c.args.self.now.trail.point.state c.in-Some.number ≡ true =
    is_paused_at-there c.args.self.now.trail.point.state c.in-Some.number f.server f.there ∙ sym (ap (λ s. is_paused s.pool.state.state) same) ∙ sym c.is_paused.ensures.paused ∙ c.if-is_paused.true in
    paused

pub returns-then-is_paused-clause-writing : goal.returns-then-is_paused-clause-writing
returns-then-is_paused-clause-writing g c = λ rest n before.
    let w = c.requires.writing in
    let l = c.self.invariant.leads (rw (← c.self.view_is) at w.2.runs) in
    let numbered : number_of c.args.self.now.trail.point.state c.args.host.now ≡ Some c.in-Some.number = sym c.number_of.ensures ∙ c.in-Some.is in
    let f = number_of-found c.args.self.now.trail.point.state c.args.host.now c.in-Some.number numbered in
    let there = at-servers _ _ _ _ _ _ c.in-Some.number f.server l (ap (λ d. slice_get d.trail.point.state.servers c.in-Some.number) c.self.view_is ∙ f.there) in
    let is = slice_get_read c.self.inside.servers.items _ c.in-Some.number c.index.result.now refl (slice_get_within c.self.inside.servers.items c.in-Some.number f.server there) c.index.ensures in
    let same : c.index.result.now ≡ f.server = cc in
    let paused : is_paused_at c.args.self.now.trail.point.state c.in-Some.number ≡ true =
    is_paused_at-there c.args.self.now.trail.point.state c.in-Some.number f.server f.there ∙ sym (ap (λ s. is_paused s.pool.state.state) same) ∙ sym c.is_paused.ensures.paused ∙ c.if-is_paused.true in
    c.ready_pool.ensures.writing rest n
    (subst (λ (xs : List Owed). IsWriting c.args.self.now c.args.moment (n + 1) (xs ++ rest)) (readied-paused c.args.self.now.trail.point.state _ c.in-Some.number numbered paused) before)

pub returns-else-is_paused-clause-writing : goal.returns-else-is_paused-clause-writing
returns-else-is_paused-clause-writing g c = λ rest n before.
    let w = c.requires.writing in
    let l = c.self.invariant.leads (rw (← c.self.view_is) at w.2.runs) in
    let numbered : number_of c.args.self.now.trail.point.state c.args.host.now ≡ Some c.in-Some.number = sym c.number_of.ensures ∙ c.in-Some.is in
    let f = number_of-found c.args.self.now.trail.point.state c.args.host.now c.in-Some.number numbered in
    let there = at-servers _ _ _ _ _ _ c.in-Some.number f.server l (ap (λ d. slice_get d.trail.point.state.servers c.in-Some.number) c.self.view_is ∙ f.there) in
    let is = slice_get_read c.self.inside.servers.items _ c.in-Some.number c.index.result.now refl (slice_get_within c.self.inside.servers.items c.in-Some.number f.server there) c.index.ensures in
    let same : c.index.result.now ≡ f.server = cc in
    let paused : is_paused_at c.args.self.now.trail.point.state c.in-Some.number ≡ false =
    is_paused_at-there c.args.self.now.trail.point.state c.in-Some.number f.server f.there ∙ sym (ap (λ s. is_paused s.pool.state.state) same) ∙ sym c.is_paused.ensures.paused ∙ c.if-is_paused.false in
    IsWriting-less _ _ n rest
    (subst (λ (xs : List Owed). IsWriting c.args.self.now c.args.moment (n + 1) (xs ++ rest)) (readied-other c.args.self.now.trail.point.state _ c.in-Some.number numbered paused) before)
