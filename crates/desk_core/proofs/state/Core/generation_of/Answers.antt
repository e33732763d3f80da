use Rattle.std.proofs.Common.{◌≡◌, Some, refl, sym, ap, ◌∙◌, arith}
use Rattle.std.specs.Prelude.{slice_get}
use Rattle.std.specs.Option.{option_and_then}
use Rattle.std.proofs.lemmas.Option.{slice_get_read, slice_get_within}
use Rattle.desk_trail.specs.States.{number_of}
use Rattle.desk_trail.specs.Topologies.{generation_in}
use Rattle.desk_core.proofs.ServerLemmas.{number_of-found}
use Rattle.desk_core.proofs.PoolLemmas.{at-servers}
use Rattle.desk_core.proofs.state.Core.generation_of.Goals as goal

pub index-requires : goal.index-requires
index-requires g c =
    let l = c.self.invariant.leads (rw (← c.self.view_is) at c.requires) in
    let f = number_of-found c.args.self.now.trail.point.state c.args.host.now c.in-Some.number (sym c.number_of.ensures ∙ c.in-Some.is) in
    let there = at-servers _ _ _ _ _ _ c.in-Some.number f.server l (ap (λ d. slice_get d.trail.point.state.servers c.in-Some.number) c.self.view_is ∙ f.there) in
    omega (arith, slice_get_within c.self.inside.servers.items c.in-Some.number f.server there, c.self.inside.servers.ok.0)

pub returns-in-Some : goal.returns-in-Some
returns-in-Some g c =
    let l = c.self.invariant.leads (rw (← c.self.view_is) at c.requires) in
    let numbered : number_of c.args.self.now.trail.point.state c.args.host.now ≡ Some c.in-Some.number = sym c.number_of.ensures ∙ c.in-Some.is in
    let f = number_of-found c.args.self.now.trail.point.state c.args.host.now c.in-Some.number numbered in
    let there = at-servers _ _ _ _ _ _ c.in-Some.number f.server l (ap (λ d. slice_get d.trail.point.state.servers c.in-Some.number) c.self.view_is ∙ f.there) in
    let is = slice_get_read c.self.inside.servers.items _ c.in-Some.number c.index.result.now refl (slice_get_within c.self.inside.servers.items c.in-Some.number f.server there) c.index.ensures in
    let same : c.index.result.now ≡ f.server = cc in
    c.generation.ensures.generation ∙ ap (λ s. s.pool.state.generation) same
    ∙ sym (ap generation_in (ap (option_and_then (slice_get c.args.self.now.trail.point.state.servers)) numbered ∙ f.there))
