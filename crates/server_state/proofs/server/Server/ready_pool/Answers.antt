use Rattle.std.proofs.Common.{◌≡◌, true, refl, ap, subst, sym}
use Rattle.desk_trail.specs.States.{ServerState}
use Rattle.pool_book.specs.Pool.{Pool, is_paused}
use Rattle.server_state.proofs.MoveLemmas.{IsKept-pool, alone}
use Rattle.server_state.proofs.server.Server.ready_pool.Goals as goal

pub invariant_of-self : goal.invariant_of-self
invariant_of-self c =
    let paused = subst (λ (n : ServerState). is_paused n.pool.state.state ≡ true) (sym c.self.view_is) c.requires in
    let moves = (c.ready.ensures.opens paused c.args.moment).moves in
    IsKept-pool _ _ c.self.invariant (ap (λ (p : Pool). p.waiting) moves) (ap (λ (p : Pool). p.dialled) moves)

pub returns : goal.returns
returns c =
    let paused = subst (λ (n : ServerState). is_paused n.pool.state.state ≡ true) (sym c.self.view_is) c.requires in
    record { ready = alone c.self.inside _ _ _ _ c.self.view_is refl (c.ready.ensures.opens paused c.args.moment).moves }
