use Rattle.std.proofs.Common.{refl, ap}
use Rattle.pool_book.specs.Pool.{Pool}
use Rattle.server_state.proofs.MoveLemmas.{IsKept-pool, alone}
use Rattle.server_state.proofs.server.Server.clear_pool.Goals as goal

pub invariant_of-self : goal.invariant_of-self
invariant_of-self c =
    let moves = (c.clear.ensures c.args.moment).moves in
    IsKept-pool _ _ c.self.invariant (ap (λ (p : Pool). p.waiting) moves) (ap (λ (p : Pool). p.dialled) moves)

pub returns : goal.returns
returns c = record { cleared = alone c.self.inside _ _ _ _ c.self.view_is refl (c.clear.ensures c.args.moment).moves }
