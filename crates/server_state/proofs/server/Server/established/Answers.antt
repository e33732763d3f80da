use Rattle.std.proofs.Common.{◌∙◌, ap, subst, sym, IsSome}
use Rattle.desk_trail.specs.States.{ServerState}
use Rattle.pool_book.specs.Entries.{Settled}
use Rattle.pool_book.specs.Pool.{held_of, is_worthless}
use Rattle.server_state.proofs.MoveLemmas.{moves_by}
use Rattle.server_state.proofs.PoolLemmas.{IsKept-settled}
use Rattle.server_state.proofs.server.Server.established.Goals as goal

pub invariant_of-self : goal.invariant_of-self
invariant_of-self c =
    let there = subst (λ (n : ServerState). IsSome (held_of c.args.conn n.pool.state.pending)) (sym c.self.view_is) c.requires in
    IsKept-settled _ _ c.args.moment c.args.conn c.self.invariant there c.established.ensures.goes

pub returns-clause-goes : goal.returns-clause-goes
returns-clause-goes c h e =
    let here = ap (λ (n : ServerState). held_of c.args.conn n.pool.state.pending) c.self.view_is ∙ e in
    moves_by c.self.inside _ _ _ (λ (n : ServerState). Settled h.ticket c.args.conn (is_worthless n.pool.state.state n.pool.state.generation h.generation)) c.self.view_is
    (c.established.ensures.goes h here c.args.moment)
