use Rattle.std.proofs.Common.{◌≡◌, ◌∙◌, false, refl, ap, subst, sym, map}
use Rattle.desk_trail.specs.States.{ServerState}
use Rattle.pool_book.specs.Entries.{Shut}
use Rattle.pool_book.specs.Pool.{Pool, is_closed}
use Rattle.server_state.proofs.MoveLemmas.{IsKept-pool, alone, behind}
use Rattle.server_state.proofs.server.Server.shut_pool.Goals as goal

pub invariant_of-self : goal.invariant_of-self
invariant_of-self c =
    let stays = subst (λ (n : ServerState). is_closed n.pool.state.state ≡ false) (sym c.self.view_is) c.requires.is_open in
    let moves = (c.close.ensures.closes stays c.args.moment).moves in
    IsKept-pool _ _ c.self.invariant (ap (λ (p : Pool). p.waiting) moves) (ap (λ (p : Pool). p.dialled) moves)

pub returns-clause-shut : goal.returns-clause-shut
returns-clause-shut c =
    let stays = subst (λ (n : ServerState). is_closed n.pool.state.state ≡ false) (sym c.self.view_is) c.requires.is_open in
    behind c.self.inside _ _ c.args.moment Shut c.self.view_is (c.close.ensures.closes stays c.args.moment).moves

pub returns-clause-alone : goal.returns-clause-alone
returns-clause-alone c none =
    let stays = subst (λ (n : ServerState). is_closed n.pool.state.state ≡ false) (sym c.self.view_is) c.requires.is_open in
    let empty = ap (λ (n : ServerState). n.pool.state.available) c.self.view_is ∙ none in
    alone c.self.inside _ _ c.args.moment Shut c.self.view_is (ap (map _) empty) (c.close.ensures.closes stays c.args.moment).moves
