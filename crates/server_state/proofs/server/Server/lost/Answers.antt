use Rattle.std.proofs.Common.{◌∙◌, ap, subst, sym, IsSome}
use Rattle.desk_trail.specs.States.{ServerState}
use Rattle.pool_book.specs.Entries.{Lost, NotLent}
use Rattle.pool_book.specs.Pool.{Pool, held_of}
use Rattle.pool_book.proofs.KeptLemmas.{some_is}
use Rattle.server_state.proofs.MoveLemmas.{IsKept-pool, moves_by}
use Rattle.server_state.proofs.server.Server.lost.Goals as goal

pub invariant_of-self : goal.invariant_of-self
invariant_of-self c =
    let held = some_is _ (subst (λ (n : ServerState). IsSome (held_of c.args.conn n.pool.state.pending)) (sym c.self.view_is) c.requires) in
    let moves = (c.lost.ensures held.0 held.1 c.args.moment).moves in
    IsKept-pool _ _ c.self.invariant (ap (λ (p : Pool). p.waiting) moves) (ap (λ (p : Pool). p.dialled) moves)

pub returns : goal.returns
returns c = record {
  goes = λ h e.
      let here = ap (λ (n : ServerState). held_of c.args.conn n.pool.state.pending) c.self.view_is ∙ e in
      moves_by c.self.inside _ _ _ (λ _. NotLent h.ticket (Lost c.args.conn)) c.self.view_is (c.lost.ensures h here c.args.moment);
}
