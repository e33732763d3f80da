use Rattle.std.proofs.Common.{◌≡◌, ◌∙◌, ℕ, [], None, ap, sym, subst, arith, IsSome, length}
use Rattle.server_state.specs.Inside.{streams_from}
use Rattle.desk_trail.specs.States.{ServerState}
use Rattle.pool_book.specs.Pool.{Pool, ticket_of}
use Rattle.server_state.proofs.StreamLemmas.{kept_of}
use Rattle.server_state.proofs.PoolLemmas.{AnswersBy-dial, IsKept-dial, IsKept-left, answers-dial, moves-dial, streamless}
use Rattle.server_state.proofs.server.Server.take.Goals as goal

pub invariant_of-self-in-Dial : goal.invariant_of-self-in-Dial
invariant_of-self-in-Dial c =
    let there = subst (λ (n : ServerState). IsSome (ticket_of c.args.ticket.now.number n.pool.state.waiting)) (sym c.self.view_is) c.requires.waits in
    let kept = IsKept-dial c.self.inside _ c.args.moment c.args.ticket.now.number c.in-Dial.conn c.self.invariant there (answers-dial c.self.inside _ _ _ _ _ c.in-Dial.is c.try_take-answer.ensures.goes) in
    let longer = ap length c.push_reserved.ensures.items in
    record { dialled = longer ∙ kept.0; waiting = kept.1; room = omega (arith, longer, kept.2, c.push_reserved.ensures.capacity) }

pub invariant_of-self-in-Lent : goal.invariant_of-self-in-Lent
invariant_of-self-in-Lent c =
    let there = subst (λ (n : ServerState). IsSome (ticket_of c.args.ticket.now.number n.pool.state.waiting)) (sym c.self.view_is) c.requires.waits in
    IsKept-left c.self.inside _ c.args.moment c.args.ticket.now.number _ c.self.invariant there c.try_take-answer.ensures.goes c.in-Lent.is

pub returns-in-Dial-clause-goes : goal.returns-in-Dial-clause-goes
returns-in-Dial-clause-goes c =
    let goes = answers-dial c.self.inside _ _ _ _ _ c.in-Dial.is c.try_take-answer.ensures.goes in
    let moves = moves-dial c.self.inside _ _ c.args.moment c.args.ticket.now.number c.in-Dial.conn _ c.self.view_is goes c.push_reserved.ensures.items in
    AnswersBy-dial c.args.moment c.args.ticket.now.number c.in-Dial.conn _ _ _ c.in-Dial.is moves

pub returns-in-Dial-clause-streamless : goal.returns-in-Dial-clause-streamless
returns-in-Dial-clause-streamless c conn is =
    let same : c.in-Dial.conn ≡ conn = cc in
    let goes = answers-dial c.self.inside _ _ _ _ _ c.in-Dial.is c.try_take-answer.ensures.goes in
    let none = streamless c.self.inside _ c.args.moment c.args.ticket.now.number c.in-Dial.conn _ c.self.invariant goes c.push_reserved.ensures.items in
    (sym same ∙ none.0, subst (λ (n : ℕ). kept_of n (streams_from 1 c.push_reserved.new.self.items []) ≡ None) same none.1)
