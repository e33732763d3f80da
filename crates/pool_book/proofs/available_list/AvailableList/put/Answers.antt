-- One more connection, with what is known of it.
use Rattle.std.proofs.Common.{◌≡◌, ◌≤◌, arith}
use Rattle.std.proofs.lemmas.List.Elements.{All-push, All-weaker}
use Rattle.pool_book.specs.declared.connections.Available.{Available}
use Rattle.pool_book.proofs.available_list.AvailableList.put.Goals as goal

pub invariant_of-self : goal.invariant_of-self
invariant_of-self c =
    rw c.push_reserved.ensures.items (record {
      since = All-push (λ (a : Available). c.min-self-inside.result ≤ a.since) _ _ (All-weaker (λ (a : Available). c.self.inside.earliest ≤ a.since) (λ (a : Available). c.min-self-inside.result ≤ a.since) (λ a l. omega (arith, l, c.min-self-inside.ensures)) _ c.self.invariant.since) (omega (arith, c.min-self-inside.ensures));
      of_one = λ g e. All-push (λ (a : Available). a.generation ≡ g) _ _ (c.self.invariant.of_one g (c.joined-self-inside.ensures g e).0) (c.joined-self-inside.ensures g e).1;
    })
