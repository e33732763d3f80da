use Rattle.std.proofs.Common.{◌≡◌, ◌≤◌}
use Rattle.std.proofs.lemmas.List.Elements.{All-take}
use Rattle.pool_book.specs.declared.connections.Available.{Available}
use Rattle.pool_book.proofs.available_list.AvailableList.pop.Goals as goal

pub invariant_of-self : goal.invariant_of-self
invariant_of-self c =
    rw c.pop.ensures.rest (record {
      since = All-take (λ (a : Available). c.self.inside.earliest ≤ a.since) _ _ c.self.invariant.since;
      of_one = λ g e. All-take (λ (a : Available). a.generation ≡ g) _ _ (c.self.invariant.of_one g e);
    })
