-- What `retain` keeps is the filter by its closure's test.
use Rattle.std.proofs.Common.{◌≡◌, ◌≤◌, not, eqb, rules}
use Rattle.std.proofs.lemmas.Fn.{filter_same}
use Rattle.std.proofs.lemmas.List.Elements.{All-filter}
use Rattle.pool_book.specs.declared.connections.Available.{Available}
use Rattle.pool_book.proofs.available_list.AvailableList.remove.Goals as goal

pub invariant_of-self : goal.invariant_of-self
invariant_of-self c =
    let kept = filter_same _ (λ (a : Available). not (eqb a.conn c.args.conn)) _ (λ x b f' k. search rules) _ _ c.retain.ensures.filtered in
    rw kept (record {
      since = All-filter _ (λ (a : Available). c.self.inside.earliest ≤ a.since) _ c.self.invariant.since;
      of_one = λ g e. All-filter _ (λ (a : Available). a.generation ≡ g) _ (c.self.invariant.of_one g e);
    })

pub returns-clause-items : goal.returns-clause-items
returns-clause-items c =
    let kept = filter_same _ (λ (a : Available). not (eqb a.conn c.args.conn)) _ (λ x b f' k. search rules) _ _ c.retain.ensures.filtered in
    rw (kept, ← c.self.view_is)
