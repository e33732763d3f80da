-- What is known of all tells that none has perished.
use Rattle.std.proofs.Common.{◌≡◌, false, sym, ◌∙◌}
use Rattle.pool_book.specs.Pool.{is_idle}
use Rattle.pool_book.proofs.QuietLemmas.{find-quiet}
use Rattle.pool_book.proofs.available_list.AvailableList.first_perished.Goals as goal

pub returns-then-not-is_idle-clause-found : goal.returns-then-not-is_idle-clause-found
returns-then-not-is_idle-clause-found c =
    let young : is_idle c.args.rules c.self.inside.earliest c.args.moment ≡ false = sym c.is_idle.ensures ∙ c.if-not-is_idle.true in
    rw (← c.self.view_is) (sym (find-quiet c.self.inside.items.items c.args.rules c.args.generation c.args.moment c.self.inside.earliest c.self.invariant.since (c.self.invariant.of_one c.args.generation (c.is_of.ensures c.if-is_of.true)) young))
