use Rattle.std.proofs.Common.{ap}
use Rattle.std.proofs.lemmas.List.{take_rest}
use Rattle.net_link.proofs.PieceLemmas.{drop-piece}
use Rattle.net_link.proofs.slice_source.SliceSourceSource.read.Goals as goal

pub returns-clause-told : goal.returns-clause-told
returns-clause-told c =
    let front = rw (c.as_slice.ensures.value, take_rest) at c.copy_front-count.ensures.front in
    rw (← ap (λ s. s.left) c.self.view_is) (drop-piece c.self.inside.place c.copy_front-count.result c.self.inside.bytes c.copy_front-count.new.into front)
