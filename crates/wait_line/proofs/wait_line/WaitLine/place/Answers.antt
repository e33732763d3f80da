-- The numbers rise, so a search by halves finds one wherever it stands.
use Rattle.wait_line.proofs.QueueLemmas.{place-some, place-none}
use Rattle.wait_line.proofs.wait_line.WaitLine.place.Goals as goal

pub returns-clause-some : goal.returns-clause-some
returns-clause-some c =
    rw (← c.self.view_is) (place-some c.self.inside.waiting.items c.self.inside.given c.args.number _ _ c.self.invariant c.ok.ensures.value c.binary_search.ensures.position)

pub returns-clause-none : goal.returns-clause-none
returns-clause-none c =
    rw (← c.self.view_is) (place-none c.self.inside.waiting.items c.self.inside.given c.args.number _ _ c.self.invariant c.ok.ensures.value c.binary_search.ensures.position)
