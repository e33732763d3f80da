use Rattle.desk_hooks.proofs.desk.HookedDesk.next_from.Goals as goal

pub next_from-requires-clause-ahead : goal.next_from-requires-clause-ahead
next_from-requires-clause-ahead g c κs within = rw (← c.self.view_is) at c.requires.ahead
