use Rattle.std.proofs.Common.{inr}
use Rattle.desk_share.proofs.driven.DrivenDesk.next_of.Goals as goal

pub next_from-requires-clause-ahead : goal.next_from-requires-clause-ahead
next_from-requires-clause-ahead g c κs within = rw (← c.self.view_is) at c.place_of.ensures.ahead

pub pass-requires-clause-ahead : goal.pass-requires-clause-ahead
pass-requires-clause-ahead g c κs within = rw (← c.self.view_is) c.in-Some.ensures.next.ahead

pub returns-in-None-clause-next : goal.returns-in-None-clause-next
returns-in-None-clause-next g c = rw (← c.self.view_is) (inr c.in-None.ensures.next)
