use Rattle.desk_share.proofs.PlaceLemmas.{so-far-at}
use Rattle.desk_share.proofs.driven.DrivenDesk.place_of.Goals as goal

pub returns-then-at-le-LANES : goal.returns-then-at-le-LANES
returns-then-at-le-LANES g c =
    record { ahead = rw (← c.self.view_is) (so-far-at c.self.inside.desk.desk c.self.inside.places c.args.lane c.self.invariant.1) }
