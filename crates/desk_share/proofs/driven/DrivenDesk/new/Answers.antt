use Rattle.desk_share.proofs.PlaceLemmas.{so-far-first}
use Rattle.desk_share.proofs.SharedLemmas.{shared-new}
use Rattle.desk_share.proofs.driven.DrivenDesk.new.Goals as goal

pub invariant_of-result : goal.invariant_of-result
invariant_of-result g c = (
  shared-new g.N.Net.faults g.C.Clock.shows g.D.Dice.rolls g.L.Listener.heard g.J.Opening.opened c.args.desk c.requires.begins c.requires.opened,
  so-far-first c.args.desk.desk c.first_places.result 65 c.first_places.ensures,
)
