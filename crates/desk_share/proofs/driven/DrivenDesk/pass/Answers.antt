use Rattle.desk_share.proofs.PlaceLemmas.{so-far-passed}
use Rattle.desk_share.proofs.driven.DrivenDesk.pass.Goals as goal

pub invariant_of-self : goal.invariant_of-self
invariant_of-self g c = (
  c.self.invariant.0,
  so-far-passed c.self.inside.desk.desk c.self.inside.places c.args.lane c.args.place (rw (← c.self.view_is) at c.requires.ahead) c.self.invariant.1,
)
