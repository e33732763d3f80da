use Rattle.std.proofs.Common.{◌≡◌, Bool, false, [], ◌∷◌, Some, sym, ap, ◌∙◌, subst, if◌then◌else◌}
use Rattle.std.specs.Prelude.{slice_get}
use Rattle.topo_rules.specs.declared.event.TopoEvent.TheVariants as event
use Rattle.desk_trail.specs.Owed.{Owed}
use Rattle.desk_trail.specs.Owed as owed
use Rattle.desk_trail.specs.States.{ServerState}
use Rattle.desk_core.specs.Kept.{IsWriting}
use Rattle.desk_core.proofs.DropLemmas.{read-there}
use Rattle.desk_core.proofs.OfferLemmas.{OnOk-by}
use Rattle.desk_core.proofs.PoolLemmas.{at-servers}
use Rattle.desk_core.proofs.state.Core.offer_broken.Goals as goal

pub returns-clause-ok : goal.returns-clause-ok
returns-clause-ok g c =
    let b = c.requires.broken in
    let writing = b.2.1 in
    let inner = rw (← c.self.view_is) at writing in
    let items = c.self.inside.servers.items in
    let first : slice_get items c.args.host ≡ Some b.0 =
    at-servers c.self.inside.wired.trail c.self.inside.wired.lines c.self.inside.topology.topology items c.self.inside.gossip c.self.inside.last c.args.host b.0
    (c.self.invariant.leads inner.runs) (ap (λ d. slice_get d.trail.point.state.servers c.args.host) c.self.view_is ∙ b.1) in
    let left : b.0.has_left ≡ false =
    ap (λ (s : ServerState). s.has_left) (sym (read-there items c.args.host b.0 c.index.result.now first c.index.ensures)) ∙ sym c.has_left.ensures.left ∙ c.if-has_left.false in
    let told : Owed = owed.Offered (event.Broken b.0.address (Some c.args.generation)) in
    let w : IsWriting c.args.self.now c.args.moment 0 (told ∷ []) =
    subst (λ (x : Bool). IsWriting c.args.self.now c.args.moment 0 (if x then [] else told ∷ [])) left writing in
    OnOk-by c.offer.result _ _ (λ (x : IsWriting c.offer.new.self c.args.moment 0 []). record { runs = x.runs; paid = x.owes; now = x.now }) (c.offer.ensures.ok told [] w)
