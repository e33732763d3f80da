use Rattle.std.proofs.Common.{◌≤◌, length, sym, ap, ◌∙◌, arith, refl}
use Rattle.topo_rules.specs.Changes.{plain}
use Rattle.topo_rules.proofs.Lists.{len-plain, take_same, whole_same}
use Rattle.topo_rules.proofs.servers.Servers.is_same.Goals as goal

pub returns-then-len : goal.returns-then-len
returns-then-len c =
    (λ h. cc, λ e. absurd (c.if-len.true (c.len.ensures.len ∙ len-plain c.args.self.now ∙ ap length e ∙ sym (len-plain c.args.other.now) ∙ sym c.len-2.ensures.len)))

pub loop-place-preserved : goal.loop-place-preserved
loop-place-preserved c =
    take_same (plain c.args.self.now) (plain c.args.other.now) c.loop-place.place (c.is_same_at.ensures.0 c.if-not-is_same_at.false) c.loop-place.invariant

pub returns : goal.returns
returns c =
    let end : length (plain c.args.self.now) ≤ c.loop-place.place = omega (arith, len-plain c.args.self.now) in
    let other_end : length (plain c.args.other.now) ≤ c.loop-place.place = omega (arith, len-plain c.args.other.now) in
    (λ h. whole_same (plain c.args.self.now) (plain c.args.other.now) c.loop-place.place end other_end c.loop-place.invariant, λ e. refl)
