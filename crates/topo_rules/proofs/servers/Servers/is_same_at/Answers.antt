use Rattle.std.proofs.Common.{refl, sym, ap, ◌∙◌, true≢false}
use Rattle.topo_rules.proofs.AlikeLemmas.{alike-at, none_at, one_at, both-at, same-at}
use Rattle.topo_rules.proofs.servers.Servers.is_same_at.Goals as goal

pub is_same_of-requires : goal.is_same_of-requires
is_same_of-requires c apart kinds =
    alike-at c.args.changed.now c.args.self.now c.args.other.now c.args.place (c.in-Some-Some.host.now, c.in-Some-Some.description.now) (c.in-Some-Some.other_host.now, c.in-Some-Some.other_description.now)
    c.requires (sym c.in-Some-Some.ensures) (sym c.in-Some-Some.ensures') (c.eq.ensures.same.0 c.if-eq.true) apart kinds

pub returns-in-None-None : goal.returns-in-None-None
returns-in-None-None c = (λ h. none_at c.args.self.now c.args.other.now c.args.place (sym c.in-None-None.ensures) (sym c.in-None-None.ensures'), λ e. refl)

pub returns-then-eq : goal.returns-then-eq
returns-then-eq c = (
  λ h. same-at c.args.self.now c.args.other.now c.args.place _ _ (sym c.in-Some-Some.ensures) (sym c.in-Some-Some.ensures') (c.eq.ensures.same.0 c.if-eq.true) (c.is_same_of.ensures.0 h),
  λ e. c.is_same_of.ensures.1 (ap (λ (a : _ × _). a.1) (both-at c.args.self.now c.args.other.now c.args.place _ _ (sym c.in-Some-Some.ensures) (sym c.in-Some-Some.ensures') e)),
)

pub returns-else-eq : goal.returns-else-eq
returns-else-eq c = (
  λ h. absurd (true≢false (sym h ∙ c.if-eq.false)),
  λ e. c.eq.ensures.same.1 (ap (λ (a : _ × _). a.0) (both-at c.args.self.now c.args.other.now c.args.place _ _ (sym c.in-Some-Some.ensures) (sym c.in-Some-Some.ensures') e)),
)

pub returns-in_default : goal.returns-in_default
returns-in_default c = (λ h. absurd (true≢false (sym h)), λ e. absurd (one_at c.args.other.now c.args.self.now c.args.place _ (sym c.in_default.ensures') (sym c.in_default.ensures) (sym e)))

pub returns-in_default-2 : goal.returns-in_default-2
returns-in_default-2 c = (λ h. absurd (true≢false (sym h)), λ e. absurd (one_at c.args.self.now c.args.other.now c.args.place _ (sym c.in_default.ensures) (sym c.in_default.ensures') e))
