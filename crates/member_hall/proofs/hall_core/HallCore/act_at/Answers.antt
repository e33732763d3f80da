use Rattle.std.proofs.Common.{◌≡◌, ◌<◌, ◌∙◌, ℕ, List, ap, length, sym, subst, arith}
use Rattle.std.specs.List.{All, remove}
use Rattle.std.proofs.lemmas.List.Elements.{All-get_or}
use Rattle.member_hall.specs.Acts.{happened, host_of}
use Rattle.member_hall.specs.Halls.{HallState, no_act, plan_at}
use Rattle.member_hall.specs.Inside.{IsFit, hall_of}
use Rattle.member_hall.specs.Playing.{Plays}
use Rattle.member_hall.specs.declared.act.Planned.{Planned}
use Rattle.member_hall.proofs.Fits.{hosts-remove}
use Rattle.member_hall.proofs.Plans.{happened-plan, plays_happened}
use Rattle.member_hall.proofs.hall_core.HallCore.act_at.Goals as goal

behind : (h mid : HallState) (planned : Planned) (place : ℕ) → mid ≡ happened planned.act h → planned ≡ plan_at h.plan place → (left : List Planned) → left ≡ remove mid.plan place
    → record mid { plan = left } ≡ record (happened (plan_at h.plan place).act h) { plan = remove h.plan place }
behind h mid planned place is own left gone =
    let same : mid ≡ happened (plan_at h.plan place).act h = is ∙ ap (λ (p : Planned). happened p.act h) own in
    let less : left ≡ remove h.plan place = gone ∙ ap (λ (l : List Planned). remove l place) (ap (λ (g : HallState). g.plan) is ∙ happened-plan planned.act h) in
    λ i. record (same i) { plan = less i }

pub remove-requires : goal.remove-requires
remove-requires c =
    let same : length c.self-2.inside.plan ≡ length c.args.self.now.plan =
    ap (λ (g : HallState). length g.plan) (c.self-2.view_is ∙ c.in_ok-happen.ensures.ok) ∙ ap length (happened-plan c.at-act.result.act c.args.self.now) in
    omega (arith, c.requires)

pub invariant_of-self : goal.invariant_of-self
invariant_of-self c =
    let fit = c.self-2.invariant.fit in record {
      fit = record {
        few = fit.few;
        last = fit.last;
        members = fit.members;
        hosts = subst (λ (l : List Planned). All (λ (p : Planned). host_of p.act < length c.self-2.inside.peers.items) l) (sym c.remove.ensures) (hosts-remove (length c.self-2.inside.peers.items) c.self-2.inside.plan c.args.place fit.hosts);
        unserved = fit.unserved;
        kept = fit.kept;
      };
      shares = c.self-2.invariant.shares;
      late = c.self-2.invariant.late;
    }

pub returns-clause-ok : goal.returns-clause-ok
returns-clause-ok c =
    let h = c.args.self.now in
    let own : c.at-act.result ≡ plan_at h.plan c.args.place = c.at-act.ensures ∙ ap (λ (g : HallState). plan_at g.plan c.args.place) c.self.view_is in
    behind h (hall_of c.self-2.inside) c.at-act.result c.args.place (c.self-2.view_is ∙ c.in_ok-happen.ensures.ok) own c.remove.new.self c.remove.ensures

pub returns-clause-plays : goal.returns-clause-plays
returns-clause-plays c =
    let h = c.args.self.now in
    let own : c.at-act.result ≡ plan_at h.plan c.args.place = c.at-act.ensures ∙ ap (λ (g : HallState). plan_at g.plan c.args.place) c.self.view_is in
    let is = behind h (hall_of c.self-2.inside) c.at-act.result c.args.place (c.self-2.view_is ∙ c.in_ok-happen.ensures.ok) own c.remove.new.self c.remove.ensures in
    let fit : IsFit h c.self.inside.log.kept = subst (λ (g : HallState). IsFit g c.self.inside.log.kept) c.self.view_is c.self.invariant.fit in
    let there : host_of (plan_at h.plan c.args.place).act < length h.peers = All-get_or (λ (p : Planned). host_of p.act < length h.peers) h.plan c.args.place no_act c.requires fit.hosts in
    subst (λ (g : HallState). Plays h g) (sym is) (plays_happened (plan_at h.plan c.args.place).act h (remove h.plan c.args.place) there)
