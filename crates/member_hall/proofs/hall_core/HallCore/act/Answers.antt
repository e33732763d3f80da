use Rattle.std.proofs.Common.{◌<◌, ◌∙◌, length, sym, arith}
use Rattle.member_hall.proofs.Plans.{acts-all, acts-gone, acts-later, acts-stay, gone-less}
use Rattle.member_hall.proofs.Playing.{plays-self, plays-trans}
use Rattle.member_hall.proofs.hall_core.HallCore.act.Goals as goal

pub acting-init : goal.acting-init
acting-init c = record { acts = acts-all c.args.self.now; plays = plays-self c.args.self.now }

pub acting-smaller-in-Continue-1 : goal.acting-smaller-in-Continue-1
acting-smaller-in-Continue-1 c = gone-less c.acting.self c.act_at.new.self c.acting.place (c.is_later.ensures.there c.acting-test.true) c.in_ok-act_at.ensures.ok

pub acting-preserved-in-Continue-1 : goal.acting-preserved-in-Continue-1
acting-preserved-in-Continue-1 c =
    let h = c.acting.self in
    let there : c.acting.place < length h.plan = c.is_later.ensures.there c.acting-test.true in record {
      acts = acts-gone h c.act_at.new.self c.acting.place there (sym c.is_due.ensures ∙ c.if-is_due.true) c.in_ok-act_at.ensures.ok ∙ c.acting.invariant.acts;
      plays = plays-trans c.acting.invariant.plays c.act_at.ensures.plays;
    }

pub overflow_add-place : goal.overflow_add-place
overflow_add-place c = omega (arith, c.is_later.ensures.fits c.acting-test.true)

pub acting-preserved : goal.acting-preserved
acting-preserved c =
    let there : c.acting.place < length c.acting.self.plan = c.is_later.ensures.there c.acting-test.true in record {
      acts = acts-stay c.acting.self c.acting.place there (sym c.is_due.ensures ∙ c.if-is_due.false) ∙ c.acting.invariant.acts;
      plays = c.acting.invariant.plays;
    }

pub returns-clause-ok : goal.returns-clause-ok
returns-clause-ok c = sym (acts-later c.acting.self c.acting.place (c.is_later.ensures.later c.acting-test.false)) ∙ c.acting.invariant.acts
