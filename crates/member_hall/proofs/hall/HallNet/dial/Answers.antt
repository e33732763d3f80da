use Rattle.std.proofs.Common.{sym, subst}
use Rattle.net_link.specs.declared.net.Dialed.{Dialed}
use Rattle.member_hall.specs.Halls.{HallState}
use Rattle.member_hall.proofs.Calling.{Dials, dials}
use Rattle.member_hall.proofs.hall.HallNet.dial.Goals as goal

pub invariant_of-self : goal.invariant_of-self
invariant_of-self c =
    (dials c.args.address.now c.self.inside.core c.dial-answer.new.self c.dial-answer.result c.self.invariant c.dial-answer.ensures.stream c.dial-answer.ensures.state c.dial-answer.ensures.begun c.dial-answer.ensures.err).facts.sound

pub returns : goal.returns
returns c =
    let all : Dials c.args.address.now c.dialed.result c.args.self.now c.dial-answer.new.self =
    subst (λ (g : HallState). Dials c.args.address.now c.dialed.result g c.dial-answer.new.self) c.self.view_is
    (subst (λ (a : Dialed). Dials c.args.address.now a c.self.inside.core c.dial-answer.new.self) (sym c.dialed.ensures)
    (dials c.args.address.now c.self.inside.core c.dial-answer.new.self c.dial-answer.result c.self.invariant c.dial-answer.ensures.stream c.dial-answer.ensures.state c.dial-answer.ensures.begun c.dial-answer.ensures.err)) in
    record {
      cause = all.facts.cause;
      keeps = all.facts.keeps;
      stream = all.facts.stream;
      told = all.facts.told;
      fresh = all.facts.fresh;
      answer = all.answer_is;
      state = all.state;
    }
