use Rattle.std.proofs.Common.{ap, subst}
use Rattle.member_core.specs.Inside.{state_of}
use Rattle.member_core.specs.Members.{MemberState}
use Rattle.member_core.specs.Shares.{IsShared}
use Rattle.member_core.proofs.PlaceLemmas.{state_with}
use Rattle.member_core.proofs.member.Member.mark.Goals as goal

pub returns : goal.returns
returns c = record {
  member = rw (← c.self.view_is) (ap (state_with (state_of c.self.inside)) c.mark.ensures.marked);
  kept = subst (λ (m : MemberState). IsShared c.mark.result m.log c.mark.new.self) c.self.view_is c.mark.ensures.kept;
}
