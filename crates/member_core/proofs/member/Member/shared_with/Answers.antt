use Rattle.std.proofs.Common.{subst, sym}
use Rattle.member_core.specs.Members.{MemberState}
use Rattle.member_core.specs.Shares.{IsShared}
use Rattle.member_core.proofs.member.Member.shared_with.Goals as goal

pub shared_with-requires : goal.shared_with-requires
shared_with-requires c =
    subst (λ (m : MemberState). IsShared c.args.shared m.log c.other.inside.log) (sym c.self.view_is)
    (subst (λ (m : MemberState). IsShared c.args.shared c.args.self.now.log m.log) (sym c.other.view_is) c.requires.shared)

pub returns : goal.returns
returns c = record {
  shared =
      subst (λ (m : MemberState). IsShared c.shared_with.result m.log c.args.other.now.log) c.self.view_is
      (subst (λ (m : MemberState). IsShared c.shared_with.result c.self.inside.log m.log) c.other.view_is c.shared_with.ensures.shared);
  more = c.shared_with.ensures.more;
}
