use Rattle.std.proofs.Common.{ap, subst, sym}
use Rattle.member_core.specs.Inside.{state_of}
use Rattle.member_core.specs.Members.{MemberState}
use Rattle.member_core.specs.Shares.{IsShared}
use Rattle.member_core.proofs.PlaceLemmas.{state_with}
use Rattle.member_core.proofs.member.Member.copy.Goals as goal

pub copy-requires : goal.copy-requires
copy-requires c =
    subst (λ (m : MemberState). IsShared c.args.shared m.log c.other.inside.log) (sym c.self.view_is)
    (subst (λ (m : MemberState). IsShared c.args.shared c.args.self.now.log m.log) (sym c.other.view_is) c.requires.shared)

pub returns-clause-ok : goal.returns-clause-ok
returns-clause-ok c = rw (← c.self.view_is, ← c.other.view_is) (ap (state_with (state_of c.self.inside)) c.in_ok-copy.ensures.ok)
