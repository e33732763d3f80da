use Rattle.std.proofs.Common.{ap, subst, sym}
use Rattle.member_core.specs.Inside.{state_of}
use Rattle.member_core.specs.Members.{MemberState}
use Rattle.member_core.specs.Shares.{IsShared}
use Rattle.member_core.proofs.PlaceLemmas.{state_with}
use Rattle.member_core.proofs.member.Member.gain.Goals as goal

pub gain-requires : goal.gain-requires
gain-requires c =
    subst (λ (m : MemberState). IsShared c.args.shared m.log c.last.inside.log) (sym c.self.view_is)
    (subst (λ (m : MemberState). IsShared c.args.shared c.args.self.now.log m.log) (sym c.last.view_is) c.requires.shared)

pub returns-clause-ok : goal.returns-clause-ok
returns-clause-ok c = rw (← c.self.view_is, ← c.last.view_is) (ap (state_with (state_of c.self.inside)) c.in_ok-gain.ensures.ok)
