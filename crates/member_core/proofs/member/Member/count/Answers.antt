use Rattle.std.proofs.Common.{ap, length, ◌∙◌}
use Rattle.member_core.specs.Members.{MemberState}
use Rattle.member_core.proofs.member.Member.count.Goals as goal

pub returns : goal.returns
returns c = c.len.ensures ∙ ap (λ (m : MemberState). length m.log) c.self.view_is
