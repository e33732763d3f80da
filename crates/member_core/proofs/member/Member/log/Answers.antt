use Rattle.std.proofs.Common.{ap, ◌∙◌}
use Rattle.member_core.specs.Members.{MemberState, entries}
use Rattle.member_core.proofs.member.Member.log.Goals as goal

pub returns : goal.returns
returns c = record { value = c.entries.ensures.value ∙ ap (λ (m : MemberState). entries m.log) c.self.view_is }
