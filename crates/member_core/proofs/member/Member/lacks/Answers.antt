use Rattle.std.proofs.Common.{ap, eqb, ◌∙◌}
use Rattle.member_core.specs.Logs.{times}
use Rattle.member_core.specs.Members.{MemberState, entries}
use Rattle.member_core.proofs.member.Member.lacks.Goals as goal

pub returns : goal.returns
returns c = c.lacks.ensures ∙ ap (λ (m : MemberState). eqb (times c.args.key.now (entries m.log)) 0) c.self.view_is
