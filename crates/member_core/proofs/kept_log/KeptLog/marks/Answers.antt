use Rattle.std.proofs.Common.{sym, ◌∙◌}
use Rattle.member_core.proofs.ShareLemmas.{marks-of}
use Rattle.member_core.proofs.kept_log.KeptLog.marks.Goals as goal

pub returns : goal.returns
returns c = c.as_slice.ensures.value ∙ sym (marks-of c.self.inside.entries c.self.inside.marks.items c.args.self.now c.self.view_is c.self.invariant.marks)
