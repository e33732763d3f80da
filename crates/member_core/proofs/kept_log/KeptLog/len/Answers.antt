use Rattle.std.proofs.Common.{sym, ◌∙◌}
use Rattle.member_core.proofs.ShareLemmas.{length-of}
use Rattle.member_core.proofs.kept_log.KeptLog.len.Goals as goal

pub returns : goal.returns
returns c = c.len.ensures.count ∙ sym (length-of c.self.inside.entries c.self.inside.marks.items c.args.self.now c.self.view_is c.self.invariant.marks)
