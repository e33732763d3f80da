use Rattle.std.proofs.Common.{refl}
use Rattle.member_core.proofs.ShareLemmas.{shared-all}
use Rattle.member_core.proofs.member.Member.note.Goals as goal

pub returns-in-Refused-clause-kept : goal.returns-in-Refused-clause-kept
returns-in-Refused-clause-kept c = shared-all c.count-in-Refused.result c.args.self.now.log c.args.self.now.log c.count-in-Refused.ensures refl

pub returns-in-Nothing-clause-kept : goal.returns-in-Nothing-clause-kept
returns-in-Nothing-clause-kept c = shared-all c.count-in-Nothing.result c.args.self.now.log c.args.self.now.log c.count-in-Nothing.ensures refl

pub returns-else-lead-clause-kept : goal.returns-else-lead-clause-kept
returns-else-lead-clause-kept c = shared-all c.count.result c.args.self.now.log c.args.self.now.log c.count.ensures refl

pub add-requires : goal.add-requires
add-requires c = record { lacks = c.requires.lacks c.in-Added.is }
