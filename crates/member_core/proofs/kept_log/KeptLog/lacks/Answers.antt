use Rattle.std.proofs.Common.{ap, ◌∙◌}
use Rattle.std.specs.Option.{is_none}
use Rattle.member_core.specs.Members.{entries}
use Rattle.member_core.proofs.IndexLemmas.{lacks-is}
use Rattle.member_core.proofs.kept_log.KeptLog.lacks.Goals as goal

pub returns-in-Some : goal.returns-in-Some
returns-in-Some c = ap is_none c.in-Some.ensures.place ∙ lacks-is (entries c.args.self.now) c.args.key.now

pub returns-in-None : goal.returns-in-None
returns-in-None c = ap is_none c.in-None.ensures.place ∙ lacks-is (entries c.args.self.now) c.args.key.now
