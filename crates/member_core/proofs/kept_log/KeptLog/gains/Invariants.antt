use Rattle.std.specs.Prelude.{◌≡◌, ◌==◌, ◌&&◌, filter, take}
use Rattle.member_core.specs.Logs.{times}
use Rattle.member_core.specs.Members.{entries, is_acked}
use Rattle.member_core.proofs.kept_log.KeptLog.gains.Given as goal

abbrev pub invariant-loop-entry : goal.invariant-loop-entry
invariant-loop-entry l = l.gains.items ≡ filter (λ entry. is_acked l.last entry.key && (times entry.key (entries l.self) == 0)) (take l.entry-index l.behind)
