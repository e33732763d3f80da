use Rattle.std.specs.Prelude.{◌≡◌, ◌++◌, map, take}
use Rattle.member_core.specs.Members.{is_acked}
use Rattle.member_core.proofs.kept_log.KeptLog.add_marks.Given as goal

abbrev pub invariant-loop-entry : goal.invariant-loop-entry
invariant-loop-entry l = l.marks.items ≡ l.initial.marks.items ++ map (λ entry. is_acked l.self entry.key) (take l.entry-index l.entries)
