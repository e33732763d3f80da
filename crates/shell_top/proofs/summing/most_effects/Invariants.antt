use Rattle.std.proofs.Common.{◌≡◌, List, length, map}
use Rattle.std.specs.List.{range_with_len}
use Rattle.entry_judge.specs.declared.timed.Timed.{Timed}
use Rattle.desk_trail.specs.Clients.{Client}
use Rattle.desk_trail.specs.Facts.{Fact}
use Rattle.effect_count.specs.Counts.{effects_by}
use Rattle.member_core.specs.Logs.{set_after}
use Rattle.shell_top.specs.Soak.{IsIndexed}
use Rattle.shell_top.specs.Summary.{greatest}
use Rattle.shell_top.proofs.summing.most_effects.Given as goal

abbrev pub invariant-members : goal.invariant-members
invariant-members l = (client : Client) (facts : List (Timed Fact)) → IsIndexed client facts l.index → length client.commands ≡ l.count
    → l.most ≡ greatest (map (λ member. greatest (effects_by client facts ((set_after l.hall.events).log member))) (range_with_len 0 l.member))
