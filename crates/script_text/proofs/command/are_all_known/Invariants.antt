use Rattle.std.proofs.Common.{◌≡◌}
use Rattle.serde_json.specs.View.{members_view}
use Rattle.script_text.specs.Members.{are_of}
use Rattle.script_text.proofs.command.are_all_known.Given as goal

abbrev pub invariant-loop-key : goal.invariant-loop-key
invariant-loop-key l = are_of l.op (members_view l.key-iterator) ≡ are_of l.op (members_view l.members.entries)
