use Rattle.std.proofs.Common.{◌≡◌}
use Rattle.serde_json.specs.View.{members_view}
use Rattle.script_text.specs.Reads.{tags_in}
use Rattle.script_text.proofs.TagLemmas.{behind}
use Rattle.script_text.proofs.reads.each_tag.Given as goal

abbrev pub invariant-loop-key : goal.invariant-loop-key
invariant-loop-key l = behind l.tags (tags_in (members_view l.key-iterator)) ≡ tags_in (members_view l.members.entries)
