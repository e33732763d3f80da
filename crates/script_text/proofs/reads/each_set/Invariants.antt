use Rattle.std.proofs.Common.{◌≡◌, drop}
use Rattle.serde_json.specs.View.{items_view}
use Rattle.script_text.specs.Reads.{sets_in}
use Rattle.script_text.proofs.TagLemmas.{behind}
use Rattle.script_text.proofs.reads.each_set.Given as goal

abbrev pub invariant-loop-item : goal.invariant-loop-item
invariant-loop-item l = behind l.sets (sets_in (items_view (drop l.item-index l.items.items))) ≡ sets_in (items_view l.items.items)
