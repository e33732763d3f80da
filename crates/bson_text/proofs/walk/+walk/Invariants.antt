use Rattle.std.proofs.Common.{◌≡◌, ◌++◌, drop}
use Rattle.serde_json.specs.View.{items_view, members_view}
use Rattle.bson_text.specs.Documents.{values_from, elements_from}
use Rattle.bson_text.specs.Flaws.{item_flaws, member_flaws}
use Rattle.bson_text.proofs.walk.+walk.Given as goal

abbrev pub invariant-values_at-loop-place : goal.invariant-values_at-loop-place
invariant-values_at-loop-place l = record {
  made : l.values ++ values_from (items_view (drop l.place l.item-items)) ≡ values_from (items_view l.item-items);
  sound : item_flaws l.depth l.place (items_view (drop l.place l.item-items)) ≡ item_flaws l.depth 0 (items_view l.item-items);
}

abbrev pub invariant-document_at-loop-key : goal.invariant-document_at-loop-key
invariant-document_at-loop-key l = record {
  made : l.document.elements ++ elements_from (members_view l.key-iterator) ≡ elements_from (members_view l.members.entries);
  sound : member_flaws l.depth (members_view l.key-iterator) ≡ member_flaws l.depth (members_view l.members.entries);
}
