use Rattle.std.proofs.Common.{sym, ◌∙◌}
use Rattle.conn_uri.specs.Inside.{part_of}
use Rattle.conn_uri.specs.Values.{tag_in}
use Rattle.conn_uri.proofs.EachLemmas.{each_or_none-drop}
use Rattle.conn_uri.proofs.values.tags_among.Goals as goal

pub loop-piece-preserved : goal.loop-piece-preserved
loop-piece-preserved c =
    let read = sym c.in_ok-tag.ensures ∙ c.in-Some.is in
    let one = each_or_none-drop (λ p. tag_in (part_of p).text) c.args.pieces.now c.loop-piece.tags c.loop-piece.piece-index c.piece-item.result c.in-Some.tag
    c.loop-piece-test.true c.piece-item.is read in
    rw (c.in_ok-push-in-Some.ensures.ok) (one ∙ c.loop-piece.invariant)
