use Rattle.std.proofs.Common.{refl, sym, ◌∙◌}
use Rattle.conn_uri.specs.Escapes.{decoded}
use Rattle.conn_uri.specs.Inside.{part_of}
use Rattle.conn_uri.proofs.EachLemmas.{read_each-drop, read_each-stops, ok_is_read, err_is_read}
use Rattle.conn_uri.proofs.decoding.decode_each.Goals as goal

pub loop-piece-preserved : goal.loop-piece-preserved
loop-piece-preserved c =
    let read = ok_is_read _ _ _ _ c.decode.ensures c.in-Ok.is in
    let one = read_each-drop (λ p. decoded (part_of p)) c.args.pieces.now c.loop-piece.texts c.loop-piece.piece-index c.piece-item.result c.in-Ok.text
    c.loop-piece-test.true c.piece-item.is read in
    rw (c.in_ok-push-in-Ok.ensures.ok) (one ∙ c.loop-piece.invariant)

pub returns-in-Err : goal.returns-in-Err
returns-in-Err c other =
    let read = err_is_read _ _ _ _ _ c.decode.ensures c.in-Err.is refl other in
    sym (read_each-stops (λ p. decoded (part_of p)) c.args.pieces.now c.loop-piece.texts c.loop-piece.piece-index c.piece-item.result c.in-Err.fault
    c.loop-piece-test.true c.piece-item.is read) ∙ c.loop-piece.invariant
