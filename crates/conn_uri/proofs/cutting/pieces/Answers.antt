use Rattle.std.proofs.Common.{sym, ◌∙◌}
use Rattle.conn_uri.proofs.CutLemmas.{pieces-more, pieces-last}
use Rattle.conn_uri.proofs.cutting.pieces.Goals as goal

pub loop-mark-preserved : goal.loop-mark-preserved
loop-mark-preserved c =
    pieces-more c.args.mark _ _ c.halves.result.0 c.loop-mark.rest c.halves.result.1 c.in_ok-push.ensures.items c.halves.ensures.front c.halves.ensures.back (sym c.has.ensures ∙ c.loop-mark-test.true)
    ∙ c.loop-mark.invariant

pub returns : goal.returns
returns c =
    pieces-last c.args.mark _ _ c.loop-mark.rest c.in_ok-push-2.ensures.items (sym c.has.ensures ∙ c.loop-mark-test.false) ∙ c.loop-mark.invariant
