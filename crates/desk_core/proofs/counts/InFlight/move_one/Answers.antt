use Rattle.std.proofs.Common.{◌∙◌}
use Rattle.desk_core.proofs.CountLemmas.{IsCounted-moved}
use Rattle.desk_core.proofs.counts.InFlight.move_one.Goals as goal

pub returns : goal.returns
returns c = rw (← c.self.view_is) (record {
  counted = λ commands op x d counted there was is.
      IsCounted-moved c.self.inside.counts.items c.discount_one.new.counts.items commands op x d c.args.before c.args.after counted there was is
      (λ h. c.in_ok-discount_one.ensures h ∙ c.in_ok-count_one.ensures h);
})
