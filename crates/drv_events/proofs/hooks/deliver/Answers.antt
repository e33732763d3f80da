use Rattle.std.proofs.Common.{rules}
use Rattle.drv_events.proofs.HearingLemmas.{Delivered-from_retain}
use Rattle.drv_events.proofs.hooks.deliver.Goals as goal

pub returns-clause-heard : goal.returns-clause-heard
returns-clause-heard g c =
    Delivered-from_retain _ _ c.args.event.now _ _ (λ x b d y r. search rules) _ _ c.retain_mut.ensures.filtered
