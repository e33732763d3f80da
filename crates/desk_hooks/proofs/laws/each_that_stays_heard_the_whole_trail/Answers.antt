use Rattle.std.proofs.Common.{map}
use Rattle.drv_events.specs.Runs.{Tells}
use Rattle.trail_events.specs.Told.{told}
use Rattle.desk_hooks.proofs.HearingLemmas.{AreTold-calls, heard-whole}
use Rattle.desk_hooks.proofs.laws.each_that_stays_heard_the_whole_trail.Goals as goal

pub returns : goal.returns
returns g c start first between last began calls =
    let heard = g.L.Listener.heard in
    let leaves = g.L.Listener.leaves in
    let events = told last.facts in
    let leads = AreTold-calls heard leaves start first between last began calls in
    heard-whole heard leaves events start last.hooks
    (c.each_heard_what_was_told_since.ensures (map (λ e. Tells e) events) start.listeners.items last.hooks.listeners.items start.left last.hooks.left leads)
    (c.all_are_counted.ensures (map (λ e. Tells e) events) start.listeners.items last.hooks.listeners.items start.left last.hooks.left leads)
