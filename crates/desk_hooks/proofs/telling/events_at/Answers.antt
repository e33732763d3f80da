use Rattle.trail_events.specs.InEntry.{events_in}
use Rattle.desk_hooks.proofs.TellingLemmas.{told-next}
use Rattle.desk_hooks.proofs.telling.events_at.Goals as goal

pub returns : goal.returns
returns c = λ lists same placed.
    told-next lists c.args.steps.now c.args.place c.index-steps-place.result c.was_ready-was_ready.result (events_in c.events_of.result) c.requires c.index-steps-place.is placed
    (λ f is. c.was_ready-was_ready.ensures lists f is) (λ f is. c.events_of.ensures lists f same is)
