use Rattle.std.proofs.Common.{◌++◌, Option, subst}
use Rattle.std.specs.Prelude.{option_to_list}
use Rattle.drv_events.specs.declared.event.Event.{Event}
use Rattle.trail_events.specs.InEntry.{events_in}
use Rattle.desk_hooks.specs.Hearing.{AreTold}
use Rattle.desk_hooks.specs.Telling.{opening}
use Rattle.desk_hooks.proofs.HearingLemmas.{AreTold-append}
use Rattle.desk_hooks.proofs.TellingLemmas.{told-step}
use Rattle.desk_hooks.proofs.telling.tell_step.Goals as goal

pub returns : goal.returns
returns g c = λ lists same placed.
    let heard = g.L.Listener.heard in
    let leaves = g.L.Listener.leaves in
    let first = option_to_list (opening c.args.place) in
    let rest = events_in c.events_at.result in
    record {
      events = first ++ rest;
      told_is = told-step lists c.args.steps.now c.args.place rest c.requires placed (c.events_at.ensures lists same placed);
      heard_all =
          AreTold-append heard leaves first rest c.args.hooks.now c.tell_some.new.hooks c.tell_all.new.hooks
          (subst (λ (o : Option Event). AreTold heard leaves (option_to_list o) c.args.hooks.now c.tell_some.new.hooks) c.opening.ensures c.tell_some.ensures)
          c.tell_all.ensures;
    }
