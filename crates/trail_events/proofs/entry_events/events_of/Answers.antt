use Rattle.std.proofs.Common.{ap, ◌∙◌, sym}
use Rattle.std.specs.Prelude.{option_to_list}
use Rattle.trail_events.proofs.AloneLemmas.{alone-told}
use Rattle.trail_events.proofs.entry_events.events_of.Goals as goal

pub returns-in_default : goal.returns-in_default
returns-in_default c =
    let d = c.in_default in
    λ lists f same is.
    c.alone.ensures ∙ ap option_to_list c.event_of.ensures
    ∙ sym (alone-told lists c.args.was_ready c.args.step.now.entry f d.not-Named d.not-PoolClear d.not-CheckEnded d.not-Asked is)
