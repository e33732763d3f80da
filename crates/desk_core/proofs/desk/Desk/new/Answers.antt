use Rattle.std.proofs.Common.{map, ap, ◌∙◌}
use Rattle.desk_trail.specs.States.{fresh_command}
use Rattle.desk_core.proofs.DeskLemmas.{IsDesk-new}
use Rattle.desk_core.proofs.desk.Desk.new.Goals as goal

pub invariant_of-result : goal.invariant_of-result
invariant_of-result g c =
    let made = c.in-Ok-core_of.ensures in
    IsDesk-new c.in-Ok-core_of.core.trail c.args.commands c.in-Ok.operations.items c.new.result c.new-in-Ok-core_of.result c.in-Ok-core_of.core.last
    c.in-Ok-core_of.core.is_stopped (ap (λ x. x.commands) made.client) c.requires.few c.requires.levels made.ready.paid made.commands made.sessions made.ids
    (c.in-Ok.ensures ∙ ap (map fresh_command) c.as_slice.ensures.value) c.new.ensures c.new-in-Ok-core_of.ensures
