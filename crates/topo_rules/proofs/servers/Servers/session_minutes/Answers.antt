use Rattle.std.proofs.Common.{None, sym, ap, ◌∙◌, map, filter}
use Rattle.std.specs.Arc.{arc_value}
use Rattle.std.specs.Option.{unwrap_or}
use Rattle.topo_rules.specs.Kinds.{bears_data}
use Rattle.topo_rules.specs.Readings.{least, lowered, minutes_of, session_minutes_of}
use Rattle.topo_rules.proofs.HostTables.{values-seen}
use Rattle.topo_rules.proofs.ReadingLemmas.{fold-shared, lowest_is_least}
use Rattle.topo_rules.proofs.servers.Servers.session_minutes.Goals as goal

pub returns : goal.returns
returns c =
    c.least_minutes.ensures ∙ ap (λ o. unwrap_or o None) (fold-shared (λ s. arc_value s) lowered None c.rows.result.now)
    ∙ lowest_is_least (map (λ s. arc_value s) c.rows.result.now)
    ∙ ap (λ ds. least (map minutes_of (filter bears_data ds))) (sym (values-seen c.rows.result.now c.rows.ensures.order)) ∙ ap session_minutes_of c.rows.ensures.seen
