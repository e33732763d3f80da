use Rattle.std.proofs.Common.{sym, ap, ◌∙◌}
use Rattle.std.specs.Arc.{arc_value}
use Rattle.std.specs.List.{list_any}
use Rattle.topo_rules.specs.Kinds.{is_primary}
use Rattle.topo_rules.specs.Maps.{has_primary}
use Rattle.topo_rules.proofs.HostTables.{values-seen}
use Rattle.topo_rules.proofs.ReadingLemmas.{list_any-shared}
use Rattle.topo_rules.proofs.servers.Servers.has_primary.Goals as goal

pub returns : goal.returns
returns c =
    c.some_is_primary.ensures ∙ list_any-shared (λ s. arc_value s) is_primary c.rows.result.now
    ∙ ap (list_any is_primary) (sym (values-seen c.rows.result.now c.rows.ensures.order)) ∙ ap has_primary c.rows.ensures.seen
