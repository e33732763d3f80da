use Rattle.std.proofs.Common.{sym, ap, ◌∙◌, find}
use Rattle.std.specs.Arc.{arc_value}
use Rattle.topo_rules.specs.Readings.{is_misfit, misfit_of}
use Rattle.topo_rules.proofs.HostTables.{values-seen}
use Rattle.topo_rules.proofs.ReadingLemmas.{find-shared}
use Rattle.topo_rules.proofs.servers.Servers.misfit.Goals as goal

pub returns : goal.returns
returns c =
    c.first_misfit.ensures ∙ find-shared (λ s. arc_value s) is_misfit c.rows.result.now
    ∙ ap (find is_misfit) (sym (values-seen c.rows.result.now c.rows.ensures.order)) ∙ ap misfit_of c.rows.ensures.seen
