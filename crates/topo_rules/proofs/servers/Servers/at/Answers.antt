use Rattle.std.proofs.Common.{Some, sym, ap, ◌∙◌, option_map, slice_get}
use Rattle.std.specs.Arc.{arc_value}
use Rattle.std.specs.FinMap as map
use Rattle.topo_rules.proofs.HostTables.{value-seen, entry-seen}
use Rattle.topo_rules.proofs.servers.Servers.at.Goals as goal

pub returns-in-Some-clause-value : goal.returns-in-Some-clause-value
returns-in-Some-clause-value c =
    ap Some c.deref.ensures ∙ ap (option_map (λ s. arc_value s)) c.in-Some.ensures
    ∙ sym (value-seen c.rows.result.now c.rows.ensures.order c.args.place) ∙ ap (λ m. slice_get (map.values m) c.args.place) c.rows.ensures.seen

pub returns-in-Some-clause-entry : goal.returns-in-Some-clause-entry
returns-in-Some-clause-entry c =
    ap (λ d. Some (d.host, d)) c.deref.ensures ∙ ap (option_map (λ s. ((arc_value s).host, arc_value s))) c.in-Some.ensures
    ∙ sym (entry-seen c.rows.result.now c.rows.ensures.order c.args.place) ∙ ap (λ m. slice_get (map.entries m) c.args.place) c.rows.ensures.seen

pub returns-in-None-clause-value : goal.returns-in-None-clause-value
returns-in-None-clause-value c =
    ap (option_map (λ s. arc_value s)) c.in-None.ensures
    ∙ sym (value-seen c.rows.result.now c.rows.ensures.order c.args.place) ∙ ap (λ m. slice_get (map.values m) c.args.place) c.rows.ensures.seen

pub returns-in-None-clause-entry : goal.returns-in-None-clause-entry
returns-in-None-clause-entry c =
    ap (option_map (λ s. ((arc_value s).host, arc_value s))) c.in-None.ensures
    ∙ sym (entry-seen c.rows.result.now c.rows.ensures.order c.args.place) ∙ ap (λ m. slice_get (map.entries m) c.args.place) c.rows.ensures.seen
