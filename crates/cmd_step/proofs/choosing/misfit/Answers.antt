use Rattle.std.proofs.Common.{sym, ap, ◌∙◌, w32, to_z, of_z}
use Rattle.std.proofs.lemmas.Int.{to_z-of_z}
use Rattle.std.specs.FinMap as map
use Rattle.std.specs.Option.{option_and_then, option_copied}
use Rattle.topo_rules.specs.declared.topology.Topology.{Topology}
use Rattle.write_retry.specs.declared.events.OpEvent.TheVariants as event
use Rattle.desk_trail.specs.declared.entry.LookedHow.TheVariants as looked
use Rattle.desk_trail.specs.Attempts.{with_event}
use Rattle.desk_trail.specs.Looks.{look_by}
use Rattle.desk_trail.specs.States.{description_of}
use Rattle.cmd_step.proofs.MoveLemmas.{misfit-by}
use Rattle.cmd_step.proofs.choosing.misfit.Goals as goal

pub returns-in-Some : goal.returns-in-Some
returns-in-Some c = record {
  found = λ client w moment t there has.
      misfit-by client w moment c.args.host c.in-Some.description.now c.args.running.now c.find_incompatible.new.self
      (ap (option_and_then (description_of w)) there
      ∙ ap (λ (x : Topology). map.get x.servers c.args.server.now.address) t
      ∙ ap (map.get c.args.topology.now.servers) (sym c.host.ensures.address)
      ∙ sym c.find.ensures.value
      ∙ ap option_copied c.in-Some.is)
      (c.find_incompatible.ensures.failed w moment
      ∙ ap (λ n. with_event (event.Incompatible c.args.host n (to_z w32 (of_z w32 c.max_wire-max.result))) (look_by w moment (looked.Incompatible c.args.host) c.args.running.now))
      (to_z-of_z w32 c.min_wire-min.result (record { sfits = c.min_wire-min.type_inv }) ∙ c.min_wire-min.ensures)
      ∙ ap (λ n. with_event (event.Incompatible c.args.host c.in-Some.description.now.min_wire n) (look_by w moment (looked.Incompatible c.args.host) c.args.running.now))
      (to_z-of_z w32 c.max_wire-max.result (record { sfits = c.max_wire-max.type_inv }) ∙ c.max_wire-max.ensures));
}
