use Rattle.std.proofs.Common.{sym, ap, subst, ◌∙◌}
use Rattle.std.specs.Arc.{arc_value}
use Rattle.std.specs.Option.{option_or}
use Rattle.hello_reply.specs.declared.server_description.ServerDescription.{ServerDescription}
use Rattle.topo_rules.specs.Rules.{name_differs}
use Rattle.topo_rules.specs.Outcomes.{PutsAt, name_by}
use Rattle.topo_rules.proofs.OutcomeLemmas.{without_primary-makes}
use Rattle.topo_rules.proofs.topology.Topology.update_rs_without_primary.Goals as goal

pub returns : goal.returns
returns c =
    let d = arc_value c.args.description.now in
    record {
      makes = c.with_edit.ensures.makes
          ∙ without_primary-makes c.args.self.now d c.args.kind (name_by c.args.self.now.set_name c.in_ok-name.name) c.in_ok-servers.servers (c.in_ok-name.ensures ∙ ap (λ (z : ServerDescription). option_or c.args.self.now.set_name z.set_name) c.deref-2.ensures) c.in_ok-servers.ensures (ap (λ (z : ServerDescription). name_differs c.args.self.now.set_name z.set_name) (sym c.deref.ensures) ∙ sym c.name_differs.ensures ∙ c.if-name_differs.false);
      puts = subst (PutsAt d.host) (sym c.with_edit.ensures.edit) tt;
    }
