use Rattle.std.proofs.Common.{sym, ap, subst, ◌∙◌}
use Rattle.std.specs.Arc.{arc_value}
use Rattle.std.specs.FinMap as map
use Rattle.hello_reply.specs.declared.server_description.ServerDescription.{ServerDescription}
use Rattle.topo_rules.specs.Outcomes.{PutsAt, kind_by}
use Rattle.topo_rules.proofs.OutcomeLemmas.{remove-insert}
use Rattle.topo_rules.proofs.topology.Topology.remove.Goals as goal

pub returns : goal.returns
returns c =
    let d = arc_value c.args.description.now in
    record {
      makes = c.with_edit.ensures.makes
          ∙ ap (λ m. record c.args.self.now { kind = kind_by c.args.kind m; servers = m }) (c.in_ok-servers.ensures ∙ ap (λ (z : ServerDescription). map.remove c.args.self.now.servers z.host) c.deref.ensures ∙ sym (remove-insert c.args.self.now.servers d.host d));
      puts = subst (PutsAt d.host) (sym c.with_edit.ensures.edit) tt;
    }
