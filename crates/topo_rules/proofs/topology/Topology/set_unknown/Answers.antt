use Rattle.std.proofs.Common.{sym, ap, subst, ◌∙◌}
use Rattle.std.specs.Arc.{arc_value}
use Rattle.std.specs.FinMap as map
use Rattle.hello_reply.specs.declared.server_description.ServerDescription.{ServerDescription}
use Rattle.hello_reply.specs.Descriptions.{unknown as default_unknown_of}
use Rattle.topo_rules.specs.Outcomes.{PutsAt, kind_by, name_by}
use Rattle.topo_rules.proofs.OutcomeLemmas.{insert-insert}
use Rattle.topo_rules.proofs.topology.Topology.set_unknown.Goals as goal

pub returns : goal.returns
returns c =
    let d = arc_value c.args.description.now in
    record {
      makes = c.with_edit.ensures.makes
          ∙ ap (λ m. record c.args.self.now { kind = kind_by c.args.kind m; set_name = name_by c.args.self.now.set_name c.args.name; servers = m }) (ap (λ u. map.insert c.args.self.now.servers u.host u) c.in_ok-description.ensures ∙ ap (λ (z : ServerDescription). map.insert c.args.self.now.servers z.host (default_unknown_of z.host)) c.deref.ensures ∙ sym (insert-insert c.args.self.now.servers d.host d (default_unknown_of d.host)));
      puts = subst (PutsAt d.host) (sym c.with_edit.ensures.edit) (ap (λ (u : ServerDescription). u.host) c.in_ok-description.ensures ∙ ap (λ (z : ServerDescription). z.host) c.deref.ensures);
    }
