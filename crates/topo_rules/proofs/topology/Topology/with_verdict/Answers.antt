use Rattle.std.proofs.Common.{sym, ap, ◌∙◌}
use Rattle.std.specs.Arc.{arc_value}
use Rattle.std.specs.Option.{option_or}
use Rattle.hello_reply.specs.declared.server_description.ServerDescription.{ServerDescription}
use Rattle.topo_rules.specs.Outcomes.{name_by}
use Rattle.topo_rules.specs.Rules.{check_if_has_primary, placed, taken_name, with_verdict}
use Rattle.topo_rules.proofs.OutcomeLemmas.{primary-makes}
use Rattle.topo_rules.proofs.topology.Topology.with_verdict.Goals as goal

pub returns : goal.returns
returns c =
    let d = arc_value c.args.description.now in
    record {
      makes = primary-makes c.args.self.now d c.in-Some.most (name_by c.args.self.now.set_name c.in_ok-name.name) c.in_ok-servers.servers
          (c.in_ok-name.ensures ∙ ap (λ (z : ServerDescription). option_or c.args.self.now.set_name z.set_name) c.deref.ensures) c.in_ok-servers.ensures
          ∙ ap (λ o. check_if_has_primary (with_verdict (taken_name (placed c.args.self.now d) d.set_name) d o)) (sym c.in-Some.is);
      puts = tt;
    }
