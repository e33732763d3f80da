use Rattle.std.proofs.Common.{◌≡◌, ◌<◌, HoldsAt, sym, ap, subst, ◌∙◌}
use Rattle.std.specs.FinMap as map
use Rattle.hello_reply.specs.declared.server_description.ServerDescription.{ServerDescription}
use Rattle.topo_rules.proofs.HostTables.{len-seen, values-seen}
use Rattle.topo_rules.proofs.servers.Servers.place.Goals as goal

pub returns-in-Some-clause-found : goal.returns-in-Some-clause-found
returns-in-Some-clause-found c =
    subst (λ ds. HoldsAt (λ (d : ServerDescription). d.host ≡ c.args.host.now) ds c.in-Some.place) (sym (values-seen c.rows.result.now c.rows.ensures.order) ∙ ap (λ m. map.values m) c.rows.ensures.seen) c.in-Some.ensures.found

pub returns-in-Some-clause-within : goal.returns-in-Some-clause-within
returns-in-Some-clause-within c =
    subst (λ n. c.in-Some.place < n) (sym (len-seen c.rows.result.now c.rows.ensures.order) ∙ ap (λ m. map.len m) c.rows.ensures.seen) c.in-Some.ensures.within

pub returns-in-None-clause-absent : goal.returns-in-None-clause-absent
returns-in-None-clause-absent c = ap (λ m. map.get m c.args.host.now) (sym c.rows.ensures.seen) ∙ c.in-None.ensures.absent
