use Rattle.std.proofs.Common.{◌≡◌, ◌<◌, HoldsAt, T, sym, ap, subst, ◌∙◌}
use Rattle.std.specs.Arc.{arc_value}
use Rattle.std.specs.FinMap as map
use Rattle.host_name.specs.Addresses.{address_cmp}
use Rattle.hello_reply.specs.declared.server_description.ServerDescription.{ServerDescription}
use Rattle.topo_rules.specs.Seen.{by_host, described}
use Rattle.topo_rules.proofs.HostTables.{len-seen, values-seen}
use Rattle.topo_rules.proofs.TableOrder.{set-in_order, seen-set}
use Rattle.std.proofs.lemmas.List.{length-map}
use Rattle.topo_rules.proofs.servers.Servers.replace.Goals as goal

pub set_at-requires : goal.set_at-requires
set_at-requires c = subst (λ n. c.args.place < n) (ap (λ m. map.len m) (sym c.self.view_is) ∙ len-seen (arc_value c.self.inside.table).items c.self.invariant) c.requires.within

pub invariant_of-self : goal.invariant_of-self
invariant_of-self c = rw c.in_err-set_at.ensures.err c.self.invariant

pub invariant_of-self-2 : goal.invariant_of-self-2
invariant_of-self-2 c =
    let ds = described (arc_value c.self.inside.table).items in
    let at = subst (λ ds. HoldsAt (λ (d : ServerDescription). d.host ≡ (arc_value c.args.description).host) ds c.args.place) (ap (λ m. map.values m) (sym c.self.view_is) ∙ values-seen (arc_value c.self.inside.table).items c.self.invariant) c.requires.host in
    subst (λ ds. T (map.is_sorted address_cmp (by_host ds))) (sym c.in_ok-set_at.ensures.ok) (set-in_order (arc_value c.args.description) ds c.args.place (λ e _. at e) c.self.invariant)

pub returns-clause-ok : goal.returns-clause-ok
returns-clause-ok c =
    let items = (arc_value c.self.inside.table).items in
    let at = subst (λ ds. HoldsAt (λ (d : ServerDescription). d.host ≡ (arc_value c.args.description).host) ds c.args.place) (ap (λ m. map.values m) (sym c.self.view_is) ∙ values-seen items c.self.invariant) c.requires.host in
    let below = subst (λ n. c.args.place < n) (ap (λ m. map.len m) (sym c.self.view_is) ∙ len-seen items c.self.invariant ∙ sym (length-map items (λ s. arc_value s))) c.requires.within in
    ap (λ ds. map.from_entries {R = address_cmp} (by_host ds)) c.in_ok-set_at.ensures.ok
    ∙ seen-set (arc_value c.args.description) (described items) c.args.place below (λ e _. at e) c.self.invariant
    ∙ ap (λ m. map.insert m (arc_value c.args.description).host (arc_value c.args.description)) c.self.view_is
