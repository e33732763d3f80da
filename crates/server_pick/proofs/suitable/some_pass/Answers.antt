use Rattle.std.proofs.Common.{◌≤◌, sym, ap, ◌∙◌, arith, length}
use Rattle.std.proofs.lemmas.List.{drop_all, length-map}
use Rattle.std.specs.FinMap as map
use Rattle.std.specs.List.{list_any}
use Rattle.host_name.specs.Addresses.{Address}
use Rattle.hello_reply.specs.declared.server_description.ServerDescription.{ServerDescription}
use Rattle.server_pick.specs.Sieves.{passes}
use Rattle.server_pick.proofs.Lists.{any_found, any_passed}
use Rattle.server_pick.proofs.suitable.some_pass.Goals as goal

pub returns-then-passes_at : goal.returns-then-passes_at
returns-then-passes_at c =
    sym (any_found (passes c.args.sieve.now) (map.values c.args.topology.now.servers) c.loop-place.place (sym c.passes_at.ensures ∙ c.if-passes_at.true))
    ∙ c.loop-place.invariant

pub loop-place-preserved : goal.loop-place-preserved
loop-place-preserved c =
    any_passed (passes c.args.sieve.now) (map.values c.args.topology.now.servers) c.loop-place.place (sym c.passes_at.ensures ∙ c.if-passes_at.false)
    ∙ c.loop-place.invariant

pub returns : goal.returns
returns c =
    let past : length (map.values c.args.topology.now.servers) ≤ c.loop-place.place =
    omega (arith, c.len-place-end.ensures.len, map.len-entries c.args.topology.now.servers, length-map (map.entries c.args.topology.now.servers) (λ (e : Address × ServerDescription). e.1)) in
    sym (ap (list_any (passes c.args.sieve.now)) (drop_all c.loop-place.place (map.values c.args.topology.now.servers) past)) ∙ c.loop-place.invariant
