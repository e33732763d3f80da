use Rattle.std.proofs.Common.{◌≤◌, ap, ◌∙◌, arith, filter, length, map, rules, take_all}
use Rattle.std.proofs.lemmas.List.{length-map}
use Rattle.std.specs.FinMap as table
use Rattle.host_name.specs.Addresses.{Address}
use Rattle.hello_reply.specs.declared.server_description.ServerDescription.{ServerDescription}
use Rattle.server_pick.specs.Candidates.{candidate_of}
use Rattle.server_pick.specs.Sieves.{passes}
use Rattle.server_pick.proofs.SieveLemmas.{gathered_next, gathered_past}
use Rattle.server_pick.proofs.gathering.gather.Goals as goal
use Rattle.server_pick.proofs.gathering.gather.Goals.{in-Some+in_ok-note, in_default}

pub loop-place-preserved : goal.loop-place-preserved
loop-place-preserved g c =
    elim c.match-at.branch [
      | in-Some+in_ok-note w ↦
          (λ i. (w.candidates-is i).items)
          ∙ gathered_next (g.L.Loads.load c.args.loads.now) (passes c.args.sieve.now) (table.values c.args.topology.now.servers) c.loop-place.place _ _ _ w.in-Some.ensures.value c.loop-place.invariant w.in_ok-note.ensures
      | in_default w ↦ search (rules, gathered_past)
    ]

pub returns-clause-candidates : goal.returns-clause-candidates
returns-clause-candidates g c =
    let past : length (table.values c.args.topology.now.servers) ≤ c.loop-place.place =
    omega (arith, c.len-place-end.ensures.len, table.len-entries c.args.topology.now.servers, length-map (table.entries c.args.topology.now.servers) (λ (e : Address × ServerDescription). e.1)) in
    c.loop-place.invariant ∙ ap (λ xs. map (candidate_of (g.L.Loads.load c.args.loads.now)) (filter (passes c.args.sieve.now) xs)) (take_all c.loop-place.place (table.values c.args.topology.now.servers) past)
