use Rattle.std.proofs.Common.{◌≡◌, IsSome, nat_le, List, length, map, sym, ap, ◌∙◌, subst, arith}
use Rattle.std.proofs.lemmas.List.{length-map}
use Rattle.std.specs.FinMap as map
use Rattle.std.specs.List.{All}
use Rattle.host_name.specs.Addresses.{Address}
use Rattle.topo_rules.specs.declared.topology.Topology.{Topology}
use Rattle.server_pick.specs.Candidates.{candidates}
use Rattle.server_pick.specs.Picks.{picks}
use Rattle.server_pick.specs.Runs.{Runs}
use Rattle.server_pick.specs.declared.candidate.Candidate.{Candidate}
use Rattle.server_pick.specs.declared.picked.Picked.{Picked}
use Rattle.desk_trail.specs.Clients.{threshold}
use Rattle.desk_trail.specs.Looks.{Concludes, load_of}
use Rattle.server_look.specs.Loads.{count_by}
use Rattle.server_look.specs.Told.{HasNumber, TellsOf}
use Rattle.server_look.proofs.CandidateLemmas.{all-candidates, fewer-candidates}
use Rattle.server_look.proofs.KeptLemmas.{kept-all, kept-fewer, run-kept}
use Rattle.server_look.proofs.LookLemmas.{concludes, described, loads, tells, timely-of, values-count, values-named, values-there}
use Rattle.server_look.proofs.looking.look.Goals as goal

pub told-how-requires : goal.told-how-requires
told-how-requires g c =
    let input = c.args.input in
    let criteria = c.criteria_of-criteria.result in
    let load = count_by input.servers.now input.in_flight.now in
    let kept = c.pick_by-picked.new.kept in
    let all = values-named input.topology.now.servers input.servers.now c.len.ensures.hosts c.requires.named in
    let run = c.pick_by-picked.ensures.run c.in_default.not-Memory in
    let some = run-kept g.P.Picker.allows g.P.Picker.follows c.args.picker.now c.pick_by-picked.new.picker (candidates input.topology.now criteria load) kept run in
    let named = kept-all (HasNumber input.servers.now) kept (map (λ (d : Candidate). d.host) (candidates input.topology.now criteria load)) some
    (all-candidates (HasNumber input.servers.now) input.topology.now criteria load all) in
    record {
      few = c.requires.few;
      tells = subst (TellsOf (HasNumber input.servers.now)) (sym (c.pick_by-picked.ensures.answer c.in_default.not-Memory))
          (tells (HasNumber input.servers.now) input.topology.now.servers criteria.threshold_micros kept load c.args.asking.words.0 c.args.asking.words.1 all named);
    }

pub numbers_of-kept-requires : goal.numbers_of-kept-requires
numbers_of-kept-requires g c =
    let input = c.args.input in
    let criteria = c.criteria_of-criteria.result in
    let load = count_by input.servers.now input.in_flight.now in
    let kept = c.pick_by-picked.new.kept in
    let all = values-named input.topology.now.servers input.servers.now c.len.ensures.hosts c.requires.named in
    let run = c.pick_by-picked.ensures.run c.in_default.not-Memory in
    let some = run-kept g.P.Picker.allows g.P.Picker.follows c.args.picker.now c.pick_by-picked.new.picker (candidates input.topology.now criteria load) kept run in
    let named = kept-all (HasNumber input.servers.now) kept (map (λ (d : Candidate). d.host) (candidates input.topology.now criteria load)) some
    (all-candidates (HasNumber input.servers.now) input.topology.now criteria load all) in
    record {
      few = c.requires.few;
      named = subst (All (HasNumber input.servers.now)) (sym c.as_slice.ensures.value) named;
      empty = c.reserve.ensures.items ∙ c.new-numbers.ensures.empty;
      room = omega (
        arith,
        kept-fewer kept (map (λ (d : Candidate). d.host) (candidates input.topology.now criteria load)) some,
        length-map (candidates input.topology.now criteria load) (λ (d : Candidate). d.host),
        fewer-candidates input.topology.now criteria load,
        values-count input.topology.now.servers,
        c.in_ok-reserve.ensures.room,
        c.len.ensures.len,
        ap length c.as_slice.ensures.value,
      );
    }

pub returns : goal.returns
returns g c =
    let input = c.args.input in
    let asking = c.args.asking in
    let criteria = c.criteria_of-criteria.result in
    let load = count_by input.servers.now input.in_flight.now in
    let kept = c.as_slice.result.now in
    let run : Runs g.P.Picker.allows g.P.Picker.follows c.args.picker.now (candidates input.topology.now criteria load) kept c.pick_by-picked.new.picker =
    subst (λ (ks : List Address). Runs g.P.Picker.allows g.P.Picker.follows c.args.picker.now (candidates input.topology.now criteria load) ks c.pick_by-picked.new.picker)
    (sym c.as_slice.ensures.value) (c.pick_by-picked.ensures.run c.in_default.not-Memory) in
    let answer : c.pick_by-picked.result ≡ picks input.topology.now.servers criteria.threshold_micros kept load asking.words.0 asking.words.1 =
    c.pick_by-picked.ensures.answer c.in_default.not-Memory
    ∙ ap (λ (ks : List Address). picks input.topology.now.servers criteria.threshold_micros ks load asking.words.0 asking.words.1) (sym c.as_slice.ensures.value) in
    record {
      looks = λ client w op of by.
          let asks = c.criteria_of-criteria.ensures.asks client w of in
          let same = loads w input.servers.now input.in_flight.now of.servers of.counts in
          let shown : candidates input.topology.now criteria load ≡ candidates w.topology criteria (load_of w) =
          ap (λ (t : Topology). candidates t criteria load) (sym of.topology) ∙ ap (candidates w.topology criteria) same in
          let told : c.pick_by-picked.result ≡ picks w.topology.servers (threshold client) kept (load_of w) asking.words.0 asking.words.1 =
          answer
          ∙ ap (λ (t : Topology). picks t.servers criteria.threshold_micros kept load asking.words.0 asking.words.1) (sym of.topology)
          ∙ ap (λ n. picks w.topology.servers n kept load asking.words.0 asking.words.1) asks.within
          ∙ ap (λ l. picks w.topology.servers (threshold client) kept l asking.words.0 asking.words.1) same in
          record {
            command = asking.command.now;
            given = by.given;
            running = asking.running.now;
            there = by.there;
            criteria = criteria;
            asks = asks;
            addresses = kept;
            numbers = c.numbers_of-kept.ensures.numbers w of.servers;
            sublist = run-kept g.P.Picker.allows g.P.Picker.follows c.args.picker.now c.pick_by-picked.new.picker (candidates w.topology criteria (load_of w)) kept
                (subst (λ (cs : List Candidate). Runs g.P.Picker.allows g.P.Picker.follows c.args.picker.now cs kept c.pick_by-picked.new.picker) shown run);
            concludes = subst (λ (p : Picked). Concludes client w asking.running.now asking.moment p c.told-how.result) told
                (concludes client w input.servers.now asking.running.now asking.moment c.deadline.result c.pick_by-picked.result c.told-how.result of.servers
                (c.deadline.ensures.client client of.settings)
                (timely-of client w input.settings.now input.servers.now asking.running.now asking.moment of.settings of.servers c.requires.timely) c.told-how.ensures.says);
          };
      run = λ client w of.
          let same = loads w input.servers.now input.in_flight.now of.servers of.counts in
          let shown : candidates input.topology.now criteria load ≡ candidates w.topology criteria (load_of w) =
          ap (λ (t : Topology). candidates t criteria load) (sym of.topology) ∙ ap (candidates w.topology criteria) same in
          record {
            criteria = criteria;
            asks = c.criteria_of-criteria.ensures.asks client w of;
            addresses = kept;
            numbers = c.numbers_of-kept.ensures.numbers w of.servers;
            run = subst (λ (cs : List Candidate). Runs g.P.Picker.allows g.P.Picker.follows c.args.picker.now cs kept c.pick_by-picked.new.picker) shown run;
          };
      described =
          let all = values-there input.topology.now.servers c.len.ensures.hosts in
          let some = run-kept g.P.Picker.allows g.P.Picker.follows c.args.picker.now c.pick_by-picked.new.picker (candidates input.topology.now criteria load) kept run in
          let there = kept-all (λ (a : Address). IsSome (map.get input.topology.now.servers a)) kept (map (λ (d : Candidate). d.host) (candidates input.topology.now criteria load)) some
          (all-candidates (λ (a : Address). IsSome (map.get input.topology.now.servers a)) input.topology.now criteria load all) in
          let told = subst (TellsOf (λ (a : Address). IsSome (map.get input.topology.now.servers a))) (sym answer)
          (tells (λ (a : Address). IsSome (map.get input.topology.now.servers a)) input.topology.now.servers criteria.threshold_micros kept load asking.words.0 asking.words.1 all there) in
          described input.topology.now.servers input.servers.now c.pick_by-picked.result (nat_le c.deadline.result asking.moment) c.told-how.result told c.told-how.ensures.says;
      unasked = tt;
    }
