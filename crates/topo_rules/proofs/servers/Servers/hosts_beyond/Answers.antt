use Rattle.std.proofs.Common.{◌≤◌, length, ap, ◌∙◌, arith, filter, not, is_some, take_all}
use Rattle.std.proofs.lemmas.Map.Entries.{length-keys_of}
use Rattle.std.specs.FinMap as map
use Rattle.topo_rules.proofs.Lists.{beyond-more}
use Rattle.topo_rules.proofs.servers.Servers.hosts_beyond.Goals as goal

pub loop-place-preserved : goal.loop-place-preserved
loop-place-preserved c =
    c.in_ok-note_beyond.ensures ∙ beyond-more c.args.self.now c.args.other.now c.loop-place.place c.loop-place.hosts c.loop-place.invariant

pub returns : goal.returns
returns c =
    let past : length (map.keys c.args.self.now) ≤ c.loop-place.place =
    omega (arith, c.len-place-end.ensures.len, map.len-entries c.args.self.now, length-keys_of (map.entries c.args.self.now)) in
    c.loop-place.invariant ∙ ap (filter (λ x. not (is_some (map.get c.args.other.now x)))) (take_all c.loop-place.place (map.keys c.args.self.now) past)
