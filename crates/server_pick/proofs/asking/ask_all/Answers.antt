use Rattle.std.proofs.Common.{◌<◌, ◌≤◌, length, rules}
use Rattle.server_pick.proofs.AskLemmas.{asking_begins, asking_left, asking_goes_on, asking_ends}
use Rattle.server_pick.proofs.asking.ask_all.Goals as goal

pub loop-place-init : goal.loop-place-init
loop-place-init g c = asking_begins g.P.Picker.allows g.P.Picker.follows _ _ _ (search rules)

pub ask_first-requires : goal.ask_first-requires
ask_first-requires g c =
    let within : c.loop-place.place < length c.args.candidates.items = search rules in
    (search rules, asking_left g.P.Picker.allows g.P.Picker.follows _ _ _ _ _ c.loop-place.invariant within)

pub loop-place-preserved : goal.loop-place-preserved
loop-place-preserved g c =
    let within : c.loop-place.place < length c.args.candidates.items = search rules in
    asking_goes_on g.P.Picker.allows g.P.Picker.follows _ _ _ _ _ _ _ c.loop-place.invariant within c.ask_first.ensures

pub returns : goal.returns
returns g c =
    let past : length c.args.candidates.items ≤ c.loop-place.place = search rules in
    asking_ends g.P.Picker.allows g.P.Picker.follows _ _ _ _ _ _ c.loop-place.invariant past c.into_vec.ensures.items
