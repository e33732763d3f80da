use Rattle.std.proofs.Common.{◌<◌, ◌≤◌, length, rules}
use Rattle.server_pick.specs.Objects.{Stays}
use Rattle.server_pick.proofs.AskLemmas.{asking_goes_on, asking_ends}
use Rattle.server_pick.proofs.objects.ask_any_all.Goals as goal

pub loop-place-preserved : goal.loop-place-preserved
loop-place-preserved g c =
    let within : c.loop-place.place < length c.args.candidates.items = search rules in
    asking_goes_on (λ p. (goal.Picker-dyn g p).allows p.1) (Stays (λ p. (goal.Picker-dyn g p).follows p.1)) _ _ _ _ _ _ _ c.loop-place.invariant within c.ask_any_first.ensures

pub returns : goal.returns
returns g c =
    let past : length c.args.candidates.items ≤ c.loop-place.place = search rules in
    asking_ends (λ p. (goal.Picker-dyn g p).allows p.1) (Stays (λ p. (goal.Picker-dyn g p).follows p.1)) _ _ _ _ _ _ c.loop-place.invariant past c.into_vec.ensures.items
