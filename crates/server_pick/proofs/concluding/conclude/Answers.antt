use Rattle.std.specs.Prelude.{string_capacity}
use Rattle.server_pick.proofs.PickLemmas.{chosen_has_room}
use Rattle.server_pick.proofs.concluding.conclude.Goals as goal

pub chosen-fitting-requires-clause-room : goal.chosen-fitting-requires-clause-room
chosen-fitting-requires-clause-room c =
    chosen_has_room (string_capacity c.args.room.name) c.args.threshold c.args.w1 c.args.w2 c.as_slice.result.now c.args.kept.items c.choose-best.result c.as_slice.ensures.value c.requires.name_room
    c.choose-best.ensures
