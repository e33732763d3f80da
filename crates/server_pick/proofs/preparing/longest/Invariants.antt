use Rattle.std.proofs.Common.{take}
use Rattle.std.specs.List.{All}
use Rattle.server_pick.specs.Prepared.{HasRoomAt}
use Rattle.server_pick.proofs.preparing.longest.Given as goal

abbrev pub invariant-loop-candidate : goal.invariant-loop-candidate
invariant-loop-candidate l = All (HasRoomAt l.most) (take l.candidate-index l.candidates)
