use Rattle.server_pick.proofs.AskLemmas.{Asking}
use Rattle.server_pick.proofs.asking.ask_all.Given as goal

abbrev pub invariant-loop-place : goal.invariant-loop-place
invariant-loop-place g l =
    Asking g.P.Picker.allows g.P.Picker.follows l.fn.picker l.fn.candidates.items l.place l.picker l.left.items
