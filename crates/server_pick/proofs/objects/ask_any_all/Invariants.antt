use Rattle.server_pick.specs.Objects.{Stays}
use Rattle.server_pick.proofs.AskLemmas.{Asking}
use Rattle.server_pick.proofs.objects.ask_any_all.Given as goal

abbrev pub invariant-loop-place : goal.invariant-loop-place
invariant-loop-place g l =
    Asking (λ p. (goal.Picker-dyn g p).allows p.1) (Stays (λ p. (goal.Picker-dyn g p).follows p.1)) l.fn.picker.now l.fn.candidates.items l.place l.picker.now l.left.items
