-- The next number is above the others.
use Rattle.std.proofs.Common.{arith, refl}
use Rattle.wait_line.specs.RisingLaws.{Rises-push}
use Rattle.wait_line.proofs.wait_line.WaitLine.enter.Goals as goal

pub invariant_of-self-2 : goal.invariant_of-self-2
invariant_of-self-2 c =
    rw c.in_ok-push_back.ensures.items (Rises-push (λ n. n) 0 c.self.inside.waiting.items c.self.inside.given c.self.inside.given c.self.invariant (omega arith) refl)
