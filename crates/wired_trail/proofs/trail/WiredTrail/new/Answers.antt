use Rattle.wired_trail.proofs.FaultLemmas.{counted-nothing}
use Rattle.wired_trail.proofs.KeptLemmas.{kept-new}
use Rattle.wired_trail.proofs.LineLemmas.{HasLines-new}
use Rattle.wired_trail.proofs.trail.WiredTrail.new.Goals as goal

pub invariant_of-result : goal.invariant_of-result
invariant_of-result g c =
    rw (c.new-2.ensures, c.new-3.ensures)
    (record {
      wires = HasLines-new (g.N.Net.is_open c.args.net) (g.N.Net.next c.args.net) c.new.result.client c.new.result.point c.new.ensures.point;
      counted = counted-nothing (g.N.Net.faults c.args.net) c.new.result.steps c.new.ensures.steps;
      told = λ t. kept-new (g.N.Net.history c.args.net) (g.N.Net.next c.args.net) c.new.result (c.requires.fresh t) c.new.ensures.steps;
    })
