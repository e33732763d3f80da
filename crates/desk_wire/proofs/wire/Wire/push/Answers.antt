use Rattle.std.proofs.Common.{rules}
use Rattle.net_link.specs.declared.net.Wrote.TheVariants as wrote
use Rattle.net_link.proofs.KeepsLemmas.{Keeps-trans}
use Rattle.desk_wire.proofs.PushLemmas.{Pushes-next}
use Rattle.desk_wire.proofs.wire.Wire.push.Goals as goal

pub pushing-preserved : goal.pushing-preserved
pushing-preserved g c = record {
  kept = search rules;
  sends =
      Pushes-next g.N.Net.tells _ c.pushing.self c.push_some.new.self (wrote.Took c.in-Took.field-0) _ _ _ (search rules) c.pushing.invariant.kept c.in-Took.ensures.after c.in-Took.ensures.told
      c.pushing.invariant.sends;
  later = search rules;
  keeps = Keeps-trans c.pushing.invariant.keeps c.in-Took.ensures.keeps;
}

pub returns-in-NotYet-clause-sends : goal.returns-in-NotYet-clause-sends
returns-in-NotYet-clause-sends g c =
    Pushes-next g.N.Net.tells _ c.pushing.self c.push_some.new.self wrote.NotYet _ _ _ (search rules) c.pushing.invariant.kept c.in-NotYet.ensures.after c.in-NotYet.ensures.told
    c.pushing.invariant.sends

pub returns-in-Failed-clause-sends : goal.returns-in-Failed-clause-sends
returns-in-Failed-clause-sends g c =
    Pushes-next g.N.Net.tells _ c.pushing.self c.push_some.new.self wrote.Failed _ _ _ (search rules) c.pushing.invariant.kept c.in-Failed.ensures.after c.in-Failed.ensures.told
    c.pushing.invariant.sends

pub returns-in-Memory-clause-sends : goal.returns-in-Memory-clause-sends
returns-in-Memory-clause-sends g c =
    Pushes-next g.N.Net.tells _ c.pushing.self c.push_some.new.self wrote.Memory _ _ _ (search rules) c.pushing.invariant.kept c.in-Memory.ensures.after c.in-Memory.ensures.told
    c.pushing.invariant.sends
