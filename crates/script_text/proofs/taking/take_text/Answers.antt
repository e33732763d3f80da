use Rattle.std.proofs.Common.{◌++◌, take, ap, sym, ◌∙◌, append_assoc, length-append, arith}
use Rattle.std.proofs.lemmas.Grind.{common_steps}
use Rattle.script_text.proofs.taking.take_text.Goals as goal

pub returns-in_default-clause-lost : goal.returns-in_default-clause-lost
returns-in_default-clause-lost g c =
    let came = take c.in-Got.count c.read.new.into in (
      c.pieces.bytes.items ++ came,
      record {
        size = grind (arith, common_steps, length-append c.pieces.bytes.items came, c.in-Got.ensures.within.1, c.read.auto.into);
        front = λ tells.
            c.pieces.invariant.front tells ∙ ap (λ x. c.pieces.bytes.items ++ x) (c.in-Got.ensures.told tells)
            ∙ sym (append_assoc c.pieces.bytes.items came (g.S.Source.left c.read.new.self));
      },
    )
