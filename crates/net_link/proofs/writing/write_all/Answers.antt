use Rattle.std.proofs.Common.{◌++◌, ◌∙◌, ap, sym, take, drop, append_assoc, arith}
use Rattle.std.proofs.lemmas.List.{take_rest}
use Rattle.std.proofs.Math.Seq.{take-add}
use Rattle.net_link.proofs.writing.write_all.Goals as goal

pub writing-preserved : goal.writing-preserved
writing-preserved g c = record {
  within = omega (arith, c.in-Took.ensures.within.1);
  later = omega (arith, c.in-Took.ensures.cause.later, c.writing.invariant.later);
  told = λ tells.
      rw take_rest at (c.in-Took.ensures.told tells)
      ∙ ap (λ l. l ++ take c.in-Took.count (drop c.writing.sent c.args.bytes.now)) (c.writing.invariant.told tells)
      ∙ append_assoc (g.K.Sink.written c.args.out.now) (take c.writing.sent c.args.bytes.now) (take c.in-Took.count (drop c.writing.sent c.args.bytes.now))
      ∙ ap (λ l. g.K.Sink.written c.args.out.now ++ l) (sym (take-add c.writing.sent c.in-Took.count c.args.bytes.now));
}
