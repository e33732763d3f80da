use Rattle.std.proofs.Common.{ℕ, arith}
use Rattle.std.proofs.lemmas.List.{length-take}
use Rattle.script_text.proofs.AnswerLemmas.{Answers-lines}
use Rattle.script_text.proofs.script.read_text.Goals as goal

pub slice_bounds-line_of_end-end : goal.slice_bounds-line_of_end-end
slice_bounds-line_of_end-end c = omega (arith, length-take {A = ℕ} 16777216 c.args.text.now)

pub line_of_end-line-requires : goal.line_of_end-line-requires
line_of_end-line-requires c = omega (arith, length-take {A = ℕ} 16777216 c.args.text.now)

pub returns-clause-answers : goal.returns-clause-answers
returns-clause-answers c = Answers-lines c.read_lines.result c.args.text.now c.if-text-gt-MOST_BYTES.false c.read_lines.ensures.ok c.read_lines.ensures.stop
