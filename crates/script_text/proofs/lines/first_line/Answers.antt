use Rattle.std.proofs.Common.{sym, arith}
use Rattle.std.proofs.lemmas.Grind.{common_steps}
use Rattle.script_text.proofs.LineLemmas.{lines_of-feed, lines_of-no_feed}
use Rattle.script_text.proofs.lines.first_line.Goals as goal

pub returns-in-Some-clause-lines : goal.returns-in-Some-clause-lines
returns-in-Some-clause-lines c = grind (arith, common_steps, lines_of-feed c.args.text.now c.in-Some.at (sym c.in-Some.ensures.place))

pub returns-in-None-clause-lines : goal.returns-in-None-clause-lines
returns-in-None-clause-lines c = lines_of-no_feed c.args.text.now (sym c.in-None.ensures.place)
