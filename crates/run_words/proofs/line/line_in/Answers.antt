use Rattle.std.proofs.Common.{◌∙◌, sym}
use Rattle.clap.specs.Words.{found_of}
use Rattle.run_words.proofs.MetLemmas.{run_met, soak_met}
use Rattle.run_words.proofs.line.line_in.Goals as goal

pub returns-then-eq : goal.returns-then-eq
returns-then-eq c =
    run_met c.args.matches.now c.in_ok-name.name.now c.in_ok-uri.uri.now (found_of c.in_ok-name.values.now) c.in_ok-name.ensures.name c.in_ok-name.ensures.rows
    (sym c.eq.ensures ∙ c.if-eq.true) c.in_ok-uri.ensures

pub returns : goal.returns
returns c =
    soak_met c.args.matches.now c.in_ok-name.name.now c.in_ok-seed.seed.now c.in_ok-count.count.now (found_of c.in_ok-name.values.now) c.in_ok-name.ensures.name c.in_ok-name.ensures.rows
    (sym c.eq.ensures ∙ c.if-eq.false) c.in_ok-seed.ensures c.in_ok-count.ensures
