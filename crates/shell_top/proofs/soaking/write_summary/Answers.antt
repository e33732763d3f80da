use Rattle.std.proofs.Common.{◌∙◌}
use Rattle.shell_top.specs.Summary.{summary_of, summary_text}
use Rattle.shell_top.proofs.RunLemmas.{writes-same}
use Rattle.shell_top.proofs.soaking.write_summary.Goals as goal

pub returns-clause-written : goal.returns-clause-written
returns-clause-written g c tells client played =
    writes-same c.write_text.result c.as_str.result.now (summary_text (summary_of client c.args.finished.now.trail c.args.finished.now.net))
    (g.K.Sink.written c.args.out.now) (g.K.Sink.written c.write_text.new.out) (c.as_str.ensures.value ∙ c.in-Ok.ensures client played) (c.write_text.ensures.written tells)
