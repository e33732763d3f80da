use Rattle.std.proofs.Common.{◌≡◌, rules}
use Rattle.shell_top.specs.Report.{report_by}
use Rattle.shell_top.proofs.RunLemmas.{writes-same}
use Rattle.shell_top.proofs.running.write_report.Goals as goal

pub returns-clause-written : goal.returns-clause-written
returns-clause-written g c tells =
    let whole : c.as_str.result.now ≡ report_by c.args.finished.now.settings.warnings c.args.finished.now.trail.names c.args.tallies.now = search rules in
    writes-same c.write_text.result c.as_str.result.now (report_by c.args.finished.now.settings.warnings c.args.finished.now.trail.names c.args.tallies.now)
    (g.K.Sink.written c.args.out.now) (g.K.Sink.written c.write_text.new.out) whole (c.write_text.ensures.written tells)
