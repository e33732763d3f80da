use Rattle.std.proofs.Common.{ap}
use Rattle.net_link.proofs.ScriptLemmas.{line_at-read}
use Rattle.net_link.proofs.script_net.ScriptNet.ends.Goals as goal

pub returns : goal.returns
returns c =
    let line = line_at-read c.args.self.now.lines c.self.inside.lines.items c.args.stream c.index-line.result.now (ap (λ s. s.lines) c.self.view_is) c.requires c.index-line.ensures in
    rw (c.ends.ensures, line)
