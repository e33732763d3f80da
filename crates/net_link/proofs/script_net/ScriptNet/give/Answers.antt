use Rattle.std.proofs.Common.{◌≡◌, ◌<◌, ◌∙◌, ap, length}
use Rattle.std.proofs.lemmas.List.{get_or_read}
use Rattle.net_link.specs.Script.{gone}
use Rattle.net_link.proofs.ScriptLemmas.{IsSound-skipped}
use Rattle.net_link.proofs.script_net.ScriptNet.give.Goals as goal

pub invariant_of-self : goal.invariant_of-self
invariant_of-self c =
    let lines : c.self.inside.lines.items ≡ c.args.self.now.lines = ap (λ s. s.lines) (c.self.view_is ∙ c.in-Ok.ensures.ok) in
    let there : c.args.stream < length c.self.inside.lines.items = rw lines c.requires.number in
    rw (c.skip.ensures, get_or_read c.self.inside.lines.items c.args.stream c.index_mut-line.result.now there c.index_mut-line.ensures.value gone)
    (IsSound-skipped c.self.inside.lines.items c.args.stream c.copy_front-count.result c.self.inside.log c.self.invariant)
