use Rattle.std.proofs.Common.{◌<◌, ◌≤◌, ◌∙◌, ap, sym, length, arith}
use Rattle.member_hall.specs.Inside.{hall_of}
use Rattle.member_hall.specs.Lines.{LineState}
use Rattle.member_hall.proofs.Fits.{none_live}
use Rattle.member_hall.proofs.Scenes.{line_read}
use Rattle.member_hall.proofs.hall_core.HallCore.is_open.Goals as goal

pub returns-then-stream-len : goal.returns-then-stream-len
returns-then-stream-len c =
    let h = hall_of c.self.inside in
    let beyond : length h.lines ≤ c.args.stream = omega (arith, c.if-stream-len.true, c.len.ensures, c.self.inside.lines.ok.0) in
    rw (← c.self.view_is) (sym (none_live h.lines c.args.stream beyond))

pub returns : goal.returns
returns c =
    let h = hall_of c.self.inside in
    let there : c.args.stream < length h.lines = omega (arith, c.if-stream-len.false, c.len.ensures, c.self.inside.lines.ok.0) in
    rw (← c.self.view_is) (ap (λ (l : LineState). l.live) (c.line.view_is ∙ line_read h c.args.stream c.index-line.result.now there c.index-line.ensures))
