use Rattle.std.proofs.Common.{◌≡◌, ◌∙◌, ap, sym}
use Rattle.member_hall.specs.Halls.{HallState, IsLive, line_at}
use Rattle.member_hall.proofs.hall.Hall.is_open.Goals as goal

pub returns : goal.returns
unfolding IsLive
returns c =
    let is : c.is_open.result ≡ (line_at c.args.self.now.lines c.args.stream).live = c.is_open.ensures ∙ ap (λ (h : HallState). (line_at h.lines c.args.stream).live) c.self.view_is in
    (λ yes. sym is ∙ yes, λ live. is ∙ live)
