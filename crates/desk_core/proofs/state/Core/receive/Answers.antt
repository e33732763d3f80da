use Rattle.std.proofs.Common.{◌≡◌, ◌+◌, refl, sym, ap, ◌∙◌, subst}
use Rattle.std.specs.Option.{IfSome}
use Rattle.desk_trail.specs.Clients.{Client, socket_limit}
use Rattle.desk_trail.specs.States.{CommandState}
use Rattle.desk_core.proofs.AppendsLemmas.{grown-same}
use Rattle.desk_core.proofs.state.Core.receive.Goals as goal

pub returns-in_err-asked-clause-appends : goal.returns-in_err-asked-clause-appends
returns-in_err-asked-clause-appends g c =
    grown-same c.args.moment c.args.self.now.trail c.args.self.now.trail refl refl refl

pub returns-in_err-limit-clause-appends : goal.returns-in_err-limit-clause-appends
returns-in_err-limit-clause-appends g c =
    grown-same c.args.moment c.args.self.now.trail c.args.self.now.trail refl refl refl

pub await_reply-requires-clause-until : goal.await_reply-requires-clause-until
await_reply-requires-clause-until g c =
    let asked = c.in_ok-asked.asked in
    let limits =
    subst (λ o. IfSome o (λ limit. (client : Client) → client.settings ≡ c.settings.result.now → limit ≡ asked + socket_limit client)) c.in_ok-limit.ensures.ok_part
    c.reply_limit.ensures.limit in (
      asked,
      sym (ap (λ (x : CommandState). x.asked) c.operation.view_is) ∙ sym c.asked.ensures.asked ∙ c.in_ok-asked.ensures.ok_part,
      limits c.args.self.now.trail.client (rw (← c.self.view_is) (sym c.settings.ensures.value)),
    )
