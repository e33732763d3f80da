use Rattle.std.proofs.Common.{ap, ◌∙◌, sym}
use Rattle.std.specs.Prelude.{slice_get}
use Rattle.desk_core.proofs.AppendsLemmas.{Appends-refl}
use Rattle.desk_core.proofs.state.Core.finish.Goals.{then-not-stopped, else-not-stopped}
use Rattle.desk_core.proofs.state.Core.finish.Goals as goal

pub end_client-requires-clause-idle : goal.end_client-requires-clause-idle
end_client-requires-clause-idle g c = λ x s e.
    let kept = (c.self.invariant.leads c.if-not-stopped.true).kept x s (sym (ap (λ l. slice_get l x) c.deref.ensures.value) ∙ e) in
    kept.paid

pub returns-clause-grown : goal.returns-clause-grown
returns-clause-grown g c =
    rw (← c.self.view_is)
    (elim c.if-not-stopped.branch [
      | then-not-stopped w ↦
          (c.if-not-stopped.wired.trail, rw w.wired-is w.end_client.ensures.appends, c.finish.ensures.lists, c.finish.ensures.steps)
      | else-not-stopped w ↦
          (c.if-not-stopped.wired.trail, rw w.wired-is (Appends-refl c.args.moment c.self.inside.wired.trail), c.finish.ensures.lists, c.finish.ensures.steps)
    ])
