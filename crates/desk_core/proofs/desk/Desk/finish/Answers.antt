use Rattle.std.proofs.Common.{◌≡◌, ◌∙◌, List, ap, subst, sym}
use Rattle.entry_judge.specs.declared.timed.Timed.{Timed}
use Rattle.desk_trail.specs.declared.step.Step.{Step}
use Rattle.desk_trail.specs.Facts.{Fact, Lists, facts_of}
use Rattle.desk_trail.specs.Written.{lists_of}
use Rattle.legal_trail.specs.Recorded.{Recorded, told_in}
use Rattle.desk_core.specs.Appends.{Appends, NamesNone, Tells}
use Rattle.desk_core.proofs.desk.Desk.finish.Goals as goal

pub returns-clause-appends : goal.returns-clause-appends
returns-clause-appends g c =
    let grown = c.finish-finished.ensures.grown in
    let same = ap (λ s. s.trail) c.tick-now.ensures.same in
    rw (← c.self.view_is) (
      grown.0,
      subst (λ m. Appends ⊥ m c.self.inside.core.trail grown.0) c.tick-now.ensures.now
          (subst (λ (t : Recorded). Appends ⊥ c.tick-now.result t grown.0) same grown.1.appends.appends),
      grown.2,
      grown.3,
    )

pub returns-clause-names : goal.returns-clause-names
returns-clause-names g c =
    let grown = c.finish-finished.ensures.grown in
    let same = ap (λ s. s.trail) c.tick-now.ensures.same in
    let behind : facts_of (lists_of c.finish-finished.result.parts.trail) c.finish-finished.result.parts.trail.steps ≡ told_in grown.0 =
    ap (λ (l : Lists). facts_of l c.finish-finished.result.parts.trail.steps) grown.2 ∙ ap (λ (ss : List Step). facts_of grown.0.lists ss) grown.3 in
    rw (← c.self.view_is)
    (subst (λ (fs : List (Timed Fact)). Tells NamesNone (told_in c.self.inside.core.trail) fs) (sym behind)
    (subst (λ (t : Recorded). Tells NamesNone (told_in t) (told_in grown.0)) same grown.1.appends.tells))
