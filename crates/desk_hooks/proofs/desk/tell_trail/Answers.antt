use Rattle.std.proofs.Common.{List, sym, subst}
use Rattle.desk_trail.specs.declared.step.Step.{Step}
use Rattle.desk_trail.specs.Facts.{ArePlaced, facts_of}
use Rattle.desk_trail.specs.Written.{lists_of}
use Rattle.desk_hooks.specs.Hearing.{HearMore}
use Rattle.desk_hooks.specs.Telling.{IsFront}
use Rattle.desk_hooks.proofs.desk.tell_trail.Goals as goal

pub returns : goal.returns
returns g c = λ ts placed front.
    let lists = lists_of c.args.trail.now in
    let are = c.as_slice-3.ensures.value in
    subst (λ (xs : List Step). HearMore g.L.Listener.heard g.L.Listener.leaves ts (facts_of lists xs) c.args.hooks.now c.tell_behind.new.hooks) are
    (c.tell_behind.ensures lists ts (sym c.as_slice-2.ensures.value) (subst (λ (xs : List Step). ArePlaced lists xs) (sym are) placed)
    (subst (λ (xs : List Step). IsFront ts c.args.behind lists xs) (sym are) front))
