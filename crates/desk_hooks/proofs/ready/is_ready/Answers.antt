use Rattle.std.proofs.Common.{◌≡◌, ◌+◌, ◌-◌, ℕ, None, Some, take, sym, ap, ◌∙◌, subst, arith}
use Rattle.std.specs.Prelude.{unwrap_or}
use Rattle.desk_trail.specs.declared.step.Step.{Step}
use Rattle.desk_trail.specs.Facts.{facts_of}
use Rattle.desk_hooks.specs.Telling.{ready_behind}
use Rattle.trail_events.specs.Told.{is_ready}
use Rattle.desk_hooks.proofs.TellingLemmas.{ready-next}
use Rattle.desk_hooks.proofs.ready.is_ready.Goals as goal

pub returns-in-Some : goal.returns-in-Some
returns-in-Some c = λ lists.
    let place = c.looking.place - 1 in
    let steps = c.args.steps.now in
    let up : place + 1 ≡ c.looking.place = omega arith in
    sym (c.looking.invariant.same lists ∙ ap (λ (k : ℕ). is_ready c.args.host (facts_of lists (take k steps))) (sym up)
    ∙ ready-next lists steps place c.args.host c.index-steps-place.result (Some c.in-Some.ready) (omega arith) c.index-steps-place.is
    (λ was. subst (λ (s : Step). unwrap_or (Some c.in-Some.ready) was ≡ ready_behind lists c.args.host was s.entry) (sym c.index-steps-place.is) (c.in-Some.ensures lists was)))

pub looking-preserved : goal.looking-preserved
looking-preserved c =
    let place = c.looking.place - 1 in
    let steps = c.args.steps.now in
    let up : place + 1 ≡ c.looking.place = omega arith in
    record {
      within = omega arith;
      same = λ lists.
          c.looking.invariant.same lists ∙ ap (λ (k : ℕ). is_ready c.args.host (facts_of lists (take k steps))) (sym up)
          ∙ ready-next lists steps place c.args.host c.index-steps-place.result None (omega arith) c.index-steps-place.is
          (λ was. subst (λ (s : Step). unwrap_or None was ≡ ready_behind lists c.args.host was s.entry) (sym c.index-steps-place.is) (c.in_default.ensures lists was));
    }
