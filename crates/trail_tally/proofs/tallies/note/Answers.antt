use Rattle.std.proofs.Common.{◌≡◌, ◌+◌, ◌∷◌, ◌++◌, List, [], take, ap, ◌∙◌, sym, subst, append_assoc, arith}
use Rattle.std.proofs.lemmas.List.{take_all, take_more}
use Rattle.desk_trail.specs.declared.step.Step.{Step as TrailStep}
use Rattle.trail_tally.specs.Tallies.{AreTallies}
use Rattle.trail_tally.proofs.tallies.note.Goals as goal

pub noting-preserved : goal.noting-preserved
noting-preserved c =
    let front = take c.noting.step-index c.args.appended.now in
    let more : take (c.noting.step-index + 1) c.args.appended.now ≡ front ++ c.step-item.result ∷ [] =
    take_more c.args.appended.now c.noting.step-index c.step-item.result (omega arith) ∙ ap (λ (s : TrailStep). front ++ s ∷ []) (sym c.step-item.is) in (
      c.note_step.ensures.count ∙ c.noting.invariant.0,
      λ before are. subst (λ (xs : List TrailStep). AreTallies xs c.note_step.new.tallies)
          (append_assoc before front (c.step-item.result ∷ []) ∙ ap (λ (xs : List TrailStep). before ++ xs) (sym more))
          (c.note_step.ensures.each (before ++ front) (c.noting.invariant.1 before are)),
    )

pub returns-clause-each : goal.returns-clause-each
returns-clause-each c =
    λ before are. subst (λ (xs : List TrailStep). AreTallies (before ++ xs) c.noting.tallies) (take_all c.noting.step-index c.args.appended.now (omega arith)) (c.noting.invariant.1 before are)
