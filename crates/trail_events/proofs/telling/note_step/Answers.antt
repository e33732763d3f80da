use Rattle.std.proofs.Common.{sym, ◌∙◌, refl}
use Rattle.desk_trail.specs.Facts.{fact_of}
use Rattle.desk_trail.specs.Written.{lists_of}
use Rattle.trail_events.proofs.ToldLemmas.{step-none, step-some}
use Rattle.trail_events.proofs.telling.note_step.Goals as goal

pub returns-in_ok-note_placed : goal.returns-in_ok-note_placed
returns-in_ok-note_placed c = λ steps was.
    let lists = lists_of c.args.trail.now in
    step-some lists steps c.args.step.now c.args.telling.now c.note_placed.new.telling (fact_of lists c.args.step.now.entry) refl
    (sym c.is_placed.ensures ∙ c.if-is_placed.true) c.in_ok-note_placed.ensures was

pub returns-else-is_placed : goal.returns-else-is_placed
returns-else-is_placed c = λ steps was.
    let lists = lists_of c.args.trail.now in
    step-none lists steps c.args.step.now c.args.telling.now (fact_of lists c.args.step.now.entry) refl (sym c.is_placed.ensures ∙ c.if-is_placed.false) was
