use Rattle.std.proofs.Common.{[], List, ap, arith, subst, ◌∙◌}
use Rattle.std.specs.Prelude.{slice_get}
use Rattle.desk_trail.specs.Clients.{Client}
use Rattle.desk_trail.specs.declared.step.Step.{Step}
use Rattle.trail_tally.specs.Tallies.{AreTallies, tallies_of}
use Rattle.shell_top.proofs.GoingLemmas.{appended-to, on-ok, some-stays, told-on}
use Rattle.shell_top.proofs.playing.play.Goals as goal

pub drive-driven-requires-clause-told : goal.drive-driven-requires-clause-told
drive-driven-requires-clause-told g c κs within = record {
  each = subst (λ (l : List Step). AreTallies l c.note.new.tallies) c.steps.ensures.value (c.note.ensures.each [] c.requires.fresh);
  count = c.note.ensures.count ∙ c.requires.count;
}

pub returns-clause-answered : goal.returns-clause-answered
returns-clause-answered g c = λ ok op command there.
    let all = on-ok _ c.drive-driven.ensures.answered ok in
    let grown = c.close-ended.ensures.steps in
    some-stays c.an_answer_stays.ensures op c.drive-driven.new.desk.desk.trail.steps c.close-ended.result.finished.trail.steps grown.0 grown.1
    (all op command (ap (λ (k : Client). slice_get k.commands op) c.steps-behind.ensures.client ∙ there))

pub returns-clause-told : goal.returns-clause-told
returns-clause-told g c =
    let told = c.drive-driven.ensures.told in
    let was = c.drive-driven.new.desk.desk.trail in
    let steps = c.close-ended.result.finished.trail.steps in
    let grown = c.close-ended.ensures.steps in
    let behind = appended-to c.len-count.result c.steps-behind.result.now c.as_slice.result.now was.steps steps c.len-count.ensures.count c.steps-behind.ensures.value c.as_slice.ensures.value in
    let are = told-on was.steps steps grown.0 _ c.drive-driven.new.tallies c.note-2.new.tallies grown.1 behind c.note-2.ensures.each told.each in
    c.tallies_are_those_of_the_trail.ensures was.client.commands steps c.note-2.new.tallies are (c.note-2.ensures.count ∙ told.count) (omega (arith, c.len-count.ensures.count))
    ∙ ap (λ (k : Client). tallies_of k.commands steps) c.steps-behind.ensures.client
