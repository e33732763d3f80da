use Rattle.std.proofs.Common.{ap, ◌∙◌}
use Rattle.server_pick.proofs.ObjectLemmas.{moved-next}
use Rattle.server_pick.proofs.picker.BoxDynPickerPicker.keep.Goals as goal

pub returns-clause-answer : goal.returns-clause-answer
returns-clause-answer g c = c.keep.ensures.0 ∙ ap (λ p. (g.dyn-1.0.entry p.0).1.allows p.1 c.args.candidate.now) c.as_mut.ensures.value.1

pub returns-clause-next : goal.returns-clause-next
returns-clause-next g c = moved-next (λ p d. (g.dyn-1.0.entry p.0).1.follows p.1 c.args.candidate.now d) _ _ c.as_mut.ensures.value.1 c.keep.new.self c.keep.ensures.1
