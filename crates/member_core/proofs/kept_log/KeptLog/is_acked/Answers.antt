use Rattle.std.proofs.Common.{List, ap, arith, false, get_or, length, ◌∙◌}
use Rattle.std.specs.Prelude.{Bool}
use Rattle.member_core.proofs.ShareLemmas.{acked-nowhere, acked-place, length-marks, place-within}
use Rattle.member_core.proofs.kept_log.KeptLog.is_acked.Goals as goal

pub bounds-marks-place : goal.bounds-marks-place
bounds-marks-place c =
    omega (arith, place-within c.args.self.now c.args.key.now c.in-Some.place c.in-Some.ensures.place, length-marks c.args.self.now, ap (λ (l : List Bool). length l) c.marks.ensures)

pub returns-in-Some : goal.returns-in-Some
returns-in-Some c =
    ap (λ (l : List Bool). get_or l c.in-Some.place false) c.marks.ensures ∙ acked-place c.args.self.now c.args.key.now c.in-Some.place false c.in-Some.ensures.once c.in-Some.ensures.place

pub returns-in-None : goal.returns-in-None
returns-in-None c = acked-nowhere c.args.self.now c.args.key.now c.in-None.ensures.place
