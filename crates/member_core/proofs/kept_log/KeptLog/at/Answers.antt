use Rattle.std.proofs.Common.{List, Some, ap, arith, false, get_or, length, sym, ◌∙◌}
use Rattle.std.proofs.lemmas.Option.{slice_get_past}
use Rattle.std.specs.Prelude.{Bool, slice_get}
use Rattle.member_core.specs.declared.log.LogEntry.{LogEntry}
use Rattle.member_core.proofs.PlaceLemmas.{some_entry}
use Rattle.member_core.proofs.ShareLemmas.{at-zip, length-of}
use Rattle.member_core.proofs.kept_log.KeptLog.at.Goals as goal

pub returns-then-place-len : goal.returns-then-place-len
returns-then-place-len c =
    let count = length-of c.self.inside.entries c.self.inside.marks.items c.args.self.now c.self.view_is c.self.invariant.marks in
    sym (slice_get_past c.args.self.now c.args.place (omega (arith, count, c.len.ensures.count)))

pub bounds-as_slice-place : goal.bounds-as_slice-place
bounds-as_slice-place c = omega (arith, ap (λ (l : List LogEntry). length l) c.as_slice.ensures.value, c.len.ensures.count)

pub bounds-as_slice-place-2 : goal.bounds-as_slice-place-2
bounds-as_slice-place-2 c = omega (arith, ap (λ (l : List Bool). length l) c.as_slice-2.ensures.value, c.len.ensures.count, c.self.invariant.marks)

pub returns : goal.returns
returns c =
    let entry = ap (λ (l : List LogEntry). get_or l c.args.place some_entry) c.as_slice.ensures.value in
    let mark = ap (λ (l : List Bool). get_or l c.args.place false) c.as_slice-2.ensures.value in
    (λ i. Some (entry i, mark i))
    ∙ at-zip c.self.inside.entries c.self.inside.marks.items c.args.place some_entry false c.self.invariant.marks (omega (arith, c.len.ensures.count))
    ∙ ap (λ l. slice_get l c.args.place) c.self.view_is
