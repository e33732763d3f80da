use Rattle.std.proofs.Common.{List, ap, arith, false, get_or, length, sym, ◌∙◌}
use Rattle.std.specs.Prelude.{Bool}
use Rattle.member_core.proofs.ShareLemmas.{length-entries, length-marks, mark-none, mark-same, mark-set, mark-shared, place-within, shared-self}
use Rattle.member_core.specs.declared.log.LogEntry.{LogEntry}
use Rattle.member_core.proofs.kept_log.KeptLog.mark.Goals as goal

pub bounds-marks-place : goal.bounds-marks-place
bounds-marks-place c =
    omega (arith, place-within c.args.self.now c.args.key.now c.in-Some.place c.in-Some.ensures.place, length-marks c.args.self.now, ap (λ (l : List Bool). length l) c.marks.ensures)

pub set_mark-requires : goal.set_mark-requires
set_mark-requires c = place-within c.args.self.now c.args.key.now c.in-Some.place c.in-Some.ensures.place

pub returns-in-None : goal.returns-in-None
returns-in-None c = record {
  marked = mark-none c.args.key.now c.args.self.now c.in-None.ensures.place;
  kept = shared-self c.len-count.result c.args.self.now (omega (arith, c.len-count.ensures.count, ap (λ (l : List LogEntry). length l) c.entries.ensures.value, length-entries c.args.self.now));
}

pub returns-then-marks-place : goal.returns-then-marks-place
returns-then-marks-place c = record {
  marked =
      mark-same c.args.key.now c.args.self.now c.in-Some.place false c.in-Some.ensures.place
      (ap (λ (l : List Bool). get_or l c.in-Some.place false) (sym c.marks.ensures) ∙ c.if-marks-place.true);
  kept = shared-self c.len-count.result c.args.self.now (omega (arith, c.len-count.ensures.count, ap (λ (l : List LogEntry). length l) c.entries.ensures.value, length-entries c.args.self.now));
}

pub returns-else-marks-place : goal.returns-else-marks-place
returns-else-marks-place c = record {
  marked = mark-set c.args.key.now c.args.self.now c.set_mark.new.self c.in-Some.place c.in-Some.ensures.place c.set_mark.ensures;
  kept = mark-shared c.args.self.now c.set_mark.new.self c.in-Some.place (place-within c.args.self.now c.args.key.now c.in-Some.place c.in-Some.ensures.place) c.set_mark.ensures;
}
