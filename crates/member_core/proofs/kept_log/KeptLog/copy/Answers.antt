use Rattle.std.proofs.Common.{◌++◌, ◌∙◌, Bool, List, ap, arith, length, length-drop, subst, sym, take}
use Rattle.std.specs.List.{zip}
use Rattle.member_core.specs.Members.{entries}
use Rattle.member_core.specs.Places.{HasNoneTwice, marks_of}
use Rattle.member_core.specs.declared.log.LogEntry.{LogEntry}
use Rattle.member_core.proofs.ShareLemmas.{copy-entries, copy-log, length-entries, length-marks, on_ok, tail-of}
use Rattle.member_core.proofs.kept_log.KeptLog.copy.Goals as goal

pub slice_bounds-entries-start : goal.slice_bounds-entries-start
slice_bounds-entries-start c = omega (arith, ap (λ (l : List LogEntry). length l) (c.as_slice.ensures.value ∙ c.entries.ensures.value), length-entries c.args.other.now, c.requires.within_other)

pub slice_bounds-marks-start : goal.slice_bounds-marks-start
slice_bounds-marks-start c = omega (arith, ap (λ (l : List Bool). length l) c.marks.ensures, length-marks c.args.other.now, c.requires.within_other)

pub put-requires : goal.put-requires
put-requires c =
    let n = c.args.shared in
    let other = c.args.other.now in
    let behind = tail-of c.as_slice.result.now (entries other) n (c.as_slice.ensures.value ∙ c.entries.ensures.value) in
    let known = tail-of c.marks.result.now (marks_of other) n c.marks.ensures in
    record {
      from = c.requires.within;
      known = c.requires.within;
      lengths =
          omega (
            arith,
            ap (λ (l : List LogEntry). length l) behind,
            ap (λ (l : List Bool). length l) known,
            length-drop n (entries other),
            length-drop n (marks_of other),
            length-entries other,
            length-marks other,
          );
      once =
          subst HasNoneTwice (sym (ap (λ l. take n (entries c.args.self.now) ++ l) behind ∙ copy-entries n c.args.self.now other c.requires)) c.entries.ensures.once;
    }

pub returns-clause-ok : goal.returns-clause-ok
returns-clause-ok c =
    let n = c.args.shared in
    let other = c.args.other.now in
    let own = c.args.self.now in
    let behind = tail-of c.as_slice.result.now (entries other) n (c.as_slice.ensures.value ∙ c.entries.ensures.value) in
    let known = tail-of c.marks.result.now (marks_of other) n c.marks.ensures in
    on_ok c.put.result (λ now. now ∙ (λ i. zip (take n (entries own) ++ behind i) (take n (marks_of own) ++ known i)) ∙ copy-log n own other c.requires) c.put.ensures.ok
