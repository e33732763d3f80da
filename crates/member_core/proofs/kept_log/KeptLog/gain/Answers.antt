use Rattle.std.proofs.Common.{◌≡◌, ◌++◌, ◌∙◌, Bool, List, ap, arith, drop, length, length-append, length-drop, map, subst, sym, take}
use Rattle.std.proofs.lemmas.List.{length-map, take_all}
use Rattle.std.specs.List.{zip}
use Rattle.member_core.specs.Members.{entries, is_acked}
use Rattle.member_core.specs.Places.{HasNoneTwice, marks_of}
use Rattle.member_core.specs.Shares.{IsShared}
use Rattle.member_core.specs.declared.log.LogEntry.{LogEntry}
use Rattle.member_core.proofs.ShareLemmas.{elected-shared, gain-log, gained-once, length-entries, on_ok, tail-of}
use Rattle.member_core.proofs.kept_log.KeptLog.gain.Goals as goal

pub slice_bounds-behind-start : goal.slice_bounds-behind-start
slice_bounds-behind-start c = omega (arith, ap (λ (l : List LogEntry). length l) (c.as_slice.ensures.value ∙ c.entries-2.ensures.value), length-entries c.args.self.now, c.requires.within)

pub put-requires : goal.put-requires
put-requires c =
    let own = entries c.args.self.now in
    let n = c.args.shared in
    let f : LogEntry → Bool = λ entry. is_acked c.args.last.now entry.key in
    let gains = c.in_ok-gains.gains.items in
    let count = c.len-from.ensures.count ∙ ap (λ (l : List LogEntry). length l) c.entries.ensures.value ∙ length-entries c.args.self.now in
    let all = take_all c.len-from.result own (omega (arith, count, length-entries c.args.self.now)) in
    let behind = tail-of c.as_slice.result.now own n (c.as_slice.ensures.value ∙ c.entries-2.ensures.value) in
    let first = c.in_ok-add_marks.ensures ∙ (λ i. c.new-marks.ensures.items i ++ map f (behind i)) in
    let marks : c.as_slice-4.result.now ≡ map f (drop n own) ++ map f gains = c.as_slice-4.ensures.value ∙ c.in_ok-add_marks-2.ensures ∙ (λ i. first i ++ map f (c.as_slice-2.ensures.value i)) in
    record {
      from = omega (arith, count);
      known = c.requires.within;
      lengths =
          omega (
            arith,
            count,
            ap (λ (l : List Bool). length l) marks,
            length-append (map f (drop n own)) (map f gains),
            length-map (drop n own) f,
            length-map gains f,
            length-drop n own,
            length-entries c.args.self.now,
            c.requires.within,
            ap (λ (l : List LogEntry). length l) c.as_slice-3.ensures.value,
          );
      once =
          subst HasNoneTwice (sym (λ i. all i ++ (c.as_slice-3.ensures.value ∙ c.in_ok-gains.ensures.gains) i))
          (gained-once c.args.last.now own c.entries.ensures.once c.gains.ensures.once);
    }

pub returns-clause-ok : goal.returns-clause-ok
returns-clause-ok c =
    let own = entries c.args.self.now in
    let n = c.args.shared in
    let f : LogEntry → Bool = λ entry. is_acked c.args.last.now entry.key in
    let gains = c.in_ok-gains.gains.items in
    let count = c.len-from.ensures.count ∙ ap (λ (l : List LogEntry). length l) c.entries.ensures.value ∙ length-entries c.args.self.now in
    let all = take_all c.len-from.result own (omega (arith, count, length-entries c.args.self.now)) in
    let behind = tail-of c.as_slice.result.now own n (c.as_slice.ensures.value ∙ c.entries-2.ensures.value) in
    let first = c.in_ok-add_marks.ensures ∙ (λ i. c.new-marks.ensures.items i ++ map f (behind i)) in
    let marks : c.as_slice-4.result.now ≡ map f (drop n own) ++ map f gains = c.as_slice-4.ensures.value ∙ c.in_ok-add_marks-2.ensures ∙ (λ i. first i ++ map f (c.as_slice-2.ensures.value i)) in
    on_ok c.put.result
    (λ now. now ∙ ap (λ l. zip l (take n (marks_of c.args.self.now) ++ c.as_slice-4.result.now)) (λ i. all i ++ c.as_slice-3.ensures.value i)
    ∙ gain-log n c.args.self.now c.args.last.now gains c.as_slice-4.result.now c.gains.ensures.once c.requires c.in_ok-gains.ensures.gains marks)
    c.put.ensures.ok

pub returns-clause-shared : goal.returns-clause-shared
returns-clause-shared c =
    on_ok c.put.result
    (λ now. subst (λ l. IsShared c.args.shared l c.args.last.now) (sym now) (elected-shared c.args.shared c.args.self.now c.args.last.now c.gains.ensures.once c.requires))
    (returns-clause-ok c)
