use Rattle.std.proofs.Common.{◌∷◌, [], ◌++◌, List, ap, arith, length, subst, sym, ◌∙◌}
use Rattle.std.proofs.lemmas.List.{take_all}
use Rattle.std.specs.List.{zip}
use Rattle.member_core.specs.Members.{entries}
use Rattle.member_core.specs.Places.{HasNoneTwice, marks_of}
use Rattle.member_core.specs.declared.log.LogEntry.{LogEntry}
use Rattle.member_core.proofs.ShareLemmas.{added-once, length-entries, length-marks, on_ok, zip-push}
use Rattle.member_core.proofs.kept_log.KeptLog.add.Goals as goal

pub put-requires : goal.put-requires
put-requires c =
    let count = c.len-from.ensures.count ∙ ap (λ (l : List LogEntry). length l) c.entries.ensures.value ∙ length-entries c.args.self.now in
    let all = take_all c.len-from.result (entries c.args.self.now) (omega (arith, count, length-entries c.args.self.now)) in
    record {
      from = omega (arith, count);
      known = omega (arith, count);
      lengths = omega arith;
      once = subst (λ (l : List LogEntry). HasNoneTwice (l ++ c.args.entry ∷ [])) (sym all) (added-once (entries c.args.self.now) c.args.entry c.entries.ensures.once c.requires.lacks);
    }

pub returns-clause-ok : goal.returns-clause-ok
returns-clause-ok c =
    let count = c.len-from.ensures.count ∙ ap (λ (l : List LogEntry). length l) c.entries.ensures.value ∙ length-entries c.args.self.now in
    let all = take_all c.len-from.result (entries c.args.self.now) (omega (arith, count, length-entries c.args.self.now)) in
    let marked = take_all c.len-from.result (marks_of c.args.self.now) (omega (arith, count, length-marks c.args.self.now)) in
    on_ok c.put.result (λ now. now ∙ (λ i. zip (all i ++ c.args.entry ∷ []) (marked i ++ c.args.acked ∷ [])) ∙ zip-push c.args.self.now c.args.entry c.args.acked) c.put.ensures.ok
