use Rattle.std.proofs.Common.{◌-◌, ◌∙◌, Bool, List, ap, arith, drop, length, take}
use Rattle.std.proofs.lemmas.List.{take_all}
use Rattle.std.specs.Prelude.{◌==◌, ◌&&◌, filter}
use Rattle.member_core.specs.Logs.{times}
use Rattle.member_core.specs.Members.{entries, is_acked}
use Rattle.member_core.specs.declared.log.LogEntry.{LogEntry}
use Rattle.member_core.proofs.ShareLemmas.{gained-behind, length-entries, shared-entries, tail-of}
use Rattle.member_core.proofs.kept_log.KeptLog.gains.Goals as goal

pub slice_bounds-behind-start : goal.slice_bounds-behind-start
slice_bounds-behind-start c = omega (arith, ap (λ (l : List LogEntry). length l) (c.as_slice.ensures.value ∙ c.entries.ensures.value), length-entries c.args.last.now, c.requires.within_other)

pub returns-clause-gains : goal.returns-clause-gains
returns-clause-gains c =
    let n = c.args.shared in
    let l = c.as_slice.result.now in
    let last = c.args.last.now in
    let own = entries c.args.self.now in
    let p : LogEntry → Bool = λ entry. is_acked last entry.key && (times entry.key own == 0) in
    c.loop-entry.invariant
    ∙ ap (filter p) (take_all c.loop-entry.entry-index (take (length l - n) (drop n l)) c.loop-entry-test.false ∙ tail-of l (entries last) n (c.as_slice.ensures.value ∙ c.entries.ensures.value))
    ∙ gained-behind n last own (shared-entries n c.args.self.now last c.requires)
