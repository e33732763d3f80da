use Rattle.std.proofs.Common.{Some, sym, ◌∙◌}
use Rattle.member_core.proofs.ShareLemmas.{same_mark, shared-more}
use Rattle.member_core.proofs.kept_log.KeptLog.is_same_at.Goals as goal

pub returns-then-is_same : goal.returns-then-is_same
returns-then-is_same c = λ same.
    let marks = same_mark c.in-Some.mark c.in-Some-at.known same in
    let entries = c.is_same.ensures c.if-is_same.true in
    shared-more c.args.place c.args.self.now c.args.other.now (c.in-Some.entry, c.in-Some.mark) c.requires (sym c.in-Some.ensures)
    (sym c.in-Some-at.ensures ∙ sym (λ i. Some (entries i, marks i)))
