use Rattle.std.proofs.Common.{◌≡◌, ap, max, rules, ◌∙◌}
use Rattle.effect_count.specs.Counts.{effects_by}
use Rattle.member_core.specs.Logs.{set_after}
use Rattle.shell_top.specs.Summary.{greatest}
use Rattle.shell_top.proofs.SumLemmas.{greatest-more}
use Rattle.shell_top.proofs.summing.most_effects.Goals as goal

pub members-preserved : goal.members-preserved
members-preserved c = λ client facts indexed many.
    let log = c.as_slice.ensures.value ∙ c.log.ensures.told in
    greatest-more (λ member. greatest (effects_by client facts ((set_after c.args.hall.now.events).log member))) c.members.member c.members.most c.greatest.result c.max-most.result
    (c.members.invariant client facts indexed many)
    (c.greatest.ensures ∙ ap greatest (c.deref.ensures.value ∙ c.in_ok-counts.ensures.each client facts indexed.legal indexed.index_of many ∙ ap (effects_by client facts) log))
    (let more : c.max-most.result ≡ max c.members.most c.greatest.result = search rules in more)
