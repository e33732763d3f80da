use Rattle.std.proofs.Common.{sym, ◌∙◌}
use Rattle.effect_count.proofs.IndexLemmas.{are-effects}
use Rattle.effect_count.proofs.index.RequestIndex.effects.Goals as goal

pub returns-clause-each : goal.returns-clause-each
returns-clause-each c =
    λ client facts l is count. are-effects c.the_requests_of_a_stream_are_those_asked_on_it.ensures.commands client facts c.args.self.now c.args.log.now c.in_ok-counts.counts.items l is
    (count ∙ sym c.in_ok-counts.ensures.count) c.in_ok-counts.ensures.each
