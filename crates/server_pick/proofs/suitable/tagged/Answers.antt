use Rattle.std.proofs.Common.{sym, ◌∙◌, arith, refl}
use Rattle.std.specs.FinMap as map
use Rattle.server_pick.proofs.SieveLemmas.{tagged_found, tagged_passed, tagged_ends}
use Rattle.server_pick.proofs.suitable.tagged.Goals as goal

pub returns-then-some_pass : goal.returns-then-some_pass
returns-then-some_pass c =
    tagged_found c.args.kinds c.tags-item.result c.args.tag_sets.now c.loop-tags.tags-index (map.values c.args.topology.now.servers) c.loop-tags-test.true c.tags-item.is _ (λ d. refl)
    c.loop-tags.invariant (sym c.some_pass.ensures ∙ c.if-some_pass.true)

pub loop-tags-preserved : goal.loop-tags-preserved
loop-tags-preserved c =
    tagged_passed c.args.kinds c.tags-item.result c.args.tag_sets.now c.loop-tags.tags-index (map.values c.args.topology.now.servers) c.loop-tags-test.true c.tags-item.is _ (λ d. refl)
    c.loop-tags.invariant (sym c.some_pass.ensures ∙ c.if-some_pass.false)

pub returns : goal.returns
returns c =
    tagged_ends c.args.kinds c.args.tag_sets.now c.loop-tags.tags-index (map.values c.args.topology.now.servers) c.of-2.result (sym c.is_empty.ensures ∙ c.if-is_empty.false) (omega arith)
    c.loop-tags.invariant c.of-2.ensures
