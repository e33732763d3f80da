use Rattle.std.proofs.Common.{sym, ap, ◌∙◌, true≢false, eqb-true, eq-eqb}
use Rattle.std.specs.FinMap as map
use Rattle.hello_reply.specs.Descriptions.{unknown as default_unknown_of}
use Rattle.topo_rules.proofs.StartLemmas.{distinct_from, distinct_to}
use Rattle.topo_rules.proofs.topology.Topology.may_start.Goals as goal

pub returns-then-not-counts : goal.returns-then-not-counts
returns-then-not-counts c = (λ h. absurd (true≢false (sym h)), λ may. absurd (true≢false (sym (c.counts.ensures.1 (may.some, may.most, may.one)) ∙ c.if-not-counts.true)))

pub returns : goal.returns
returns c =
    let counted = c.counts.ensures.0 c.if-not-counts.false in
    let count = c.len.ensures.len ∙ ap (λ m. map.len m) c.in_ok-servers.ensures in (
      λ h. record {
        some = counted.0;
        most = counted.1;
        differ = distinct_from default_unknown_of c.args.hosts.now (sym count ∙ eqb-true _ _ h);
        one = counted.2;
      },
      λ may. eq-eqb _ _ (count ∙ distinct_to default_unknown_of c.args.hosts.now may.differ),
    )
