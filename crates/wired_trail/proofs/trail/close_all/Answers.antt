use Rattle.std.proofs.Common.{◌∙◌, arith}
use Rattle.net_link.proofs.PrefixLemmas.{IsPrefixOf-trans}
use Rattle.net_link.proofs.SeenLemmas.{seen-closed}
use Rattle.wired_trail.proofs.LineLemmas.{opens-taken}
use Rattle.wired_trail.proofs.trail.close_all.Goals as goal

pub closing-preserved : goal.closing-preserved
closing-preserved g c = record {
  opens =
      opens-taken (g.N.Net.is_open c.closing.net) (g.N.Net.is_open c.close.new.self) c.in-Some.stream c.closing.lines c.take_first.new.self c.closing.invariant.opens c.in-Some.ensures.gone
      c.in-Some.ensures.others c.close.ensures.keeps.opens;
  later = omega (arith, c.closing.invariant.later, c.close.ensures.cause);
  seen = λ t s. seen-closed s c.in-Some.stream (c.close.ensures.told t) ∙ c.closing.invariant.seen t s;
  grows = λ t. IsPrefixOf-trans (c.closing.invariant.grows t) (c.close.ensures.told t).grows;
}
