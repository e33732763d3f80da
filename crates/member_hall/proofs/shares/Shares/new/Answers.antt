use Rattle.std.proofs.Common.{◌∙◌, ap, length, arith}
use Rattle.std.proofs.lemmas.List.{length_push}
use Rattle.member_hall.specs.Shared.{share_at}
use Rattle.member_hall.proofs.Sharing.{share_push}
use Rattle.member_hall.proofs.shares.Shares.new.Goals as goal

pub loop-member-preserved : goal.loop-member-preserved
loop-member-preserved c = record {
  count = omega (arith, ap length c.in_ok-push.ensures.items, length_push c.loop-member.counts.items 0, c.loop-member.invariant.count);
  nothing = λ m. ap (λ l. share_at l m) c.in_ok-push.ensures.items ∙ share_push c.loop-member.counts.items c.loop-member.invariant.nothing m;
}
