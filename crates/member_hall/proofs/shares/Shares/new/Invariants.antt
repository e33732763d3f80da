use Rattle.std.proofs.Common.{◌≡◌, ℕ, length}
use Rattle.member_hall.specs.Shared.{share_at}
use Rattle.member_hall.proofs.shares.Shares.new.Given as goal

abbrev pub invariant-loop-member : goal.invariant-loop-member
invariant-loop-member l = record {
  count : length l.counts.items ≡ l._member;
  nothing : (m : ℕ) → share_at l.counts.items m ≡ 0;
}
