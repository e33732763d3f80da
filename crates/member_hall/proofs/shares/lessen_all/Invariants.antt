use Rattle.std.proofs.Common.{◌≡◌, ◌++◌, take, drop}
use Rattle.member_hall.specs.Shared.{lessened}
use Rattle.member_hall.proofs.shares.lessen_all.Given as goal

abbrev pub invariant-loop-count : goal.invariant-loop-count
invariant-loop-count l = take l.count-index l.counts ++ lessened l.most (drop l.count-index l.counts) ≡ lessened l.most l.initial.counts
