use Rattle.std.proofs.Common.{◌≡◌, ◌<◌, List, Some, None, ap, sym, subst, length, arith, []}
use Rattle.std.specs.List.{All}
use Rattle.member_hall.specs.Acts.{host_of}
use Rattle.member_hall.specs.Inside.{live_count}
use Rattle.member_hall.specs.Lines.{LineState}
use Rattle.member_hall.specs.declared.act.Planned.{Planned}
use Rattle.member_hall.proofs.Lates.{late_none}
use Rattle.member_hall.proofs.Sharing.{shares_new}
use Rattle.member_hall.proofs.hall_core.HallCore.new.Goals as goal

none_live : (lines : List LineState) → lines ≡ [] → live_count lines ≡ 0
unfolding live_count
none_live lines none = ap live_count none

pub invariant_of-result : goal.invariant_of-result
invariant_of-result c = record {
  fit = record {
    few = c.requires.few;
    last = c.requires.some;
    members = λ s below. let none : length c.new-3.result.items ≡ 0 = ap length c.new-3.ensures.items in absurd (omega arith);
    hosts = subst (λ (l : List Planned). All (λ (p : Planned). host_of p.act < length c.args.peers.items) l) (sym c.new-2.ensures) c.requires.hosts;
    unserved = λ s is. absurd (let clash : None ≡ Some s = is in let never : ⊥ = cc in never);
    kept = omega (arith, none_live c.new-3.result.items c.new-3.ensures.items);
  };
  shares = shares_new c.in_ok-shares.shares c.args.peers.items 0 (omega (arith, c.in_ok-shares.ensures.count, c.len.ensures, c.args.peers.ok.0)) c.in_ok-shares.ensures.nothing;
  late = late_none c.new-4.result.items c.new-3.result.items c.new-3.ensures.items;
}
