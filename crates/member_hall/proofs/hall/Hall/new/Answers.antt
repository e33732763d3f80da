use Rattle.std.proofs.Common.{◌≡◌, ◌<◌, ◌∙◌, ℕ, List, None, ap, sym, subst, length, arith}
use Rattle.std.specs.List.{All}
use Rattle.member_hall.specs.Acts.{host_of}
use Rattle.member_hall.specs.Halls.{PeerState}
use Rattle.member_hall.specs.Honest.{IsSound}
use Rattle.member_hall.specs.Plans.{fault_in, hall_with}
use Rattle.member_hall.specs.declared.act.Planned.{Planned}
use Rattle.member_hall.proofs.Makings.{count_members, fault_none, few_hosts, no_fault, sound_new}
use Rattle.member_hall.proofs.hall.Hall.new.Goals as goal

pub fault_in-requires : goal.fault_in-requires
fault_in-requires c = few_hosts c.args.set.now c.args.hosts.now c.requires

pub members-requires-clause-few : goal.members-requires-clause-few
members-requires-clause-few c = few_hosts c.args.set.now c.args.hosts.now c.requires

pub new-requires-clause-some : goal.new-requires-clause-some
new-requires-clause-some c =
    let none : fault_in c.args.hosts.now c.args.acts ≡ None = ap (fault_in c.args.hosts.now) (sym c.as_slice.ensures.value) ∙ sym c.fault_in.ensures ∙ no_fault c.fault_in.result c.in_default.not-Some in
    let many = ap length c.in-Ok.ensures ∙ count_members c.args.set.now c.args.hosts.now in
    omega (arith, many, (fault_none c.args.hosts.now c.args.acts none).0)

pub new-requires-clause-few : goal.new-requires-clause-few
new-requires-clause-few c =
    omega (arith, few_hosts c.args.set.now c.args.hosts.now c.requires, ap length c.in-Ok.ensures, count_members c.args.set.now c.args.hosts.now)

pub new-requires-clause-hosts : goal.new-requires-clause-hosts
new-requires-clause-hosts c =
    let none : fault_in c.args.hosts.now c.args.acts ≡ None = ap (fault_in c.args.hosts.now) (sym c.as_slice.ensures.value) ∙ sym c.fault_in.ensures ∙ no_fault c.fault_in.result c.in_default.not-Some in
    let many : length c.in-Ok.peers.items ≡ length c.args.hosts.now = ap length c.in-Ok.ensures ∙ count_members c.args.set.now c.args.hosts.now in
    subst (λ (n : ℕ). All (λ (p : Planned). host_of p.act < n) c.args.acts) (sym many) (fault_none c.args.hosts.now c.args.acts none).1

pub invariant_of-result : goal.invariant_of-result
invariant_of-result c =
    let none : fault_in c.args.hosts.now c.args.acts ≡ None = ap (fault_in c.args.hosts.now) (sym c.as_slice.ensures.value) ∙ sym c.fault_in.ensures ∙ no_fault c.fault_in.result c.in_default.not-Some in
    let is : c.in-Ok-new.core ≡ hall_with c.in-Ok.peers.items c.args.acts = c.in-Ok-new.ensures in
    subst IsSound (sym (is ∙ ap (λ (l : List PeerState). hall_with l c.args.acts) c.in-Ok.ensures)) (sound_new c.args.set.now c.args.hosts.now c.args.acts (fault_none c.args.hosts.now c.args.acts none).0)
