use Rattle.std.proofs.Common.{◌≡◌, Some, sym, subst}
use Rattle.std.specs.Prelude.{slice_get}
use Rattle.entry_judge.specs.Groups.{Goes}
use Rattle.sess_book.specs.Entries.{Returned, sessions_judge}
use Rattle.sess_step.proofs.TakenLemmas.{lease-out, returned-kept, the-lease}
use Rattle.sess_step.proofs.lease_book.LeaseBook.give_back.Goals as goal

pub unreachable-requires : goal.unreachable-requires
unreachable-requires c =
    let h = c.requires.held.2 in
    let there = subst (λ s. slice_get s.made c.args.place ≡ Some h.session) (sym c.self.view_is) h.there in
    let out = lease-out c.self.inside.book c.self.inside.leases.items c.args.place h.session c.requires.held.0 c.take_at.result c.self.invariant there h.so c.requires.held.1
    c.take_at.ensures.lease in
    c.in_default.not-Some out.0 out.1

pub give_back-requires-clause-held : goal.give_back-requires-clause-held
give_back-requires-clause-held c =
    let h = c.requires.held.2 in
    let there = subst (λ s. slice_get s.made c.args.place ≡ Some h.session) (sym c.self.view_is) h.there in
    let k = the-lease c.self.inside.book c.self.inside.leases.items c.args.place h.session c.requires.held.0 c.take_at.result c.in-Some.lease c.self.invariant there h.so c.requires.held.1
    c.take_at.ensures.lease c.in-Some.is in
    (c.requires.held.0, c.requires.held.1, k.is_held)

pub invariant_of-self : goal.invariant_of-self
invariant_of-self c =
    let h = c.requires.held.2 in
    let there = subst (λ s. slice_get s.made c.args.place ≡ Some h.session) (sym c.self.view_is) h.there in
    let k = the-lease c.self.inside.book c.self.inside.leases.items c.args.place h.session c.requires.held.0 c.take_at.result c.in-Some.lease c.self.invariant there h.so c.requires.held.1
    c.take_at.ensures.lease c.in-Some.is in
    let goes = subst (λ n. Goes sessions_judge c.self.inside.book c.args.moment (Returned n c.args.dirty c.give_back.result) c.give_back.new.self) k.at c.give_back.ensures in
    returned-kept c.self.inside.book c.give_back.new.self c.args.moment c.args.place c.args.dirty c.give_back.result h.session c.self.inside.leases.items c.take_at.new.leases.items
    c.self.invariant goes there c.take_at.ensures.left

pub returns : goal.returns
returns c =
    let h = c.requires.held.2 in
    let there = subst (λ s. slice_get s.made c.args.place ≡ Some h.session) (sym c.self.view_is) h.there in
    let k = the-lease c.self.inside.book c.self.inside.leases.items c.args.place h.session c.requires.held.0 c.take_at.result c.in-Some.lease c.self.invariant there h.so c.requires.held.1
    c.take_at.ensures.lease c.in-Some.is in
    let goes = subst (λ n. Goes sessions_judge c.self.inside.book c.args.moment (Returned n c.args.dirty c.give_back.result) c.give_back.new.self) k.at c.give_back.ensures in
    subst (λ s. Goes sessions_judge s c.args.moment (Returned c.args.place c.args.dirty c.give_back.result) c.give_back.new.self) c.self.view_is goes
