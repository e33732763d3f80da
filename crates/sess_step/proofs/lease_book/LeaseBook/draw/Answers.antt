use Rattle.std.proofs.Common.{◌≡◌, Some, length, sym, ap, ◌∙◌, subst, arith}
use Rattle.std.proofs.lemmas.Int.{to_z-of_z}
use Rattle.std.proofs.lemmas.Option.{slice_get_within}
use Rattle.std.specs.Prelude.{None, slice_get, slice_set}
use Rattle.entry_judge.specs.Groups.{Goes}
use Rattle.sess_book.specs.Entries.{Drew, sessions_judge}
use Rattle.sess_book.specs.Sessions.{Sessions}
use Rattle.sess_book.specs.declared.lease.Lease.{Lease}
use Rattle.sess_book.specs.declared.session.Holding.TheVariants as holding
use Rattle.sess_book.proofs.ListLemmas.{length-set}
use Rattle.sess_step.proofs.TakenLemmas.{IsHeldAt-set, drew-kept, lease-out, leased-out, the-lease}
use Rattle.sess_step.proofs.lease_book.LeaseBook.draw.Goals as goal

pub unreachable-requires : goal.unreachable-requires
unreachable-requires c =
    let there = subst (λ s. slice_get s.made c.args.place ≡ Some c.requires.session) (sym c.self.view_is) c.requires.there in
    let out = lease-out c.self.inside.book c.self.inside.leases.items c.args.place c.requires.session holding.Leased c.take_at.result c.self.invariant there c.requires.so leased-out
    c.take_at.ensures.lease in
    c.in_default.not-Some out.0 out.1

pub draw-number-requires : goal.draw-number-requires
draw-number-requires c =
    let there = subst (λ s. slice_get s.made c.args.place ≡ Some c.requires.session) (sym c.self.view_is) c.requires.there in
    (the-lease c.self.inside.book c.self.inside.leases.items c.args.place c.requires.session holding.Leased c.take_at.result c.in-Some.lease c.self.invariant there c.requires.so leased-out
    c.take_at.ensures.lease c.in-Some.is).is_held

pub put_at-requires : goal.put_at-requires
put_at-requires c =
    let there = subst (λ s. slice_get s.made c.args.place ≡ Some c.requires.session) (sym c.self.view_is) c.requires.there in
    let within = slice_get_within c.self.inside.book.made c.args.place c.requires.session there in
    let count = c.self.invariant.count in
    let left = ap length c.take_at.ensures.left ∙ length-set c.self.inside.leases.items c.args.place None in
    omega (arith, within, count, left)

pub invariant_of-self : goal.invariant_of-self
invariant_of-self c =
    let there = subst (λ s. slice_get s.made c.args.place ≡ Some c.requires.session) (sym c.self.view_is) c.requires.there in
    let k = the-lease c.self.inside.book c.self.inside.leases.items c.args.place c.requires.session holding.Leased c.take_at.result c.in-Some.lease c.self.invariant there c.requires.so leased-out
    c.take_at.ensures.lease c.in-Some.is in
    let goes = subst (λ n. Goes sessions_judge c.self.inside.book c.self.inside.book.last (Drew n c.draw-number.result.number) c.draw-number.new.self) k.at c.draw-number.ensures.goes in
    drew-kept c.self.inside.book c.draw-number.new.self c.self.inside.book.last c.args.place c.draw-number.result.number c.requires.session c.draw-number.new.lease
    c.self.inside.leases.items c.put_at.new.leases.items c.self.invariant goes there
    (ap (λ (l : Lease). l.place) c.draw-number.ensures.lease ∙ k.at) (ap (λ (l : Lease). l.lsid) c.draw-number.ensures.lease ∙ k.id)
    (subst (λ ls. c.put_at.new.leases.items ≡ slice_set ls c.args.place (Some c.draw-number.new.lease)) c.take_at.ensures.left c.put_at.ensures)

pub returns-clause-goes : goal.returns-clause-goes
returns-clause-goes c =
    let there = subst (λ s. slice_get s.made c.args.place ≡ Some c.requires.session) (sym c.self.view_is) c.requires.there in
    let k = the-lease c.self.inside.book c.self.inside.leases.items c.args.place c.requires.session holding.Leased c.take_at.result c.in-Some.lease c.self.invariant there c.requires.so leased-out
    c.take_at.ensures.lease c.in-Some.is in
    let goes = subst (λ n. Goes sessions_judge c.self.inside.book c.self.inside.book.last (Drew n c.draw-number.result.number) c.draw-number.new.self) k.at c.draw-number.ensures.goes in
    let goes_now : Goes sessions_judge c.args.self.now c.args.self.now.last (Drew c.args.place c.draw-number.result.number) c.draw-number.new.self =
    subst (λ (s : Sessions). Goes sessions_judge s s.last (Drew c.args.place c.draw-number.result.number) c.draw-number.new.self) c.self.view_is goes in
    grind (arith, to_z-of_z, goes_now)

pub returns-clause-drawn : goal.returns-clause-drawn
returns-clause-drawn c =
    let there = subst (λ s. slice_get s.made c.args.place ≡ Some c.requires.session) (sym c.self.view_is) c.requires.there in
    let k = the-lease c.self.inside.book c.self.inside.leases.items c.args.place c.requires.session holding.Leased c.take_at.result c.in-Some.lease c.self.invariant there c.requires.so leased-out
    c.take_at.ensures.lease c.in-Some.is in
    let goes = subst (λ n. Goes sessions_judge c.self.inside.book c.self.inside.book.last (Drew n c.draw-number.result.number) c.draw-number.new.self) k.at c.draw-number.ensures.goes in
    IsHeldAt-set c.self.inside.book.made c.args.place c.requires.session (λ z. record z { number = c.draw-number.result.number; holding = holding.Drawn }) c.draw-number.new.self there
    (ap (λ (u : Sessions). u.made) goes.moves)
