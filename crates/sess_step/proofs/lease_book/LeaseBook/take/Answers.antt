use Rattle.std.proofs.Common.{refl, sym, subst, w64, to_z, of_z}
use Rattle.std.proofs.lemmas.Int.{to_z-of_z}
use Rattle.sess_book.specs.Answers.{Answers}
use Rattle.sess_book.specs.declared.lease.Leased.TheVariants as leased
use Rattle.sess_book.specs.Ids.{id_of}
use Rattle.sess_step.specs.Inside.{AreKept}
use Rattle.sess_step.specs.Takes.{Takes}
use Rattle.sess_step.specs.declared.taken.Taken.TheVariants as taken
use Rattle.sess_step.proofs.TakenLemmas.{lease-kept, lease-taken}
use Rattle.sess_step.proofs.lease_book.LeaseBook.take.Goals as goal

pub invariant_of-self-in-Lease : goal.invariant_of-self-in-Lease
invariant_of-self-in-Lease c =
    let own = id_of c.args.words.first c.args.words.second in
    let l = c.in-Lease.lease in
    let by = subst (λ r. Answers c.self.inside.book c.args.moment (to_z w64 (of_z w64 c.args.minutes)) own r c.take.new.self) c.in-Lease.is c.in_ok-lease.ensures.answer in
    lease-kept c.self.inside.book c.take.new.self c.args.moment (to_z w64 (of_z w64 c.args.minutes)) own l c.reserve.new.self.items c.keep.new.leases.items l.fresh
    (subst (λ ls. AreKept c.self.inside.book.made ls) (sym c.in_ok-reserve.ensures.items) c.self.invariant) by.0 by.1 c.keep.ensures.put

pub returns-in-Lease-clause-answer : goal.returns-in-Lease-clause-answer
returns-in-Lease-clause-answer c =
    let own = id_of c.args.words.first c.args.words.second in
    let l = c.in-Lease.lease in
    let raw = subst (λ r. Answers c.self.inside.book c.args.moment (to_z w64 (of_z w64 c.args.minutes)) own r c.take.new.self) c.in-Lease.is c.in_ok-lease.ensures.answer in
    let by = subst (λ m. Answers c.self.inside.book c.args.moment m own (leased.Lease l) c.take.new.self) (to_z-of_z w64 c.args.minutes c.ranges.minutes) raw in
    subst (λ r. Takes c.args.self.now c.args.moment c.args.minutes own r c.take.new.self) (sym c.taken_by-taken.ensures)
    (subst (λ s. Takes s c.args.moment c.args.minutes own (taken.Session l.place l.lsid l.fresh) c.take.new.self) c.self.view_is
    (lease-taken c.self.inside.book c.take.new.self c.args.moment c.args.minutes own l l.fresh refl by.0 by.1))
