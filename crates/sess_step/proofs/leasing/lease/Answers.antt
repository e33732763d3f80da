use Rattle.std.proofs.Common.{sym, ap, ◌∙◌, subst, w64, to_z, of_z}
use Rattle.std.proofs.lemmas.Int.{to_z-of_z}
use Rattle.sess_book.specs.Ids.{id_of}
use Rattle.desk_trail.specs.Facts.{Lists}
use Rattle.desk_trail.specs.Legal.{Point}
use Rattle.sess_step.specs.Choices.{AreIds}
use Rattle.sess_step.specs.Takes.{IsTaken, Takes}
use Rattle.sess_step.proofs.StepLemmas.{StandsAt-leased, behind-leased, ids-leased, named}
use Rattle.sess_step.proofs.leasing.lease.Goals as goal

pub write_lease-requires-clause-named : goal.write_lease-requires-clause-named
write_lease-requires-clause-named g c =
    let own = id_of c.args.words.first c.args.words.second in
    let minutes = c.minutes_for-minutes.result in
    let taken = subst (λ r. Takes c.args.sessions.now c.args.at.moment (to_z w64 (of_z w64 minutes)) own r c.take.new.self) c.in-Session.is c.in_ok-place.ensures.answer in
    named c.args.wired.now.trail.lists.sessions c.args.sessions.now c.take.new.self c.args.at.moment c.in-Session.place c.in-Session.lsid own c.in-Session.fresh
    (to_z w64 (of_z w64 minutes)) c.requires.ids taken

pub write_lease-requires-clause-stands : goal.write_lease-requires-clause-stands
write_lease-requires-clause-stands g c =
    let own = id_of c.args.words.first c.args.words.second in
    let minutes = c.minutes_for-minutes.result in
    let raw = subst (λ r. Takes c.args.sessions.now c.args.at.moment (to_z w64 (of_z w64 minutes)) own r c.take.new.self) c.in-Session.is c.in_ok-place.ensures.answer in
    let taken = subst (λ m. IsTaken c.args.sessions.now c.args.at.moment m own c.in-Session.place c.in-Session.lsid c.in-Session.fresh c.take.new.self)
    (to_z-of_z w64 minutes (record { sfits = c.minutes_for-minutes.type_inv })) raw in
    StandsAt-leased c.args.wired.now.trail.client c.args.wired.now.trail.point c.args.at c.in-Session.place c.in-Session.lsid own c.in-Session.fresh minutes c.args.sessions.now c.take.new.self
    c.args.running.now c.requires.choice c.minutes_for-minutes.ensures c.requires.book taken

pub returns-in-Session-clause-leases : goal.returns-in-Session-clause-leases
returns-in-Session-clause-leases g c =
    let own = id_of c.args.words.first c.args.words.second in
    let minutes = c.minutes_for-minutes.result in
    let raw = subst (λ r. Takes c.args.sessions.now c.args.at.moment (to_z w64 (of_z w64 minutes)) own r c.take.new.self) c.in-Session.is c.in_ok-place.ensures.answer in
    let taken = subst (λ m. IsTaken c.args.sessions.now c.args.at.moment m own c.in-Session.place c.in-Session.lsid c.in-Session.fresh c.take.new.self)
    (to_z-of_z w64 minutes (record { sfits = c.minutes_for-minutes.type_inv })) raw in
    record {
      minutes = minutes;
      needed = c.minutes_for-minutes.ensures;
      place = c.in-Session.place;
      lsid = c.in-Session.lsid;
      fresh = c.in-Session.fresh;
      taken = taken;
      adds = c.write_lease.ensures.adds;
      holds = c.hold.ensures.holds;
      moved = ap (λ (p : Point). p.state) c.write_lease.ensures.adds.point_now
          ∙ behind-leased c.args.wired.now.trail.client c.args.wired.now.trail.point.state c.args.at c.in-Session.place c.in-Session.lsid c.in-Session.fresh minutes c.args.sessions.now
          c.take.new.self c.args.running.now c.hold.new.self c.requires.choice.there c.minutes_for-minutes.ensures c.requires.book taken.goes c.hold.ensures.holds;
    }

pub returns-in-Session-clause-ids : goal.returns-in-Session-clause-ids
returns-in-Session-clause-ids g c =
    let own = id_of c.args.words.first c.args.words.second in
    let minutes = c.minutes_for-minutes.result in
    let taken = subst (λ r. Takes c.args.sessions.now c.args.at.moment (to_z w64 (of_z w64 minutes)) own r c.take.new.self) c.in-Session.is c.in_ok-place.ensures.answer in
    subst (λ (l : Lists). AreIds l.sessions c.take.new.self) (sym c.write_lease.ensures.adds.lists_now)
    (ids-leased c.args.wired.now.trail.lists c.args.sessions.now c.take.new.self c.args.at.moment c.in-Session.place c.in-Session.lsid c.in-Session.fresh (to_z w64 (of_z w64 minutes))
    c.requires.ids taken.goes)
