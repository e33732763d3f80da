use Rattle.std.proofs.Common.{refl, sym, ap, ◌∙◌, subst}
use Rattle.entry_judge.specs.Groups.{Goes}
use Rattle.sess_book.specs.Entries.{Returned, sessions_judge}
use Rattle.desk_trail.specs.Facts.{Lists}
use Rattle.desk_trail.specs.Facts as fact
use Rattle.desk_trail.specs.Legal.{Point, StandsAt}
use Rattle.desk_trail.specs.Owed.{left_owed}
use Rattle.desk_trail.specs.Written.{an_entry}
use Rattle.desk_trail.specs.declared.entry.Entry.TheVariants as entry
use Rattle.legal_trail.specs.Recorded.{Adds}
use Rattle.sess_step.specs.Choices.{AreIds}
use Rattle.sess_step.proofs.StepLemmas.{StandsAt-returned, behind-returned, ids-returned}
use Rattle.sess_step.proofs.returning.give_back.Goals as goal

pub append-requires-clause-stands : goal.append-requires-clause-stands
append-requires-clause-stands g c =
    let dirty = c.is_dirty-dirty.ensures.dirty in
    let kept = c.give_back-kept.result in
    let has = sym c.give_back.ensures.session ∙ c.in-Some.is in
    let goes = subst (λ b. Goes sessions_judge c.args.sessions.now c.args.at.moment (Returned c.in-Some.place b kept) c.give_back-kept.new.self) dirty c.give_back-kept.ensures in (
      fact.Returned c.args.at.op c.is_dirty-dirty.result kept,
      refl,
      subst (λ b. StandsAt c.args.wired.now.trail.client c.args.wired.now.trail.point (record { at = c.args.at.moment; what = fact.Returned c.args.at.op b kept })) (sym dirty)
          (StandsAt-returned c.args.wired.now.trail.client c.args.wired.now.trail.point c.args.at c.in-Some.place kept c.args.sessions.now c.give_back-kept.new.self c.args.running.now
          c.requires.owes has c.requires.book goes),
    )

pub returns-clause-returned : goal.returns-clause-returned
returns-clause-returned g c =
    let dirty = c.is_dirty-dirty.ensures.dirty in
    let kept = c.give_back-kept.result in
    let has = sym c.give_back.ensures.session ∙ c.in-Some.is in
    let goes = subst (λ b. Goes sessions_judge c.args.sessions.now c.args.at.moment (Returned c.in-Some.place b kept) c.give_back-kept.new.self) dirty c.give_back-kept.ensures in
    let adds = subst (λ b. Adds an_entry c.args.wired.now.trail.lists c.args.at.moment (entry.Returned c.args.at.op b kept) (fact.Returned c.args.at.op b kept) c.args.wired.now.trail
    c.append.new.self.trail) dirty (c.append.ensures.adds (fact.Returned c.args.at.op c.is_dirty-dirty.result kept) refl) in
    record {
      place = c.in-Some.place;
      has = has;
      kept = kept;
      goes = goes;
      adds = adds;
      left = c.give_back.ensures.left;
      moved = ap (λ (p : Point). p.state) adds.point_now
          ∙ behind-returned c.args.wired.now.trail.client c.args.wired.now.trail.point.state c.args.at c.in-Some.place kept c.args.sessions.now c.give_back-kept.new.self c.args.running.now
          c.give_back.new.self c.requires.owes.there has c.requires.book goes c.give_back.ensures.left;
      paid = ap (λ (p : Point). p.owed) adds.point_now ∙ ap (λ os. left_owed os (fact.Returned c.args.at.op c.args.running.now.is_dirty kept)) c.requires.owes.owes;
    }

pub returns-clause-ids : goal.returns-clause-ids
returns-clause-ids g c =
    let kept = c.give_back-kept.result in
    let adds = c.append.ensures.adds (fact.Returned c.args.at.op c.is_dirty-dirty.result kept) refl in
    λ ids. subst (λ (l : Lists). AreIds l.sessions c.give_back-kept.new.self) (sym adds.lists_now)
    (ids-returned c.args.wired.now.trail.lists.sessions c.args.sessions.now c.give_back-kept.new.self c.args.at.moment c.in-Some.place c.is_dirty-dirty.result kept ids c.give_back-kept.ensures)
