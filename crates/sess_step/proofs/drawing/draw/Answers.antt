use Rattle.std.proofs.Common.{◌≡◌, Some, refl, sym, ap, ◌∙◌, subst, arith, w64, to_z, of_z}
use Rattle.std.proofs.lemmas.Int.{to_z-of_z}
use Rattle.entry_judge.specs.Groups.{Goes}
use Rattle.sess_book.specs.Entries.{Drew, sessions_judge}
use Rattle.desk_trail.specs.Facts.{Lists}
use Rattle.desk_trail.specs.Facts as fact
use Rattle.desk_trail.specs.Legal.{Point, StandsAt}
use Rattle.desk_trail.specs.States.{CommandState}
use Rattle.desk_trail.specs.Written.{an_entry}
use Rattle.desk_trail.specs.declared.entry.Entry.TheVariants as entry
use Rattle.legal_trail.specs.Recorded.{Adds}
use Rattle.sess_step.specs.Choices.{AreIds}
use Rattle.sess_step.proofs.StepLemmas.{StandsAt-drew, behind-drew, ids-drew}
use Rattle.sess_step.proofs.drawing.draw.Goals as goal

pub append-requires-clause-stands : goal.append-requires-clause-stands
append-requires-clause-stands g c =
    let number = c.draw-number.result in
    let has = sym c.session.ensures.session ∙ c.in-Some.is in
    let goes : Goes sessions_judge c.args.sessions.now c.args.at.moment (Drew c.in-Some.place number) c.draw-number.new.self =
    record { stands = c.draw-number.ensures.goes.stands; moves = c.draw-number.ensures.goes.moves } in (
      fact.Drew c.args.at.op (to_z w64 (of_z w64 number)),
      refl,
      subst (λ n. StandsAt c.args.wired.now.trail.client c.args.wired.now.trail.point (record { at = c.args.at.moment; what = fact.Drew c.args.at.op n }))
          (sym (to_z-of_z w64 number (record { sfits = c.draw-number.type_inv })))
          (StandsAt-drew c.args.wired.now.trail.client c.args.wired.now.trail.point c.args.at c.in-Some.place number c.args.sessions.now c.draw-number.new.self c.args.running.now
          c.requires.choice c.requires.needs has c.requires.book goes),
    )

pub returns-clause-drew : goal.returns-clause-drew
returns-clause-drew g c =
    let number = c.draw-number.result in
    let has = sym c.session.ensures.session ∙ c.in-Some.is in
    let goes : Goes sessions_judge c.args.sessions.now c.args.at.moment (Drew c.in-Some.place number) c.draw-number.new.self =
    record { stands = c.draw-number.ensures.goes.stands; moves = c.draw-number.ensures.goes.moves } in
    let adds = subst (λ n. Adds an_entry c.args.wired.now.trail.lists c.args.at.moment (entry.Drew c.args.at.op n) (fact.Drew c.args.at.op n) c.args.wired.now.trail c.append.new.self.trail)
    (to_z-of_z w64 number (record { sfits = c.draw-number.type_inv })) (c.append.ensures.adds (fact.Drew c.args.at.op (to_z w64 (of_z w64 number))) refl) in
    let drew = c.draw.ensures.drew in
    let keeps : c.draw.new.self ≡ (let d : CommandState = record c.args.running.now { number = Some number } in d) = grind (arith, to_z-of_z, drew) in
    record {
      place = c.in-Some.place;
      has = has;
      number = number;
      goes = goes;
      adds = adds;
      keeps = keeps;
      moved = ap (λ (p : Point). p.state) adds.point_now
          ∙ behind-drew c.args.wired.now.trail.client c.args.wired.now.trail.point.state c.args.at c.in-Some.place number c.args.sessions.now c.draw-number.new.self c.args.running.now
          c.draw.new.self c.requires.choice.there has c.requires.book goes keeps;
    }

pub returns-clause-ids : goal.returns-clause-ids
returns-clause-ids g c =
    let number = c.draw-number.result in
    let adds = c.append.ensures.adds (fact.Drew c.args.at.op (to_z w64 (of_z w64 number))) refl in
    λ ids. subst (λ (l : Lists). AreIds l.sessions c.draw-number.new.self) (sym adds.lists_now)
    (ids-drew c.args.wired.now.trail.lists.sessions c.args.sessions.now c.draw-number.new.self c.args.sessions.now.last c.in-Some.place number ids c.draw-number.ensures.goes)
