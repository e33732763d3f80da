use Rattle.std.proofs.Common.{List, Some, map, refl, sym, ap, ◌∙◌, subst, arith}
use Rattle.pool_book.specs.Entries.{PoolEntry, owes_shut}
use Rattle.desk_trail.specs.declared.entry.Entry.TheVariants as entry_of
use Rattle.desk_trail.specs.Facts as fact
use Rattle.desk_trail.specs.Legal.{Point}
use Rattle.desk_trail.specs.Owed.{Owed, left_owed}
use Rattle.desk_trail.specs.Owed as owed
use Rattle.desk_trail.specs.Written.{an_entry}
use Rattle.legal_trail.specs.Recorded.{Adds, Recorded}
use Rattle.cmd_step.proofs.CheckInLemmas.{IsChecked, StandsAt-back, StandsAt-owed, behind-kept, behind-owed, checked, held-conn, kept-owes, shut-owes}
use Rattle.cmd_step.proofs.checking_in.check_in.Goals as goal

pub append-requires-clause-stands : goal.append-requires-clause-stands
append-requires-clause-stands g c = (
  fact.CheckedIn c.args.at.op c.args.at.host c.args.back.conn c.args.back.errored,
  refl,
  StandsAt-back c.args.wired.now.trail.client c.args.wired.now.trail.point c.args.at c.args.back c.args.server.now c.args.running.now c.requires.next c.requires.places c.requires.idle
      c.requires.lent,
)

pub returns-in-Kept-clause-back : goal.returns-in-Kept-clause-back
returns-in-Kept-clause-back g c =
    let adds = c.append.ensures.adds (fact.CheckedIn c.args.at.op c.args.at.host c.args.back.conn c.args.back.errored) refl in
    let h = c.requires.lent.held in
    let m = checked c.args.wired.now.trail.client c.args.wired.now.trail.point c.append.new.self.trail.point c.args.at c.args.back c.args.server.now c.args.running.now c.requires.lent
    c.requires.next c.requires.places c.requires.idle adds.point_now in
    let none = kept-owes c.args.server.now.pool.state c.args.back.errored h (sym c.in-Kept.is ∙ c.check_in-fate.ensures.answer h c.requires.lent.lent) in
    record {
      adds = adds;
      paid = m.owes ∙ ap (map (λ (d : PoolEntry). owed.OfPool c.args.at.host)) none;
      moved = behind-kept c.args.wired.now.trail.point c.append.new.self.trail.point c.args.at c.args.back c.args.server.now c.check_in-fate.new.self c.args.running.now
          c.leave_pool.new.self h (owes_shut c.args.server.now.pool.state c.args.back.errored (Some h)) m none (c.check_in-fate.ensures.goes h c.requires.lent.lent) c.leave_pool.ensures.left;
    }

pub append-requires-2-clause-room : goal.append-requires-2-clause-room
append-requires-2-clause-room g c =
    let adds = c.append.ensures.adds (fact.CheckedIn c.args.at.op c.args.at.host c.args.back.conn c.args.back.errored) refl in
    let used = adds.room_used in
    let space = c.requires.room in
    record { names = omega arith; events = omega arith; sessions = omega arith; requests = omega arith; steps = omega arith }

pub append-requires-2-clause-stands : goal.append-requires-2-clause-stands
append-requires-2-clause-stands g c =
    let adds = c.append.ensures.adds (fact.CheckedIn c.args.at.op c.args.at.host c.args.back.conn c.args.back.errored) refl in
    let h = c.requires.lent.held in
    let m = checked c.args.wired.now.trail.client c.args.wired.now.trail.point c.append.new.self.trail.point c.args.at c.args.back c.args.server.now c.args.running.now c.requires.lent
    c.requires.next c.requires.places c.requires.idle adds.point_now in
    let one = shut-owes c.args.server.now.pool.state c.args.back.errored h c.in-Shut.reason (sym c.in-Shut.is ∙ c.check_in-fate.ensures.answer h c.requires.lent.lent) in (
      fact.ConnShut c.args.at.host c.args.back.conn c.in-Shut.reason,
      refl,
      StandsAt-owed c.append.new.self.trail.client c.args.wired.now.trail.point c.append.new.self.trail.point c.args.at c.args.back c.in-Shut.reason c.args.server.now c.args.running.now h
          (held-conn c.args.at c.args.back c.args.server.now c.args.running.now c.requires.lent) c.requires.next c.requires.places
          (subst (λ (es : List PoolEntry). IsChecked c.args.wired.now.trail.point c.append.new.self.trail.point c.args.at c.args.back c.args.server.now c.args.running.now h es) one m),
    )

pub returns-clause-back : goal.returns-clause-back
returns-clause-back g c =
    let adds = c.append.ensures.adds (fact.CheckedIn c.args.at.op c.args.at.host c.args.back.conn c.args.back.errored) refl in
    let shuts = c.append-2.ensures.adds (fact.ConnShut c.args.at.host c.args.back.conn c.in-Shut.reason) refl in
    let h = c.requires.lent.held in
    let chk = checked c.args.wired.now.trail.client c.args.wired.now.trail.point c.append.new.self.trail.point c.args.at c.args.back c.args.server.now c.args.running.now c.requires.lent
    c.requires.next c.requires.places c.requires.idle adds.point_now in
    let one = shut-owes c.args.server.now.pool.state c.args.back.errored h c.in-Shut.reason (sym c.in-Shut.is ∙ c.check_in-fate.ensures.answer h c.requires.lent.lent) in
    let m = subst (λ (es : List PoolEntry). IsChecked c.args.wired.now.trail.point c.append.new.self.trail.point c.args.at c.args.back c.args.server.now c.args.running.now h es) one chk in
    record {
      mid = c.append.new.self.trail;
      adds = adds;
      shuts = subst (λ (r : Recorded). Adds an_entry c.append.new.self.trail.lists c.args.at.moment (entry_of.ConnShut c.args.at.host c.args.back.conn c.in-Shut.reason)
          (fact.ConnShut c.args.at.host c.args.back.conn c.in-Shut.reason) c.append.new.self.trail r) (sym c.close_conn.ensures.trail) shuts;
      paid = ap (λ (r : Recorded). r.point.owed) c.close_conn.ensures.trail
          ∙ ap (λ (p : Point). p.owed) shuts.point_now
          ∙ ap (λ (os : List Owed). left_owed os (fact.ConnShut c.args.at.host c.args.back.conn c.in-Shut.reason)) m.owes;
      moved = ap (λ (r : Recorded). r.point.state) c.close_conn.ensures.trail
          ∙ ap (λ (p : Point). p.state) shuts.point_now
          ∙ behind-owed c.append.new.self.trail.client c.args.wired.now.trail.point c.append.new.self.trail.point c.args.at c.args.back c.in-Shut.reason c.args.server.now
          c.check_in-fate.new.self c.args.running.now c.leave_pool.new.self h c.requires.places m (c.check_in-fate.ensures.goes h c.requires.lent.lent) c.leave_pool.ensures.left;
    }
