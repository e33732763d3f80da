use Rattle.std.proofs.Common.{refl, ap, ◌∙◌, arith, ◌≡◌, subst}
use Rattle.write_retry.specs.declared.attempt_end.AttemptEnd.TheVariants as attempt
use Rattle.write_retry.specs.declared.events.OpEvent.TheVariants as event
use Rattle.desk_trail.specs.Attempts.{end_by, with_event}
use Rattle.desk_trail.specs.Facts as fact
use Rattle.desk_trail.specs.Legal.{Point}
use Rattle.desk_trail.specs.States.{CommandState}
use Rattle.cmd_step.proofs.RefusalLemmas.{StandsAt-refused, StandsAt-unsent, behind-unsent, refused}
use Rattle.cmd_step.proofs.answering.refuse.Goals as goal
use Rattle.wired_trail.specs.Hearing.{IsPlain}
use Rattle.cmd_step.proofs.HeardLemmas.{refusal-plain}

pub append-requires-clause-stands : goal.append-requires-clause-stands
append-requires-clause-stands g c = (
  fact.NotLent c.args.at.op c.args.at.host c.args.why,
  refl,
  StandsAt-refused c.args.wired.now.trail.client c.args.wired.now.trail.point c.args.at c.args.why c.requires.answered.0 c.args.server.now c.args.running.now c.requires.answered.1
      c.requires.free c.requires.answered.2,
)

pub append-requires-2-clause-room : goal.append-requires-2-clause-room
append-requires-2-clause-room g c =
    let adds = c.append.ensures.adds (fact.NotLent c.args.at.op c.args.at.host c.args.why) refl in
    let used = adds.room_used in
    let space = c.requires.room in
    record { names = omega arith; events = omega arith; sessions = omega arith; requests = omega arith; steps = omega arith }

pub append-requires-2-clause-stands : goal.append-requires-2-clause-stands
append-requires-2-clause-stands g c =
    let adds = c.append.ensures.adds (fact.NotLent c.args.at.op c.args.at.host c.args.why) refl in
    let mid = refused c.args.wired.now.trail.client c.args.wired.now.trail.point c.append.new.self.trail.point c.args.at c.args.why c.requires.answered.0 c.args.server.now c.args.running.now
    c.requires.answered.1 c.requires.free c.requires.answered.2 adds.point_now in (
      fact.Ended c.args.at.op (attempt.Unsent c.args.why),
      refl,
      StandsAt-unsent c.append.new.self.trail.client c.args.wired.now.trail.point c.append.new.self.trail.point c.args.at c.args.why c.requires.answered.0 c.args.server.now
          c.args.running.now c.requires.answered.1 c.requires.free c.requires.answered.2 mid,
    )

pub returns-clause-refused : goal.returns-clause-refused
returns-clause-refused g c =
    let adds = c.append.ensures.adds (fact.NotLent c.args.at.op c.args.at.host c.args.why) refl in
    let ends = c.append-2.ensures.adds (fact.Ended c.args.at.op (attempt.Unsent c.args.why)) refl in
    let mid = refused c.args.wired.now.trail.client c.args.wired.now.trail.point c.append.new.self.trail.point c.args.at c.args.why c.requires.answered.0 c.args.server.now c.args.running.now
    c.requires.answered.1 c.requires.free c.requires.answered.2 adds.point_now in
    record {
      mid = c.append.new.self.trail;
      told = adds;
      ends = ends;
      moved = ap (λ (p : Point). p.state) ends.point_now
          ∙ behind-unsent c.append.new.self.trail.client c.args.wired.now.trail.point c.append.new.self.trail.point c.args.at c.args.why c.requires.answered.0 c.args.server.now
          c.args.running.now c.end.new.self c.requires.answered.2 mid
          (c.end.ensures.ended ∙ ap (λ (x : CommandState). with_event (event.Unsent c.args.why) (end_by (attempt.Unsent c.args.why) x)) c.leave_pool.ensures.left);
    }

pub append-requires-clause-plain : goal.append-requires-clause-plain
append-requires-clause-plain g c = λ told is.
    let same : fact.NotLent c.args.at.op c.args.at.host c.args.why ≡ told = cc in
    subst (IsPlain c.args.wired.now.lines) same
    (refusal-plain c.args.wired.now.lines c.args.at.op c.args.at.host c.args.why c.requires.answered.0 c.requires.answered.1)
