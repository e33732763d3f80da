use Rattle.std.proofs.Common.{◌≡◌, Some, refl, ap, ◌∙◌, subst}
use Rattle.desk_trail.specs.Facts as fact
use Rattle.desk_trail.specs.Legal.{Point}
use Rattle.cmd_step.proofs.EndLemmas.{StandsAt-ended, behind-ended, ended-by_fault}
use Rattle.cmd_step.proofs.ending.end_attempt.Goals as goal
use Rattle.wired_trail.specs.Hearing.{SpeaksOf, TellsHeard}
use Rattle.cmd_step.proofs.HeardLemmas.{ended-speaks}

pub tell-requires-clause-stands : goal.tell-requires-clause-stands
tell-requires-clause-stands g c = (
  fact.Ended c.args.at.op c.args.end,
  refl,
  StandsAt-ended c.args.wired.now.trail.client c.args.wired.now.trail.point c.args.at.moment c.args.at.op c.args.end c.args.running.now c.requires.free c.requires.there c.requires.behind
      c.requires.ends c.requires.awaited,
)

pub returns-clause-adds : goal.returns-clause-adds
returns-clause-adds g c = c.tell.ensures.adds (fact.Ended c.args.at.op c.args.end) refl

pub returns-clause-moved : goal.returns-clause-moved
returns-clause-moved g c =
    let adds = c.tell.ensures.adds (fact.Ended c.args.at.op c.args.end) refl in
    ap (λ (p : Point). p.state) adds.point_now
    ∙ behind-ended c.args.wired.now.trail.client c.args.wired.now.trail.point.state c.args.at.moment c.args.at.op c.args.end c.args.running.now c.end.new.self c.requires.there
    c.end.ensures.ended

pub tell-requires-clause-speaks : goal.tell-requires-clause-speaks
tell-requires-clause-speaks g c = λ told is.
    let r = c.args.wired.now.trail in
    let same : fact.Ended c.args.at.op c.args.end ≡ told = cc in
    subst (SpeaksOf r.client r.point.state c.args.at.moment (Some c.args.at.stream)) same
    (ended-speaks r.client r.point.state c.args.at.moment c.args.at.op c.args.end (Some c.args.at.stream) c.requires.behind c.requires.on)

pub tell-requires-clause-heard : goal.tell-requires-clause-heard
tell-requires-clause-heard g c = λ tells told is.
    let same : fact.Ended c.args.at.op c.args.end ≡ told = cc in
    subst (TellsHeard (g.N.Net.history c.args.wired.now.net) c.args.wired.now.trail c.args.at.moment) same (c.requires.heard tells)

pub tell-requires-clause-counted : goal.tell-requires-clause-counted
tell-requires-clause-counted g c = λ tells. c.requires.counted (ended-by_fault c.args.at.op c.args.end tells)
