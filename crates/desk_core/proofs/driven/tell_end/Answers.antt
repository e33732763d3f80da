use Rattle.std.proofs.Common.{◌≡◌, Some, refl, subst, arith}
use Rattle.desk_trail.specs.Facts as fact
use Rattle.wired_trail.specs.Hearing.{IsPlain, SpeaksOf, TellsHeard}
use Rattle.desk_core.proofs.DriveLemmas.{fault-ended}
use Rattle.desk_core.proofs.HeardLemmas.{check-plain, check-speaks}
use Rattle.desk_core.proofs.driven.tell_end.Goals as goal

pub append-requires-clause-room : goal.append-requires-clause-room
append-requires-clause-room g c =
    let space = c.requires.room in
    record { names = omega arith; events = omega arith; sessions = omega arith; requests = omega arith; steps = omega arith }

pub append-requires-clause-stands : goal.append-requires-clause-stands
append-requires-clause-stands g c = (fact.CheckEnded c.args.at.host c.args.how, refl, c.requires.stands)

pub append-requires-clause-plain : goal.append-requires-clause-plain
append-requires-clause-plain g c = λ told is.
    let same : fact.CheckEnded c.args.at.host c.args.how ≡ told = cc in
    let reply = c.keeps_stream.ensures.yes c.if-keeps_stream.true in
    subst (IsPlain c.args.wired.now.lines) same (check-plain c.args.wired.now.lines c.args.at.host reply.0 c.args.how reply.1)

pub tell-requires-clause-room : goal.tell-requires-clause-room
tell-requires-clause-room g c =
    let space = c.requires.room in
    record { names = omega arith; events = omega arith; sessions = omega arith; requests = omega arith; steps = omega arith }

pub tell-requires-clause-stands : goal.tell-requires-clause-stands
tell-requires-clause-stands g c = (fact.CheckEnded c.args.at.host c.args.how, refl, c.requires.stands)

pub tell-requires-clause-speaks : goal.tell-requires-clause-speaks
tell-requires-clause-speaks g c = λ told is.
    let r = c.args.wired.now.trail in
    let same : fact.CheckEnded c.args.at.host c.args.how ≡ told = cc in
    subst (SpeaksOf r.client r.point.state c.args.moment (Some c.args.at.stream)) same
    (check-speaks r.client r.point.state c.args.moment c.args.at.host c.args.at.stream c.args.how c.requires.ran (c.keeps_stream.ensures.no c.if-keeps_stream.false) c.requires.on)

pub tell-requires-clause-heard : goal.tell-requires-clause-heard
tell-requires-clause-heard g c = λ tells told is.
    let same : fact.CheckEnded c.args.at.host c.args.how ≡ told = cc in
    subst (TellsHeard (g.N.Net.history c.args.wired.now.net) c.args.wired.now.trail c.args.moment) same (c.requires.heard tells)

pub returns-then-keeps_stream-clause-adds : goal.returns-then-keeps_stream-clause-adds
returns-then-keeps_stream-clause-adds g c = c.append.ensures.adds (fact.CheckEnded c.args.at.host c.args.how) refl

pub returns-else-keeps_stream-clause-adds : goal.returns-else-keeps_stream-clause-adds
returns-else-keeps_stream-clause-adds g c = c.tell.ensures.adds (fact.CheckEnded c.args.at.host c.args.how) refl

pub returns-then-keeps_stream-clause-silent : goal.returns-then-keeps_stream-clause-silent
returns-then-keeps_stream-clause-silent g c = λ sample e s. c.append.ensures.silent s

pub returns-else-keeps_stream-clause-silent : goal.returns-else-keeps_stream-clause-silent
returns-else-keeps_stream-clause-silent g c = λ sample e s. absurd (c.keeps_stream.ensures.no c.if-keeps_stream.false sample e)

pub tell-requires-clause-counted : goal.tell-requires-clause-counted
tell-requires-clause-counted g c = λ tells. c.requires.counted (fault-ended c.args.at.host c.args.how c.requires.ran tells)
