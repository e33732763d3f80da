use Rattle.std.proofs.Common.{◌<◌, ap, subst, ◌≡◌, Some, w32, to_z, of_z}
use Rattle.std.specs.Option.{IfNone, IfSome}
use Rattle.desk_core.specs.Receiving.{IsHeard}
use Rattle.desk_core.specs.Steps.{for_reply}
use Rattle.cmd_reply.specs.declared.attempt.AttemptResult.{AttemptResult}
use Rattle.desk_trail.specs.Streams.{stream_at}
use Rattle.write_retry.specs.declared.attempt_end.AttemptEnd.TheVariants as attempt
use Rattle.wired_trail.specs.Faults.{IsUntold}
use Rattle.desk_core.specs.Hearing.{HearsAttempt}
use Rattle.std.specs.Prelude.{Option}
use Rattle.cmd_reply.specs.declared.waiting.Waiting.{Waiting}
use Rattle.desk_core.proofs.HeardLemmas.{attempt-heard, stream-lent}
use Rattle.desk_core.proofs.AppendsLemmas.{grown-same}
use Rattle.desk_core.proofs.AttemptLemmas.{IsEnd-by, IsKept-lines, MovesOne-same}
use Rattle.desk_core.proofs.BesideLemmas.{KeepsCheckLines-conn}
use Rattle.desk_core.proofs.state.Core.await_reply.Goals as goal

pub invariant_of-self : goal.invariant_of-self
invariant_of-self g c =
    let ready = rw (← c.self.view_is) at c.requires.work.ready in
    let on = rw (← c.self.view_is) at c.requires.on in
    IsKept-lines c.self.inside.wired.trail c.hear.new.wired.trail c.self.inside.wired.lines c.hear.new.wired.lines c.self.inside.topology.topology c.self.inside.servers.items
    c.self.inside.gossip c.self.inside.closings c.self.inside.last c.self.inside.stopped c.self.invariant ready.runs c.hear.ensures.trail
    (KeepsCheckLines-conn c.args.stream c.args.at.lent.host c.args.at.lent.conn c.self.inside.wired.lines c.hear.new.wired.lines on.line on.line_there on.is_for c.hear.ensures.others)

pub returns-in_err-came-clause-appends : goal.returns-in_err-came-clause-appends
returns-in_err-came-clause-appends g c =
    rw (← c.self.view_is)
    (grown-same c.args.at.moment c.self.inside.wired.trail c.hear.new.wired.trail (ap (λ t. t.client) c.hear.ensures.trail) (ap (λ t. t.lists) c.hear.ensures.trail)
    (ap (λ t. t.steps) c.hear.ensures.trail))

pub invariant_of-self-in-None : goal.invariant_of-self-in-None
invariant_of-self-in-None g c =
    let ready = rw (← c.self.view_is) at c.requires.work.ready in
    let on = rw (← c.self.view_is) at c.requires.on in
    IsKept-lines c.self.inside.wired.trail c.hear.new.wired.trail c.self.inside.wired.lines c.hear.new.wired.lines c.self.inside.topology.topology c.self.inside.servers.items
    c.self.inside.gossip c.self.inside.closings c.self.inside.last c.self.inside.stopped c.self.invariant ready.runs c.hear.ensures.trail
    (KeepsCheckLines-conn c.args.stream c.args.at.lent.host c.args.at.lent.conn c.self.inside.wired.lines c.hear.new.wired.lines on.line on.line_there on.is_for c.hear.ensures.others)

pub invariant_of-self-in-Some : goal.invariant_of-self-in-Some
invariant_of-self-in-Some g c =
    let ready = rw (← c.self.view_is) at c.requires.work.ready in
    let on = rw (← c.self.view_is) at c.requires.on in
    IsKept-lines c.self.inside.wired.trail c.hear.new.wired.trail c.self.inside.wired.lines c.hear.new.wired.lines c.self.inside.topology.topology c.self.inside.servers.items
    c.self.inside.gossip c.self.inside.closings c.self.inside.last c.self.inside.stopped c.self.invariant ready.runs c.hear.ensures.trail
    (KeepsCheckLines-conn c.args.stream c.args.at.lent.host c.args.at.lent.conn c.self.inside.wired.lines c.hear.new.wired.lines on.line on.line_there on.is_for c.hear.ensures.others)

pub end_behind-requires-clause-ends : goal.end_behind-requires-clause-ends
end_behind-requires-clause-ends g c =
    let lent = rw (← c.self.view_is) at c.requires.lent in
    let until = rw (← c.self.view_is) at c.requires.until in
    let heard : IsHeard c.args.limit c.args.at.moment c.in-Some.ended =
    subst (λ o. IfSome o (IsHeard c.args.limit c.args.at.moment)) c.in-Some.is c.in_ok-came.ensures.heard in
    rw (c.hear.ensures.trail)
    (IsEnd-by c.self.inside.wired.trail.client c.self.inside.wired.trail.point.state c.args.at.moment c.args.limit until.0 c.args.operation.now c.args.at.lent c.in-Some.ended lent until.1 until.2
    heard)

pub returns-in-None-clause-moves : goal.returns-in-None-clause-moves
returns-in-None-clause-moves g c =
    let there = rw (← c.self.view_is) at c.requires.work.there in
    rw (← c.self.view_is) (MovesOne-same c.args.at.op c.args.operation.now c.self.inside.wired.trail c.hear.new.wired.trail c.hear.ensures.trail there)

pub returns-in-None-clause-means : goal.returns-in-None-clause-means
returns-in-None-clause-means g c =
    record {
      for_what = for_reply c.requires.until.0 c.requires.reads c.requires.until.1 c.requires.until.2;
      later = subst (λ o. IfNone o (c.args.at.moment < c.args.limit)) c.in-None.is c.in_ok-came.ensures.early;
    }

pub returns-in-None-clause-appends : goal.returns-in-None-clause-appends
returns-in-None-clause-appends g c =
    rw (← c.self.view_is)
    (grown-same c.args.at.moment c.self.inside.wired.trail c.hear.new.wired.trail (ap (λ t. t.client) c.hear.ensures.trail) (ap (λ t. t.lists) c.hear.ensures.trail)
    (ap (λ t. t.steps) c.hear.ensures.trail))

pub end_behind-requires-clause-on : goal.end_behind-requires-clause-on
end_behind-requires-clause-on g c =
    let lent = rw (← c.self.view_is) at c.requires.lent in
    let on = rw (← c.self.view_is) at c.requires.on in
    let there = rw (← c.self.view_is) at c.requires.work.there in
    rw (c.hear.ensures.trail)
    (stream-lent c.self.inside.wired.trail.point.state c.self.inside.wired.lines c.args.at.op c.args.stream c.args.operation.now c.args.at.lent there lent on)

pub end_behind-requires-clause-heard : goal.end_behind-requires-clause-heard
end_behind-requires-clause-heard g c = λ tells.
    let lent = rw (← c.self.view_is) at c.requires.lent in
    let on = rw (← c.self.view_is) at c.requires.on in
    let there = rw (← c.self.view_is) at c.requires.work.there in
    let has : stream_at c.hear.new.wired.trail.point.state c.args.at.op ≡ Some c.args.stream = rw (c.hear.ensures.trail)
    (stream-lent c.self.inside.wired.trail.point.state c.self.inside.wired.lines c.args.at.op c.args.stream c.args.operation.now c.args.at.lent there lent on) in
    let waiting : Waiting = record { id = to_z w32 (of_z w32 c.operation.inside.awaited); limit = c.args.limit } in
    let heard =
    subst (λ (o : Option AttemptResult). IfSome o (HearsAttempt (g.N.Net.history c.hear.new.wired.net) c.hear.new.wired.trail c.args.stream waiting c.args.at.moment)) c.in-Some.is (c.in_ok-came.ensures.hears tells) in
    (attempt-heard (g.N.Net.history c.hear.new.wired.net) c.hear.new.wired.trail c.args.stream c.args.at.op waiting c.args.at.moment c.in-Some.ended heard has).0

pub end_behind-requires-clause-came : goal.end_behind-requires-clause-came
end_behind-requires-clause-came g c = λ tells.
    let lent = rw (← c.self.view_is) at c.requires.lent in
    let on = rw (← c.self.view_is) at c.requires.on in
    let there = rw (← c.self.view_is) at c.requires.work.there in
    let has : stream_at c.hear.new.wired.trail.point.state c.args.at.op ≡ Some c.args.stream = rw (c.hear.ensures.trail)
    (stream-lent c.self.inside.wired.trail.point.state c.self.inside.wired.lines c.args.at.op c.args.stream c.args.operation.now c.args.at.lent there lent on) in
    let waiting : Waiting = record { id = to_z w32 (of_z w32 c.operation.inside.awaited); limit = c.args.limit } in
    let heard =
    subst (λ (o : Option AttemptResult). IfSome o (HearsAttempt (g.N.Net.history c.hear.new.wired.net) c.hear.new.wired.trail c.args.stream waiting c.args.at.moment)) c.in-Some.is (c.in_ok-came.ensures.hears tells) in
    (attempt-heard (g.N.Net.history c.hear.new.wired.net) c.hear.new.wired.trail c.args.stream c.args.at.op waiting c.args.at.moment c.in-Some.ended heard has).1

pub end_behind-requires-clause-counted : goal.end_behind-requires-clause-counted
end_behind-requires-clause-counted g c =
    subst
    (λ (o : Option AttemptResult). IfSome o (λ e. e.end ≡ attempt.Fault → IsUntold (g.N.Net.faults c.hear.new.wired.net) c.hear.new.wired.trail.steps))
    c.in-Some.is c.in_ok-came.ensures.counted
