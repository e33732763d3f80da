use Rattle.std.proofs.Common.{◌≡◌, ◌+◌, Some, refl, ap, ◌∙◌, subst, arith, sym}
use Rattle.std.specs.Prelude.{slice_get}
use Rattle.desk_trail.specs.declared.entry.Entry.TheVariants as entry_of
use Rattle.desk_trail.specs.declared.room.Room.{Room}
use Rattle.desk_trail.specs.Facts as fact
use Rattle.desk_trail.specs.Legal.{Point, point_after}
use Rattle.desk_trail.specs.States.{ClientState}
use Rattle.desk_trail.specs.Written.{IsAtLeast, an_entry}
use Rattle.legal_trail.specs.Recorded.{Recorded}
use Rattle.net_link.specs.Seen.{seen}
use Rattle.desk_trail.specs.Streams.{mention_of}
use Rattle.wired_trail.specs.Hearing.{WasHeard, told_of}
use Rattle.wired_trail.proofs.HeardLemmas.{heard-same}
use Rattle.desk_core.proofs.AppendsLemmas.{grown-same}
use Rattle.desk_core.proofs.AttemptLemmas.{IsKept-entry, owed-ended}
use Rattle.desk_core.proofs.BesideLemmas.{GoesBeside-entry, KeepsCheckLines-same}
use Rattle.desk_core.proofs.DropLemmas.{read-there}
use Rattle.desk_core.proofs.KeptLemmas.{IsKept-room}
use Rattle.desk_core.proofs.PoolLemmas.{at-servers}
use Rattle.desk_core.proofs.state.Core.write_end.Goals as goal

pub invariant_of-self : goal.invariant_of-self
invariant_of-self g c =
    IsKept-room c.self.inside.wired c.reserve.new.self c.self.inside.topology.topology c.self.inside.servers.items c.self.inside.gossip c.self.inside.closings c.self.inside.last c.self.inside.stopped
    c.reserve.ensures.same c.reserve.ensures.kept c.self.invariant

pub returns-in_err-reserve-clause-appends : goal.returns-in_err-reserve-clause-appends
returns-in_err-reserve-clause-appends g c =
    rw (← c.self.view_is)
    (grown-same c.args.at.moment c.self.inside.wired.trail c.reserve.new.self.trail (ap (λ s. s.trail.client) c.reserve.ensures.same) (ap (λ s. s.trail.lists) c.reserve.ensures.same)
    (ap (λ s. s.trail.steps) c.reserve.ensures.same))

pub invariant_of-self-2 : goal.invariant_of-self-2
invariant_of-self-2 g c =
    let ready = rw (← c.self.view_is) at c.requires.work.ready in
    let adds = c.end_attempt.ensures.adds in
    let kept =
    IsKept-room c.self.inside.wired c.reserve.new.self c.self.inside.topology.topology c.self.inside.servers.items c.self.inside.gossip c.self.inside.closings c.self.inside.last c.self.inside.stopped
    c.reserve.ensures.same c.reserve.ensures.kept c.self.invariant in
    let used = adds.room_used.steps in
    let more : IsAtLeast (record { names = 0; events = 0; sessions = 0; requests = 0; steps = c.self.inside.closings + 5 }) c.reserve.new.self.trail.room =
    subst (λ (m : Room). IsAtLeast m c.reserve.new.self.trail.room) c.in_ok-room.ensures c.in_ok-reserve.ensures.room in
    let steps = more.steps in
    IsKept-entry 4 c.reserve.new.self.trail c.end_attempt.new.wired.trail c.reserve.new.self.lines c.end_attempt.new.wired.lines c.self.inside.topology.topology c.self.inside.servers.items
    c.self.inside.gossip c.self.inside.closings c.self.inside.last c.args.at.moment c.self.inside.stopped kept ready.runs
    (GoesBeside-entry an_entry c.args.at.moment (entry_of.Ended c.args.at.op c.args.end) (fact.Ended c.args.at.op c.args.end) c.reserve.new.self.trail c.end_attempt.new.wired.trail tt refl adds)
    (ap (λ (w : ClientState). w.servers) c.end_attempt.ensures.moved) (ap (λ (p : Point). p.time) adds.point_now) (ap (λ (p : Point). p.moment) adds.point_now) ready.now used (omega arith)
    (KeepsCheckLines-same c.reserve.new.self.lines c.end_attempt.new.wired.lines (ap (λ s. s.lines) c.end_attempt.ensures.same))

pub returns-clause-writing : goal.returns-clause-writing
returns-clause-writing g c =
    let ready = rw (← c.self.view_is) at c.requires.work.ready in
    let lent = rw (← c.self.view_is) at c.requires.lent in
    let command = rw (← c.self.view_is) at c.requires.work.there in
    let l = c.self.invariant.leads ready.runs in
    let there : slice_get c.self.inside.servers.items c.args.at.lent.host ≡ Some lent.server = at-servers _ _ _ _ _ _ c.args.at.lent.host lent.server l lent.there in
    let is : c.index-server.result.now ≡ lent.server =
    read-there c.self.inside.servers.items c.args.at.lent.host lent.server c.index-server.result.now there c.index-server.ensures in
    let adds = c.end_attempt.ensures.adds in
    let point : c.reserve.new.self.trail.point ≡ c.self.inside.wired.trail.point = ap (λ s. s.trail.point) c.reserve.ensures.same in
    let used = adds.room_used.steps in
    let more : IsAtLeast (record { names = 0; events = 0; sessions = 0; requests = 0; steps = c.self.inside.closings + 5 }) c.reserve.new.self.trail.room =
    subst (λ (m : Room). IsAtLeast m c.reserve.new.self.trail.room) c.in_ok-room.ensures c.in_ok-reserve.ensures.room in
    let steps = more.steps in
    record {
      runs = ready.runs;
      owes =
          owed-ended c.reserve.new.self.trail.client c.args.at.moment c.args.at.op c.args.end c.self.inside.wired.trail.point c.end_attempt.new.wired.trail.point c.args.operation.now
          c.args.at.lent lent c.index-server.result.now command ready.paid is
          (subst (λ (p : Point). c.end_attempt.new.wired.trail.point ≡ point_after c.reserve.new.self.trail.client p (record { at = c.args.at.moment; what = fact.Ended c.args.at.op c.args.end })) point
          adds.point_now)
          ∙ c.in_ok-event.ensures.owes c.args.at.op;
      at = ap (λ (p : Point). p.moment) adds.point_now;
      now = ready.now;
      space = omega arith;
    }

pub end_attempt-requires-clause-on : goal.end_attempt-requires-clause-on
end_attempt-requires-clause-on g c =
    let on = rw (← c.self.view_is) at c.requires.on in
    rw (c.reserve.ensures.same) on

pub end_attempt-requires-clause-heard : goal.end_attempt-requires-clause-heard
end_attempt-requires-clause-heard g c = λ tells.
    let r = c.self.inside.wired.trail in
    let x = c.reserve.new.self.trail in
    let same = c.reserve.ensures.same in
    let heard = rw (← c.self.view_is) at (c.requires.heard tells) in
    heard-same (g.N.Net.history c.self.inside.wired.net) (g.N.Net.history c.reserve.new.self.net) r x
    (mention_of x.client x.point.state c.args.at.moment (fact.Ended c.args.at.op c.args.end))
    (λ s. ap (λ w. seen s (g.N.Net.history w.net)) same) (λ s. ap (λ w. told_of w.trail s) same)
    (subst (λ (t : Recorded). WasHeard (g.N.Net.history c.self.inside.wired.net) r (mention_of t.client t.point.state c.args.at.moment (fact.Ended c.args.at.op c.args.end)))
    (sym (ap (λ w. w.trail) same)) heard)

pub end_attempt-requires-clause-counted : goal.end_attempt-requires-clause-counted
end_attempt-requires-clause-counted g c = λ fault.
    let untold = rw (← c.self.view_is) at (c.requires.counted fault) in
    rw (c.reserve.ensures.same) untold
