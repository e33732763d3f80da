use Rattle.std.proofs.Common.{None, refl, sym, ap, ◌∙◌, subst, arith, [], ◌∷◌}
use Rattle.desk_trail.specs.Facts as fact
use Rattle.desk_trail.specs.Owed as owed
use Rattle.desk_trail.specs.States.{ClientState, ServerState}
use Rattle.cmd_step.specs.Places.{AreAt, with_both}
use Rattle.cmd_step.proofs.DialLemmas.{StandsAt-dialled, dialling, has-dialled, held-dialled, may-tell_failed, moves-failed, new_held, same-offers}
use Rattle.cmd_step.proofs.StepLemmas.{AreAt-moved, both-twice}
use Rattle.cmd_step.proofs.dialling.fail.Goals as goal
use Rattle.cmd_step.proofs.HeardLemmas.{stream-dialled, unheard}

pub tell_undialled-requires-clause-stands : goal.tell_undialled-requires-clause-stands
tell_undialled-requires-clause-stands g c = (
  fact.Dialled c.args.dial.at.op c.args.dial.at.host c.args.dial.conn None,
  refl,
  StandsAt-dialled c.args.wired.now.trail.client c.args.wired.now.trail.point c.args.dial.at c.args.dial.conn None c.args.server.now c.args.running.now c.requires.free tt c.requires.answered,
)

pub lose-requires-clause-tells : goal.lose-requires-clause-tells
lose-requires-clause-tells g c =
    let r = c.args.wired.now.trail in
    let dial = c.args.dial in
    let adds = c.tell_undialled.ensures.adds (fact.Dialled dial.at.op dial.at.host dial.conn None) refl in
    may-tell_failed r.point c.tell_undialled.new.self.trail.point dial.at c.args.server.now (dialling dial.at.moment dial.conn c.args.running.now) c.requires.free.goes_on
    (moves-failed r.client r.point c.tell_undialled.new.self.trail.point dial.at dial.conn c.args.server.now c.args.running.now c.requires.free c.requires.answered adds.point_now)

pub lose-requires-clause-room : goal.lose-requires-clause-room
lose-requires-clause-room g c =
    let used = (c.tell_undialled.ensures.adds (fact.Dialled c.args.dial.at.op c.args.dial.at.host c.args.dial.conn None) refl).room_used.steps in
    let space = c.requires.steps in
    omega arith

pub lose-requires-clause-places : goal.lose-requires-clause-places
lose-requires-clause-places g c =
    let r = c.args.wired.now.trail in
    let dial = c.args.dial in
    let u = c.args.server.now in
    let k = c.args.running.now in
    let h = c.requires.answered in
    let adds = c.tell_undialled.ensures.adds (fact.Dialled dial.at.op dial.at.host dial.conn None) refl in
    subst (AreAt c.tell_undialled.new.self.trail.point.state dial.at u) (sym c.dial.ensures.dials)
    (AreAt-moved r.point c.tell_undialled.new.self.trail.point dial.at h.server u k (dialling dial.at.moment dial.conn k) (owed.NoDial dial.at.op dial.at.host ∷ []) h.places
    (moves-failed r.client r.point c.tell_undialled.new.self.trail.point dial.at dial.conn u k c.requires.free h adds.point_now))

pub lose-requires-clause-idle : goal.lose-requires-clause-idle
lose-requires-clause-idle g c = ap (λ (x : ServerState). x.pool.owed) c.requires.answered.moves.moves

pub lose-requires-clause-dialled : goal.lose-requires-clause-dialled
lose-requires-clause-dialled g c =
    let r = c.args.wired.now.trail in
    let dial = c.args.dial in
    let u = c.args.server.now in
    let k = c.args.running.now in
    let h = c.requires.answered in
    let adds = c.tell_undialled.ensures.adds (fact.Dialled dial.at.op dial.at.host dial.conn None) refl in
    let places = AreAt-moved r.point c.tell_undialled.new.self.trail.point dial.at h.server u k (dialling dial.at.moment dial.conn k) (owed.NoDial dial.at.op dial.at.host ∷ []) h.places
    (moves-failed r.client r.point c.tell_undialled.new.self.trail.point dial.at dial.conn u k c.requires.free h adds.point_now) in
    has-dialled r.point.state dial.at dial.conn u k c.dial.new.self h c.dial.ensures.dials (c.stands_once.ensures.once dial.at.host u places.server dial.conn)

pub returns-clause-failed : goal.returns-clause-failed
returns-clause-failed g c =
    let r = c.args.wired.now.trail in
    let dial = c.args.dial in
    let u = c.args.server.now in
    let k = c.args.running.now in
    let h = c.requires.answered in
    let mid = c.tell_undialled.new.self.trail in
    let adds = c.tell_undialled.ensures.adds (fact.Dialled dial.at.op dial.at.host dial.conn None) refl in
    let m = moves-failed r.client r.point mid.point dial.at dial.conn u k c.requires.free h adds.point_now in
    let places = AreAt-moved r.point mid.point dial.at h.server u k (dialling dial.at.moment dial.conn k) (owed.NoDial dial.at.op dial.at.host ∷ []) h.places m in
    let pending = held-dialled h.server u dial.at.moment h.ticket dial.conn h.moves (c.stands_once.ensures.once dial.at.host u places.server dial.conn) in
    let held = new_held dial.conn h.ticket h.server.pool.state in
    record {
      mid = mid;
      dialled = adds;
      lost = c.lose.ensures.lost;
      moved = c.lose.ensures.lost.moved
          ∙ ap (λ (w : ClientState). with_both w dial.at c.lose.new.server c.lose.new.running) m.state
          ∙ both-twice r.point.state dial.at u c.lose.new.server (dialling dial.at.moment dial.conn k) c.lose.new.running;
      offers = c.lose.ensures.offers held pending ∙ same-offers r.point.state dial.at dial.conn u c.lose.new.server k h (c.lose.ensures.moves held pending);
      lines = c.lose.ensures.streamless c.requires.streamless ∙ ap (λ w. w.lines) c.tell_undialled.ensures.same;
    }

pub lose-requires-clause-heard : goal.lose-requires-clause-heard
lose-requires-clause-heard g c = λ tells.
    let r = c.args.wired.now.trail in
    let dial = c.args.dial in
    let u = c.args.server.now in
    let k = c.args.running.now in
    let h = c.requires.answered in
    let mid = c.tell_undialled.new.self.trail in
    let adds = c.tell_undialled.ensures.adds (fact.Dialled dial.at.op dial.at.host dial.conn None) refl in
    let places = AreAt-moved r.point mid.point dial.at h.server u k (dialling dial.at.moment dial.conn k) (owed.NoDial dial.at.op dial.at.host ∷ []) h.places
    (moves-failed r.client r.point mid.point dial.at dial.conn u k c.requires.free h adds.point_now) in
    let dials = has-dialled r.point.state dial.at dial.conn u k c.dial.new.self h c.dial.ensures.dials (c.stands_once.ensures.once dial.at.host u places.server dial.conn) in
    unheard (g.N.Net.history c.tell_undialled.new.self.net) mid dial.at.moment dial.at.op dial.at.host
    (stream-dialled mid.point.state dial.at dial.conn u c.dial.new.self (subst (AreAt mid.point.state dial.at u) (sym c.dial.ensures.dials) places) dials ∙ c.requires.streamless)

pub tell_undialled-requires-clause-counted : goal.tell_undialled-requires-clause-counted
tell_undialled-requires-clause-counted g c = λ tells. c.requires.counted
