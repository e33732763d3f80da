use Rattle.std.proofs.Common.{◌≡◌, Some, subst, ◌∷◌, [], refl, arith, false}
use Rattle.pool_book.specs.Entries as pool
use Rattle.write_retry.specs.declared.events.OpEvent.TheVariants as event
use Rattle.desk_trail.specs.Attempts.{with_event}
use Rattle.desk_trail.specs.Facts as fact
use Rattle.desk_trail.specs.Owed as owed
use Rattle.cmd_step.proofs.SettleLemmas.{StandsAt-lent_due, StandsAt-settled, at-heard, behind-settled, between, having, is-dialling, may-hear, moves-lent}
use Rattle.cmd_step.proofs.StepLemmas.{Moves-trans, paid, room-behind}
use Rattle.cmd_step.proofs.establishing.lend_dialled.Goals as goal
use Rattle.wired_trail.specs.Hearing.{SpeaksOf, TellsHeard}

pub tell-requires-clause-stands : goal.tell-requires-clause-stands
tell-requires-clause-stands g c = (
  fact.Settled c.args.at.op c.args.at.host c.args.greeted.conn false,
  refl,
  StandsAt-settled c.args.wired.now.trail.client c.args.wired.now.trail.point c.args.at c.args.greeted.conn false c.args.server.now c.args.running.now c.requires.free c.requires.settled,
)

pub tell_news-requires-clause-room : goal.tell_news-requires-clause-room
tell_news-requires-clause-room g c =
    let used = (c.tell.ensures.adds (fact.Settled c.args.at.op c.args.at.host c.args.greeted.conn false) refl).room_used in
    let space = c.requires.room in
    omega arith

pub tell_news-requires-clause-may : goal.tell_news-requires-clause-may
tell_news-requires-clause-may g c =
    let h = c.requires.settled in
    may-hear c.args.wired.now.trail c.tell.new.self.trail c.args.at c.args.greeted.conn false c.args.server.now c.args.running.now c.args.greeted.news
    (pool.Lent h.dialled.held.ticket c.args.greeted.conn) [] c.requires.free h refl c.requires.news
    (c.tell.ensures.adds (fact.Settled c.args.at.op c.args.at.host c.args.greeted.conn false) refl)

pub append-requires-clause-room : goal.append-requires-clause-room
append-requires-clause-room g c =
    let one = (c.tell.ensures.adds (fact.Settled c.args.at.op c.args.at.host c.args.greeted.conn false) refl).room_used in
    let two = room-behind c.args.at.moment c.args.greeted.news c.tell.new.self.trail c.tell_news.new.wired.trail c.tell_news.ensures.told in
    let space = c.requires.room in
    record { names = omega arith; events = omega arith; sessions = omega arith; requests = omega arith; steps = omega arith }

pub append-requires-clause-stands : goal.append-requires-clause-stands
append-requires-clause-stands g c =
    let at = c.args.at in
    let conn = c.args.greeted.conn in
    let r = c.args.wired.now.trail in
    let x = c.tell_news.new.wired.trail in
    let t = c.args.server.now in
    let k = c.args.running.now in
    let h = c.requires.settled in
    let lent = pool.Lent h.dialled.held.ticket conn in
    let s = between r.point.state at conn false t k h (lent ∷ []) in
    let m = at-heard r c.tell.new.self.trail x at conn false t k c.args.greeted.news (lent ∷ []) c.requires.free h refl (c.tell.ensures.adds (fact.Settled at.op at.host conn false) refl)
    c.tell_news.ensures.told in (
      fact.Lent at.op at.host conn,
      refl,
      StandsAt-lent_due x.client x.point at h.dialled.held.ticket conn s k [] [] (is-dialling r.point x.point at conn h.server s k h.dialled lent [] [] h.places c.requires.free.goes_on refl m),
    )

pub returns-clause-lent : goal.returns-clause-lent
returns-clause-lent g c =
    let at = c.args.at in
    let conn = c.args.greeted.conn in
    let r = c.args.wired.now.trail in
    let x = c.tell_news.new.wired.trail in
    let y = c.append.new.self.trail in
    let t = c.args.server.now in
    let k = c.args.running.now in
    let h = c.requires.settled in
    let lent = pool.Lent h.dialled.held.ticket conn in
    let s = between r.point.state at conn false t k h (lent ∷ []) in
    let settled = c.tell.ensures.adds (fact.Settled at.op at.host conn false) refl in
    let lends = c.append.ensures.adds (fact.Lent at.op at.host conn) refl in
    let m = at-heard r c.tell.new.self.trail x at conn false t k c.args.greeted.news (lent ∷ []) c.requires.free h refl settled c.tell_news.ensures.told in
    let n = Moves-trans r.point x.point y.point at s (paid s []) k (with_event event.Lent (having conn k)) (owed.OfPool at.host ∷ []) [] m
    (moves-lent x.client x.point y.point at h.dialled.held.ticket conn s k [] [] (is-dialling r.point x.point at conn h.server s k h.dialled lent [] [] h.places c.requires.free.goes_on refl m)
    lends.point_now) in
    record {
      mid = c.tell.new.self.trail;
      heard = x;
      settled = settled;
      news = c.tell_news.ensures.told;
      lent = lends;
      moved = behind-settled r.point y.point at h.server t (paid s []) (with_event event.Lent (having conn k)) c.take.new.self [] n h.moves.moves c.take.ensures.has;
    }

pub returns-clause-paid : goal.returns-clause-paid
returns-clause-paid g c =
    let at = c.args.at in
    let conn = c.args.greeted.conn in
    let r = c.args.wired.now.trail in
    let x = c.tell_news.new.wired.trail in
    let y = c.append.new.self.trail in
    let t = c.args.server.now in
    let k = c.args.running.now in
    let h = c.requires.settled in
    let lent = pool.Lent h.dialled.held.ticket conn in
    let s = between r.point.state at conn false t k h (lent ∷ []) in
    let m = at-heard r c.tell.new.self.trail x at conn false t k c.args.greeted.news (lent ∷ []) c.requires.free h refl
    (c.tell.ensures.adds (fact.Settled at.op at.host conn false) refl) c.tell_news.ensures.told in
    (moves-lent x.client x.point y.point at h.dialled.held.ticket conn s k [] [] (is-dialling r.point x.point at conn h.server s k h.dialled lent [] [] h.places c.requires.free.goes_on refl m)
    (c.append.ensures.adds (fact.Lent at.op at.host conn) refl).point_now).owes

pub tell-requires-clause-speaks : goal.tell-requires-clause-speaks
tell-requires-clause-speaks g c = λ told is.
    let r = c.args.wired.now.trail in
    let same : fact.Settled c.args.at.op c.args.at.host c.args.greeted.conn false ≡ told = cc in
    subst (SpeaksOf r.client r.point.state c.args.at.moment (Some c.args.greeted.stream)) same c.requires.on

pub tell-requires-clause-heard : goal.tell-requires-clause-heard
tell-requires-clause-heard g c = λ tells told is.
    let same : fact.Settled c.args.at.op c.args.at.host c.args.greeted.conn false ≡ told = cc in
    subst (TellsHeard (g.N.Net.history c.args.wired.now.net) c.args.wired.now.trail c.args.at.moment) same (c.requires.heard tells)

pub tell_news-requires-clause-came : goal.tell_news-requires-clause-came
tell_news-requires-clause-came g c = λ tells. rw (c.tell.ensures.same) (c.requires.came tells)
