use Rattle.std.proofs.Common.{◌≡◌, refl, sym, ap, ◌∙◌, subst, arith}
use Rattle.pool_book.specs.declared.answers.CloseReason.TheVariants.{Errored}
use Rattle.pool_book.specs.declared.connections.Held.{Held}
use Rattle.write_retry.specs.declared.attempt_end.AttemptEnd.TheVariants as attempt
use Rattle.desk_trail.specs.Facts as fact
use Rattle.cmd_step.specs.Losses.{loss_owes}
use Rattle.write_retry.specs.Machine.{allows}
use Rattle.write_retry.specs.declared.events.OpEvent.TheVariants as event
use Rattle.cmd_step.proofs.LossLemmas.{IsLosing, Shut, StandsAt-ended, StandsAt-heard, StandsAt-lost, at-ended, at-heard, at-shut, behind-lost, left, loss-ends, may-hear, offers}
use Rattle.cmd_step.proofs.StepLemmas.{room-behind, unsent_by}
use Rattle.cmd_step.proofs.losing.lose.Goals as goal
use Rattle.wired_trail.specs.Hearing.{SpeaksOf, TellsHeard}
use Rattle.cmd_step.proofs.HeardLemmas.{lost-speaks, stream-dialled}

pub tell-requires-clause-stands : goal.tell-requires-clause-stands
tell-requires-clause-stands g c = (
  fact.NotLent c.args.at.op c.args.at.host c.args.loss.why,
  refl,
  StandsAt-lost c.args.wired.now.trail.client c.args.wired.now.trail.point c.args.at c.args.loss.conn c.args.loss.why c.args.server.now c.args.running.now c.requires.tells c.requires.places
      c.requires.idle c.requires.dialled c.requires.loss,
)

pub tell_news-requires-clause-room : goal.tell_news-requires-clause-room
tell_news-requires-clause-room g c =
    let used = (c.tell.ensures.adds (fact.NotLent c.args.at.op c.args.at.host c.args.loss.why) refl).room_used in
    let space = c.requires.room in
    omega arith

pub tell_news-requires-clause-may : goal.tell_news-requires-clause-may
tell_news-requires-clause-may g c =
    may-hear c.args.wired.now.trail c.tell.new.self.trail c.args.at c.args.loss c.args.server.now c.args.running.now
    (record { tells = c.requires.tells; places = c.requires.places; idle = c.requires.idle; dialled = c.requires.dialled; is_loss = c.requires.loss }) c.requires.news
    (c.tell.ensures.adds (fact.NotLent c.args.at.op c.args.at.host c.args.loss.why) refl)

pub append-requires-clause-room : goal.append-requires-clause-room
append-requires-clause-room g c =
    let one = (c.tell.ensures.adds (fact.NotLent c.args.at.op c.args.at.host c.args.loss.why) refl).room_used in
    let two = room-behind c.args.at.moment c.args.loss.news c.tell.new.self.trail c.tell_news.new.wired.trail c.tell_news.ensures.told in
    let space = c.requires.room in
    record { names = omega arith; events = omega arith; sessions = omega arith; requests = omega arith; steps = omega arith }

pub append-requires-clause-stands : goal.append-requires-clause-stands
append-requires-clause-stands g c =
    let at = c.args.at in
    let loss = c.args.loss in
    let r = c.args.wired.now.trail in
    let s = c.args.server.now in
    let k = c.args.running.now in
    let h : IsLosing r at loss s k = record { tells = c.requires.tells; places = c.requires.places; idle = c.requires.idle; dialled = c.requires.dialled; is_loss = c.requires.loss } in
    let told = c.tell.ensures.adds (fact.NotLent at.op at.host loss.why) refl in (
      fact.Ended at.op (attempt.Unsent loss.why),
      refl,
      StandsAt-heard c.tell_news.new.wired.trail.client r c.tell_news.new.wired.trail at loss s k h
          (at-heard r c.tell.new.self.trail c.tell_news.new.wired.trail at loss s k h told c.tell_news.ensures.told),
    )

pub end_unsent-requires : goal.end_unsent-requires
end_unsent-requires g c = record {
  awaited = ap (λ n. allows n (event.Unsent c.args.loss.why)) c.requires.dialled.asks ∙ (loss-ends c.args.at.host c.args.loss.why c.requires.loss).answers;
}

pub append-requires-2-clause-room : goal.append-requires-2-clause-room
append-requires-2-clause-room g c =
    let one = (c.tell.ensures.adds (fact.NotLent c.args.at.op c.args.at.host c.args.loss.why) refl).room_used in
    let two = room-behind c.args.at.moment c.args.loss.news c.tell.new.self.trail c.tell_news.new.wired.trail c.tell_news.ensures.told in
    let three = (c.append.ensures.adds (fact.Ended c.args.at.op (attempt.Unsent c.args.loss.why)) refl).room_used in
    let space = c.requires.room in
    record { names = omega arith; events = omega arith; sessions = omega arith; requests = omega arith; steps = omega arith }

pub append-requires-2-clause-stands : goal.append-requires-2-clause-stands
append-requires-2-clause-stands g c =
    let at = c.args.at in
    let loss = c.args.loss in
    let r = c.args.wired.now.trail in
    let s = c.args.server.now in
    let k = c.args.running.now in
    let h : IsLosing r at loss s k = record { tells = c.requires.tells; places = c.requires.places; idle = c.requires.idle; dialled = c.requires.dialled; is_loss = c.requires.loss } in
    let told = c.tell.ensures.adds (fact.NotLent at.op at.host loss.why) refl in
    let ended = c.append.ensures.adds (fact.Ended at.op (attempt.Unsent loss.why)) refl in
    let heard = at-heard r c.tell.new.self.trail c.tell_news.new.wired.trail at loss s k h told c.tell_news.ensures.told in (
      fact.ConnShut at.host loss.conn Errored,
      refl,
      StandsAt-ended c.append.new.self.trail.client r c.append.new.self.trail at loss s k h (at-ended r c.tell_news.new.wired.trail c.append.new.self.trail at loss s k h heard ended),
    )

pub returns-clause-lost : goal.returns-clause-lost
returns-clause-lost g c =
    let at = c.args.at in
    let loss = c.args.loss in
    let r = c.args.wired.now.trail in
    let s = c.args.server.now in
    let k = c.args.running.now in
    let h : IsLosing r at loss s k = record { tells = c.requires.tells; places = c.requires.places; idle = c.requires.idle; dialled = c.requires.dialled; is_loss = c.requires.loss } in
    let told = c.tell.ensures.adds (fact.NotLent at.op at.host loss.why) refl in
    let ended = c.append.ensures.adds (fact.Ended at.op (attempt.Unsent loss.why)) refl in
    let shut : Shut at loss c.append.new.self.trail c.close_conn.new.wired.trail =
    subst (Shut at loss c.append.new.self.trail) (sym c.close_conn.ensures.trail) (c.append-2.ensures.adds (fact.ConnShut at.host loss.conn Errored) refl) in
    let heard = at-heard r c.tell.new.self.trail c.tell_news.new.wired.trail at loss s k h told c.tell_news.ensures.told in
    let m = at-shut r c.append.new.self.trail c.close_conn.new.wired.trail at loss s k h (at-ended r c.tell_news.new.wired.trail c.append.new.self.trail at loss s k h heard ended) shut in
    record {
      mid = c.tell.new.self.trail;
      heard = c.tell_news.new.wired.trail;
      ended = c.append.new.self.trail;
      told = told;
      news = c.tell_news.ensures.told;
      ends = ended;
      shuts = shut;
      moved = behind-lost r.point c.close_conn.new.wired.trail.point at loss.conn h.dialled.held s c.lost.new.self (unsent_by loss.why (left k)) c.end_unsent.new.running (offers loss s h.dialled.held) m
          (c.lost.ensures.goes h.dialled.held h.dialled.pending) c.end_unsent.ensures.ended;
    }

pub returns-clause-offers : goal.returns-clause-offers
returns-clause-offers g c = λ held pending.
    let at = c.args.at in
    let loss = c.args.loss in
    let r = c.args.wired.now.trail in
    let s = c.args.server.now in
    let k = c.args.running.now in
    let h : IsLosing r at loss s k = record { tells = c.requires.tells; places = c.requires.places; idle = c.requires.idle; dialled = c.requires.dialled; is_loss = c.requires.loss } in
    let told = c.tell.ensures.adds (fact.NotLent at.op at.host loss.why) refl in
    let ended = c.append.ensures.adds (fact.Ended at.op (attempt.Unsent loss.why)) refl in
    let shut : Shut at loss c.append.new.self.trail c.close_conn.new.wired.trail =
    subst (Shut at loss c.append.new.self.trail) (sym c.close_conn.ensures.trail) (c.append-2.ensures.adds (fact.ConnShut at.host loss.conn Errored) refl) in
    let heard = at-heard r c.tell.new.self.trail c.tell_news.new.wired.trail at loss s k h told c.tell_news.ensures.told in
    let m = at-shut r c.append.new.self.trail c.close_conn.new.wired.trail at loss s k h (at-ended r c.tell_news.new.wired.trail c.append.new.self.trail at loss s k h heard ended) shut in
    let there = h.dialled.pending in
    let same : h.dialled.held ≡ held = cc in
    m.owes ∙ ap (λ (x : Held). loss_owes s x loss.why) same

pub tell-requires-clause-speaks : goal.tell-requires-clause-speaks
tell-requires-clause-speaks g c = λ told is.
    let r = c.args.wired.now.trail in
    let same : fact.NotLent c.args.at.op c.args.at.host c.args.loss.why ≡ told = cc in
    subst (SpeaksOf r.client r.point.state c.args.at.moment c.stream_of-stream.result) same
    (lost-speaks r.client r.point.state c.args.at.moment c.args.at.op c.args.at.host c.args.loss.why c.stream_of-stream.result c.requires.loss
    (stream-dialled r.point.state c.args.at c.args.loss.conn c.args.server.now c.args.running.now c.requires.places c.requires.dialled ∙ sym c.stream_of-stream.ensures.stream))

pub tell-requires-clause-heard : goal.tell-requires-clause-heard
tell-requires-clause-heard g c = λ tells told is.
    let same : fact.NotLent c.args.at.op c.args.at.host c.args.loss.why ≡ told = cc in
    subst (TellsHeard (g.N.Net.history c.args.wired.now.net) c.args.wired.now.trail c.args.at.moment) same (c.requires.heard tells)

pub tell_news-requires-clause-came : goal.tell_news-requires-clause-came
tell_news-requires-clause-came g c = λ tells. rw (c.tell.ensures.same) (c.requires.came tells)
