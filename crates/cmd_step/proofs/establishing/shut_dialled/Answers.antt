use Rattle.std.proofs.Common.{◌≡◌, Some, ◌∷◌, [], refl, sym, ap, ◌∙◌, subst, arith, true, false}
use Rattle.pool_book.specs.declared.answers.CloseReason.{CloseReason}
use Rattle.pool_book.specs.Entries as pool
use Rattle.pool_book.specs.Entries.{refusal}
use Rattle.pool_book.specs.Pool.{shut_reason}
use Rattle.write_retry.specs.Machine.{allows}
use Rattle.write_retry.specs.declared.attempt_end.AttemptEnd.TheVariants as attempt
use Rattle.write_retry.specs.declared.events.OpEvent.TheVariants as event
use Rattle.desk_trail.specs.Facts as fact
use Rattle.cmd_step.proofs.LossLemmas.{left}
use Rattle.cmd_step.proofs.SettleLemmas.{Ended, IsToRefuse, IsToShut, Shut, StandsAt-ended, StandsAt-refused, StandsAt-settled, StandsAt-shut, at-ended, at-heard, at-refused, at-shut, behind-settled, between, may-hear, same-reason, same-why, stale_owes, why-ends}
use Rattle.cmd_step.proofs.StepLemmas.{room-behind, unsent_by}
use Rattle.cmd_step.proofs.establishing.shut_dialled.Goals as goal
use Rattle.wired_trail.specs.Hearing.{SpeaksOf, TellsHeard}
use Rattle.wired_trail.specs.Hearing.{IsPlain}
use Rattle.cmd_step.proofs.HeardLemmas.{stale-plain}

pub tell-requires-clause-stands : goal.tell-requires-clause-stands
tell-requires-clause-stands g c = (
  fact.Settled c.args.at.op c.args.at.host c.args.greeted.conn true,
  refl,
  StandsAt-settled c.args.wired.now.trail.client c.args.wired.now.trail.point c.args.at c.args.greeted.conn true c.args.server.now c.args.running.now c.requires.free c.requires.settled,
)

pub tell_news-requires-clause-room : goal.tell_news-requires-clause-room
tell_news-requires-clause-room g c =
    let used = (c.tell.ensures.adds (fact.Settled c.args.at.op c.args.at.host c.args.greeted.conn true) refl).room_used in
    let space = c.requires.room in
    omega arith

pub tell_news-requires-clause-may : goal.tell_news-requires-clause-may
tell_news-requires-clause-may g c =
    let h = c.requires.settled in
    let p = h.server.pool.state in
    may-hear c.args.wired.now.trail c.tell.new.self.trail c.args.at c.args.greeted.conn true c.args.server.now c.args.running.now c.args.greeted.news
    (pool.ConnShut c.args.greeted.conn (shut_reason p.state false)) (pool.NotLent h.dialled.held.ticket (refusal p) ∷ []) c.requires.free h refl c.requires.news
    (c.tell.ensures.adds (fact.Settled c.args.at.op c.args.at.host c.args.greeted.conn true) refl)

pub append-requires-clause-room : goal.append-requires-clause-room
append-requires-clause-room g c =
    let one = (c.tell.ensures.adds (fact.Settled c.args.at.op c.args.at.host c.args.greeted.conn true) refl).room_used in
    let two = room-behind c.args.at.moment c.args.greeted.news c.tell.new.self.trail c.tell_news.new.wired.trail c.tell_news.ensures.told in
    let space = c.requires.room in
    record { names = omega arith; events = omega arith; sessions = omega arith; requests = omega arith; steps = omega arith }

pub append-requires-clause-stands : goal.append-requires-clause-stands
append-requires-clause-stands g c =
    let at = c.args.at in
    let conn = c.args.greeted.conn in
    let r = c.args.wired.now.trail in
    let x = c.tell_news.new.wired.trail in
    let t = c.args.server.now in
    let k = c.args.running.now in
    let h = c.requires.settled in
    let reason = c.reason_of-reason.result in
    let m = at-heard r c.tell.new.self.trail x at conn true t k c.args.greeted.news (stale_owes h.dialled.held.ticket conn h.server.pool.state) c.requires.free h refl
    (c.tell.ensures.adds (fact.Settled at.op at.host conn true) refl) c.tell_news.ensures.told in
    let to_shut : IsToShut r x at conn t k reason = record { free = c.requires.free; settled = h; moved = m; is_reason = same-reason r.point.state at conn t k reason h c.reason_of-reason.ensures } in (
      fact.ConnShut at.host conn reason,
      refl,
      StandsAt-shut x.client r x at conn t k reason to_shut,
    )

pub append-requires-2-clause-room : goal.append-requires-2-clause-room
append-requires-2-clause-room g c =
    let one = (c.tell.ensures.adds (fact.Settled c.args.at.op c.args.at.host c.args.greeted.conn true) refl).room_used in
    let two = room-behind c.args.at.moment c.args.greeted.news c.tell.new.self.trail c.tell_news.new.wired.trail c.tell_news.ensures.told in
    let three = (c.append.ensures.adds (fact.ConnShut c.args.at.host c.args.greeted.conn c.reason_of-reason.result) refl).room_used in
    let space = c.requires.room in
    record { names = omega arith; events = omega arith; sessions = omega arith; requests = omega arith; steps = omega arith }

pub append-requires-2-clause-stands : goal.append-requires-2-clause-stands
append-requires-2-clause-stands g c =
    let at = c.args.at in
    let conn = c.args.greeted.conn in
    let r = c.args.wired.now.trail in
    let x = c.tell_news.new.wired.trail in
    let y = c.append.new.self.trail in
    let t = c.args.server.now in
    let k = c.args.running.now in
    let h = c.requires.settled in
    let reason = c.reason_of-reason.result in
    let why = c.why_of-why.result in
    let m = at-heard r c.tell.new.self.trail x at conn true t k c.args.greeted.news (stale_owes h.dialled.held.ticket conn h.server.pool.state) c.requires.free h refl
    (c.tell.ensures.adds (fact.Settled at.op at.host conn true) refl) c.tell_news.ensures.told in
    let to_shut : IsToShut r x at conn t k reason = record { free = c.requires.free; settled = h; moved = m; is_reason = same-reason r.point.state at conn t k reason h c.reason_of-reason.ensures } in
    let n = at-shut r x y at conn t k reason to_shut (c.append.ensures.adds (fact.ConnShut at.host conn reason) refl) in
    let to_refuse : IsToRefuse r y at conn t k why = record { free = c.requires.free; settled = h; moved = n; is_why = same-why r.point.state at conn t k why h c.why_of-why.ensures } in (
      fact.NotLent at.op at.host why,
      refl,
      StandsAt-refused y.client r y at conn t k why to_refuse,
    )

pub append-requires-3-clause-room : goal.append-requires-3-clause-room
append-requires-3-clause-room g c =
    let one = (c.tell.ensures.adds (fact.Settled c.args.at.op c.args.at.host c.args.greeted.conn true) refl).room_used in
    let two = room-behind c.args.at.moment c.args.greeted.news c.tell.new.self.trail c.tell_news.new.wired.trail c.tell_news.ensures.told in
    let three = (c.append.ensures.adds (fact.ConnShut c.args.at.host c.args.greeted.conn c.reason_of-reason.result) refl).room_used in
    let four = (c.append-2.ensures.adds (fact.NotLent c.args.at.op c.args.at.host c.why_of-why.result) refl).room_used in
    let space = c.requires.room in
    record { names = omega arith; events = omega arith; sessions = omega arith; requests = omega arith; steps = omega arith }

pub append-requires-3-clause-stands : goal.append-requires-3-clause-stands
append-requires-3-clause-stands g c =
    let at = c.args.at in
    let conn = c.args.greeted.conn in
    let r = c.args.wired.now.trail in
    let x = c.tell_news.new.wired.trail in
    let y = c.append.new.self.trail in
    let z = c.append-2.new.self.trail in
    let t = c.args.server.now in
    let k = c.args.running.now in
    let h = c.requires.settled in
    let reason = c.reason_of-reason.result in
    let why = c.why_of-why.result in
    let m = at-heard r c.tell.new.self.trail x at conn true t k c.args.greeted.news (stale_owes h.dialled.held.ticket conn h.server.pool.state) c.requires.free h refl
    (c.tell.ensures.adds (fact.Settled at.op at.host conn true) refl) c.tell_news.ensures.told in
    let to_shut : IsToShut r x at conn t k reason = record { free = c.requires.free; settled = h; moved = m; is_reason = same-reason r.point.state at conn t k reason h c.reason_of-reason.ensures } in
    let n = at-shut r x y at conn t k reason to_shut (c.append.ensures.adds (fact.ConnShut at.host conn reason) refl) in
    let to_refuse : IsToRefuse r y at conn t k why = record { free = c.requires.free; settled = h; moved = n; is_why = same-why r.point.state at conn t k why h c.why_of-why.ensures } in (
      fact.Ended at.op (attempt.Unsent why),
      refl,
      StandsAt-ended z.client r y z at conn t k why to_refuse (at-refused r y z at conn t k why to_refuse (c.append-2.ensures.adds (fact.NotLent at.op at.host why) refl)),
    )

pub end_unsent-requires : goal.end_unsent-requires
end_unsent-requires g c =
    let at = c.args.at in
    let conn = c.args.greeted.conn in
    let r = c.args.wired.now.trail in
    let x = c.tell_news.new.wired.trail in
    let y = c.append.new.self.trail in
    let t = c.args.server.now in
    let k = c.args.running.now in
    let h = c.requires.settled in
    let reason = c.reason_of-reason.result in
    let why = c.why_of-why.result in
    let m = at-heard r c.tell.new.self.trail x at conn true t k c.args.greeted.news (stale_owes h.dialled.held.ticket conn h.server.pool.state) c.requires.free h refl
    (c.tell.ensures.adds (fact.Settled at.op at.host conn true) refl) c.tell_news.ensures.told in
    let to_shut : IsToShut r x at conn t k reason = record { free = c.requires.free; settled = h; moved = m; is_reason = same-reason r.point.state at conn t k reason h c.reason_of-reason.ensures } in
    let n = at-shut r x y at conn t k reason to_shut (c.append.ensures.adds (fact.ConnShut at.host conn reason) refl) in
    let to_refuse : IsToRefuse r y at conn t k why = record { free = c.requires.free; settled = h; moved = n; is_why = same-why r.point.state at conn t k why h c.why_of-why.ensures } in
    record {
      awaited = ap (λ q. allows q (event.Unsent why)) h.dialled.asks ∙ (why-ends r y at conn t k why to_refuse).answers;
    }

pub returns-clause-stale : goal.returns-clause-stale
returns-clause-stale g c =
    let at = c.args.at in
    let conn = c.args.greeted.conn in
    let r = c.args.wired.now.trail in
    let x = c.tell_news.new.wired.trail in
    let y = c.append.new.self.trail in
    let z = c.append-2.new.self.trail in
    let e = c.close_conn.new.wired.trail in
    let t = c.args.server.now in
    let k = c.args.running.now in
    let h = c.requires.settled in
    let reason = c.reason_of-reason.result in
    let why = c.why_of-why.result in
    let settled = c.tell.ensures.adds (fact.Settled at.op at.host conn true) refl in
    let shut = c.append.ensures.adds (fact.ConnShut at.host conn reason) refl in
    let refuses = c.append-2.ensures.adds (fact.NotLent at.op at.host why) refl in
    let ended : Ended at why z e = subst (Ended at why z) (sym c.close_conn.ensures.trail) (c.append-3.ensures.adds (fact.Ended at.op (attempt.Unsent why)) refl) in
    let m = at-heard r c.tell.new.self.trail x at conn true t k c.args.greeted.news (stale_owes h.dialled.held.ticket conn h.server.pool.state) c.requires.free h refl settled
    c.tell_news.ensures.told in
    let to_shut : IsToShut r x at conn t k reason = record { free = c.requires.free; settled = h; moved = m; is_reason = same-reason r.point.state at conn t k reason h c.reason_of-reason.ensures } in
    let n = at-shut r x y at conn t k reason to_shut shut in
    let to_refuse : IsToRefuse r y at conn t k why = record { free = c.requires.free; settled = h; moved = n; is_why = same-why r.point.state at conn t k why h c.why_of-why.ensures } in
    let o = at-ended r y z e at conn t k why to_refuse (at-refused r y z at conn t k why to_refuse refuses) ended in
    record {
      mid = c.tell.new.self.trail;
      heard = x;
      shut = y;
      refused = z;
      settled = settled;
      news = c.tell_news.ensures.told;
      shuts = subst (λ (v : CloseReason). Shut at conn v x y) c.reason_of-reason.ensures shut;
      told = refuses;
      ends = ended;
      is_why = c.why_of-why.ensures;
      moved = behind-settled r.point e.point at h.server t (between r.point.state at conn true t k h []) (unsent_by why (left k)) c.end_unsent.new.running [] o h.moves.moves
          c.end_unsent.ensures.ended;
    }

pub returns-clause-paid : goal.returns-clause-paid
returns-clause-paid g c =
    let at = c.args.at in
    let conn = c.args.greeted.conn in
    let r = c.args.wired.now.trail in
    let x = c.tell_news.new.wired.trail in
    let y = c.append.new.self.trail in
    let z = c.append-2.new.self.trail in
    let e = c.close_conn.new.wired.trail in
    let t = c.args.server.now in
    let k = c.args.running.now in
    let h = c.requires.settled in
    let reason = c.reason_of-reason.result in
    let why = c.why_of-why.result in
    let ended : Ended at why z e = subst (Ended at why z) (sym c.close_conn.ensures.trail) (c.append-3.ensures.adds (fact.Ended at.op (attempt.Unsent why)) refl) in
    let m = at-heard r c.tell.new.self.trail x at conn true t k c.args.greeted.news (stale_owes h.dialled.held.ticket conn h.server.pool.state) c.requires.free h refl
    (c.tell.ensures.adds (fact.Settled at.op at.host conn true) refl) c.tell_news.ensures.told in
    let to_shut : IsToShut r x at conn t k reason = record { free = c.requires.free; settled = h; moved = m; is_reason = same-reason r.point.state at conn t k reason h c.reason_of-reason.ensures } in
    let n = at-shut r x y at conn t k reason to_shut (c.append.ensures.adds (fact.ConnShut at.host conn reason) refl) in
    let to_refuse : IsToRefuse r y at conn t k why = record { free = c.requires.free; settled = h; moved = n; is_why = same-why r.point.state at conn t k why h c.why_of-why.ensures } in
    (at-ended r y z e at conn t k why to_refuse (at-refused r y z at conn t k why to_refuse (c.append-2.ensures.adds (fact.NotLent at.op at.host why) refl)) ended).owes

pub tell-requires-clause-speaks : goal.tell-requires-clause-speaks
tell-requires-clause-speaks g c = λ told is.
    let r = c.args.wired.now.trail in
    let same : fact.Settled c.args.at.op c.args.at.host c.args.greeted.conn true ≡ told = cc in
    subst (SpeaksOf r.client r.point.state c.args.at.moment (Some c.args.greeted.stream)) same c.requires.on

pub tell-requires-clause-heard : goal.tell-requires-clause-heard
tell-requires-clause-heard g c = λ tells told is.
    let same : fact.Settled c.args.at.op c.args.at.host c.args.greeted.conn true ≡ told = cc in
    subst (TellsHeard (g.N.Net.history c.args.wired.now.net) c.args.wired.now.trail c.args.at.moment) same (c.requires.heard tells)

pub tell_news-requires-clause-came : goal.tell_news-requires-clause-came
tell_news-requires-clause-came g c = λ tells. rw (c.tell.ensures.same) (c.requires.came tells)

pub append-requires-2-clause-plain : goal.append-requires-2-clause-plain
append-requires-2-clause-plain g c = λ told is.
    let same : fact.NotLent c.args.at.op c.args.at.host c.why_of-why.result ≡ told = cc in
    subst (IsPlain c.append.new.self.lines) same
    (stale-plain c.append.new.self.lines c.args.at.op c.args.at.host c.why_of-why.result c.args.server.now.pool.state c.why_of-why.ensures)
