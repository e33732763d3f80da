use Rattle.std.proofs.Common.{◌≡◌, None, refl, sym, ap, ◌∙◌, subst, arith, Some}
use Rattle.std.specs.Option.{option_map}
use Rattle.std.specs.Prelude.{length}
use Rattle.desk_trail.specs.Facts.{Lists}
use Rattle.desk_trail.specs.Facts as fact
use Rattle.desk_trail.specs.Requests.{id_at}
use Rattle.desk_trail.specs.States.{stream_of}
use Rattle.desk_wire.specs.State.{opened}
use Rattle.wired_trail.specs.declared.stream_use.StreamUse.TheVariants as for_use
use Rattle.wired_trail.specs.Lines.{line_at, with_unsent}
use Rattle.wired_trail.specs.Hearing.{IsPlain}
use Rattle.cmd_step.proofs.DialLemmas.{StandsAt-dialled, StandsAt-greeted, behind-greeted, dialled-on, paid-greeted, stream_of-streamed, streamed}
use Rattle.cmd_step.proofs.dialling.greet.Goals as goal
use Rattle.desk_trail.specs.Streams.{Account}

pub append-requires-clause-stands : goal.append-requires-clause-stands
append-requires-clause-stands g c = (
  fact.Dialled c.args.dial.at.op c.args.dial.at.host c.args.dial.conn (Some c.args.made.request.stream),
  refl,
  StandsAt-dialled c.args.wired.now.trail.client c.args.wired.now.trail.point c.args.dial.at c.args.dial.conn (Some c.args.made.request.stream) c.args.server.now c.args.running.now
      c.requires.free c.requires.is_new c.requires.answered,
)

pub append-requires-clause-plain : goal.append-requires-clause-plain
append-requires-clause-plain g c = λ told is.
    let same : fact.Dialled c.args.dial.at.op c.args.dial.at.host c.args.dial.conn (Some c.args.made.request.stream) ≡ told = cc in
    subst (IsPlain c.args.wired.now.lines) same
    (record { line = record { wire = opened c.args.made.request.stream; is_for = for_use.Conn c.args.dial.at.host c.args.dial.conn }; there = c.requires.line })

pub keep_stream-requires-clause-dialled : goal.keep_stream-requires-clause-dialled
keep_stream-requires-clause-dialled g c =
    let h = c.requires.answered in
    let next = h.moves.stands.5 in
    let last = c.requires.last in
    omega (arith, next, last)

pub keep_stream-requires-clause-none : goal.keep_stream-requires-clause-none
keep_stream-requires-clause-none g c = subst (λ n. stream_of c.args.server.now n ≡ None) c.requires.last c.requires.streamless

pub ask-requires-clause-idle : goal.ask-requires-clause-idle
ask-requires-clause-idle g c = record {
  line = record { wire = opened c.args.made.request.stream; is_for = for_use.Conn c.args.dial.at.host c.args.dial.conn };
  there = ap (λ ls. line_at ls c.args.made.request.stream) (ap (λ w. w.lines) c.append.ensures.same) ∙ c.requires.line;
  sent = refl;
}

pub ask-requires-clause-room : goal.ask-requires-clause-room
ask-requires-clause-room g c =
    let used = (c.append.ensures.adds (fact.Dialled c.args.dial.at.op c.args.dial.at.host c.args.dial.conn (Some c.args.made.request.stream)) refl).room_used in
    let steps = c.requires.steps in
    let requests = c.requires.requests in
    record { names = omega arith; events = omega arith; sessions = omega arith; requests = omega arith; steps = omega arith }

pub ask-requires-clause-stands : goal.ask-requires-clause-stands
ask-requires-clause-stands g c =
    let r = c.args.wired.now.trail in
    let dial = c.args.dial in
    let request = c.args.made.request in
    let adds = c.append.ensures.adds (fact.Dialled dial.at.op dial.at.host dial.conn (Some request.stream)) refl in
    let ahead = dialled-on r.client r.point c.append.new.self.trail.point dial.at dial.conn request.stream c.args.server.now c.args.running.now c.requires.free c.requires.answered adds.point_now in
    let same = ap (λ (l : Lists). length l.requests) adds.lists_now in
    StandsAt-greeted c.append.new.self.trail.client r.point c.append.new.self.trail.point dial.at dial.conn (length c.append.new.self.trail.lists.requests) request c.args.server.now
    c.args.running.now c.requires.free ahead c.requires.hello (same ∙ sym c.requires.counted) (c.requires.id ∙ ap id_at (sym same))

pub returns-clause-greeted : goal.returns-clause-greeted
returns-clause-greeted g c =
    let r = c.args.wired.now.trail in
    let dial = c.args.dial in
    let request = c.args.made.request in
    let s = c.args.server.now in
    let k = c.args.running.now in
    let adds = c.append.ensures.adds (fact.Dialled dial.at.op dial.at.host dial.conn (Some request.stream)) refl in
    let mid = c.append.new.self.trail in
    let place = length mid.lists.requests in
    let ahead = dialled-on r.client r.point mid.point dial.at dial.conn request.stream s k c.requires.free c.requires.answered adds.point_now in
    let kept : c.keep_stream.new.self ≡ streamed dial.conn request.stream s =
    c.keep_stream.ensures.kept ∙ ap (λ n. streamed n request.stream s) (sym c.requires.last) in
    record {
      mid = mid;
      dialled = adds;
      greets = c.requires.hello;
      asked = c.ask.ensures.adds;
      moved = behind-greeted mid.client r.point mid.point c.ask.new.self.trail.point dial.at dial.conn place request s c.keep_stream.new.self k c.dial.new.self ahead c.requires.hello
          c.ask.ensures.adds.point_now kept c.dial.ensures.dials;
      paid = paid-greeted mid.client r.point mid.point c.ask.new.self.trail.point dial.at dial.conn place request s k ahead c.ask.ensures.adds.point_now;
      kept = stream_of-streamed dial.conn request.stream s c.keep_stream.new.self kept;
    }

pub returns-clause-queued : goal.returns-clause-queued
returns-clause-queued g c =
    c.ask.ensures.queued ∙ ap (option_map (with_unsent c.args.made.request.bytes)) (ap (λ ls. line_at ls c.args.made.request.stream) (ap (λ w. w.lines) c.append.ensures.same) ∙ c.requires.line)

pub returns-clause-others : goal.returns-clause-others
returns-clause-others g c = λ other apart. c.ask.ensures.others other apart ∙ ap (λ ls. line_at ls other) (ap (λ w. w.lines) c.append.ensures.same)

pub ask-requires-clause-free : goal.ask-requires-clause-free
ask-requires-clause-free g c = λ tells. ap (λ (a : Account). a.last) (c.append.ensures.silent c.args.made.request.stream) ∙ c.requires.free_stream tells
