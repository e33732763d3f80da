use Rattle.std.proofs.Common.{◌≡◌, Some, w32, to_z, of_z, refl, sym, ap, ◌∙◌, arith}
use Rattle.std.proofs.lemmas.Int.{to_z-of_z}
use Rattle.wired_trail.specs.declared.pending.Pending.TheVariants as is
use Rattle.net_link.proofs.EventLemmas.{Adds-none}
use Rattle.net_link.proofs.SeenLemmas.{seen-closed}
use Rattle.wired_trail.specs.Hearing.{told_of}
use Rattle.wired_trail.specs.Lines.{line_at}
use Rattle.wired_trail.specs.Inside.{pending_at}
use Rattle.desk_wire.specs.Exchange.{Exchanges}
use Rattle.wired_trail.proofs.CallLemmas.{IsKept-used, heard-at, only-closed, others-trans, turned-at}
use Rattle.wired_trail.proofs.FaultLemmas.{untold-later, untold-rose}
use Rattle.wired_trail.proofs.FitLemmas.{Heard-wired, at-gone}
use Rattle.wired_trail.proofs.LineLemmas.{HasLines-gone, HasLines-turned}
use Rattle.wired_trail.proofs.TurnLemmas.{TwoLines, idle-turn, turn-only, two-lines}
use Rattle.wired_trail.proofs.trail.WiredTrail.turn.Goals as goal

pub returns-then-not-is_reply-clause-turns : goal.returns-then-not-is_reply-clause-turns
returns-then-not-is_reply-clause-turns g c =
    rw c.requires.there.there
    (record {
      wire = c.requires.there.line.wire;
      between = g.N.Net.history c.args.self.now.net;
      trades = idle-turn g.N.Net.tells c.requires.there.line.wire (g.N.Net.history c.args.self.now.net);
      left = refl;
      closed = λ t. Adds-none (g.N.Net.history c.args.self.now.net);
    })

pub invariant_of-self : goal.invariant_of-self
invariant_of-self g c =
    let there = rw (← c.self.view_is) at c.requires.there in
    let s = c.args.stream in
    let h = g.N.Net.history c.self.inside.net in
    let mid = g.N.Net.history c.turn-answer.new.net in
    let later = g.N.Net.history c.close.new.self in
    let answer = c.turn-answer.result in
    let was = c.self.invariant.wires.each s there.line there.there in
    let two : TwoLines there.line (line_at c.turn-answer.new.self s) (λ b n. Exchanges g.N.Net.tells b.wire n.wire h mid answer) =
    two-lines (line_at c.self.inside.lines s) (line_at c.turn-answer.new.self s) (λ b n. Exchanges g.N.Net.tells b.wire n.wire h mid answer) there.line there.there c.turn-answer.ensures.still
    c.turn-answer.ensures.trades in
    let same : to_z w32 (of_z w32 c.args.id) ≡ c.args.id = to_z-of_z w32 c.args.id c.ranges.id in
    let waits = c.is_reply.ensures.yes c.if-not-is_reply.false ∙ ap (λ n. Some (is.Reply n)) same in
    IsKept-used g.N.Net.tells (g.N.Net.is_open c.self.inside.net) (g.N.Net.is_open c.close.new.self) (g.N.Net.next c.self.inside.net) (g.N.Net.next c.close.new.self) (g.N.Net.faults c.self.inside.net) (g.N.Net.faults c.close.new.self) h later
    c.self.inside.lines c.take_out.new.self c.self.inside.pendings c.remove.new.self c.self.inside.trail s (omega (arith, c.turn-answer.ensures.keeps.numbers, c.close.ensures.keeps.numbers))
    (omega (arith, c.turn-answer.ensures.cause.later, c.close.ensures.cause))
    (HasLines-gone (g.N.Net.is_open c.self.inside.net) (g.N.Net.is_open c.close.new.self) (g.N.Net.next c.self.inside.net) (g.N.Net.next c.close.new.self) s c.self.inside.lines
    c.take_out.new.self _ c.self.invariant.wires (omega (arith, c.turn-answer.ensures.keeps.numbers, c.close.ensures.keeps.numbers))
    (others-trans s c.self.inside.lines c.turn-answer.new.self c.take_out.new.self c.turn-answer.ensures.others c.take_out.ensures.others) c.take_out.ensures.gone
    (λ t apart o. c.close.ensures.keeps.opens t apart (c.turn-answer.ensures.keeps.opens t o)))
    (λ t. only-closed s h mid later (turn-only g.N.Net.tells s there.line.wire two.now.wire h mid answer t was.own two.so) (c.close.ensures.told t))
    (others-trans s c.self.inside.lines c.turn-answer.new.self c.take_out.new.self c.turn-answer.ensures.others c.take_out.ensures.others) c.remove.ensures.others
    (λ t.
    rw (c.take_out.ensures.gone, seen-closed s s (c.close.ensures.told t))
    (at-gone (pending_at c.remove.new.self s) _ _
    (Heard-wired answer c.args.id _ _
    (heard-at g.N.Net.tells s c.args.id answer h mid (line_at c.self.inside.lines s) (line_at c.turn-answer.new.self s) (pending_at c.self.inside.pendings s) (told_of c.self.inside.trail s) there.line t there.there two was.own
    waits ((c.self.invariant.told t).streams s)))))
    c.self.invariant

pub invariant_of-self-else-is_over : goal.invariant_of-self-else-is_over
invariant_of-self-else-is_over g c =
    let there = rw (← c.self.view_is) at c.requires.there in
    let s = c.args.stream in
    let h = g.N.Net.history c.self.inside.net in
    let mid = g.N.Net.history c.turn-answer.new.net in
    let answer = c.turn-answer.result in
    let was = c.self.invariant.wires.each s there.line there.there in
    let two : TwoLines there.line (line_at c.turn-answer.new.self s) (λ b n. Exchanges g.N.Net.tells b.wire n.wire h mid answer) =
    two-lines (line_at c.self.inside.lines s) (line_at c.turn-answer.new.self s) (λ b n. Exchanges g.N.Net.tells b.wire n.wire h mid answer) there.line there.there c.turn-answer.ensures.still
    c.turn-answer.ensures.trades in
    let same : to_z w32 (of_z w32 c.args.id) ≡ c.args.id = to_z-of_z w32 c.args.id c.ranges.id in
    let waits = c.is_reply.ensures.yes c.if-not-is_reply.false ∙ ap (λ n. Some (is.Reply n)) same in
    IsKept-used g.N.Net.tells (g.N.Net.is_open c.self.inside.net) (g.N.Net.is_open c.turn-answer.new.net) (g.N.Net.next c.self.inside.net) (g.N.Net.next c.turn-answer.new.net) (g.N.Net.faults c.self.inside.net) (g.N.Net.faults c.turn-answer.new.net) h mid
    c.self.inside.lines c.turn-answer.new.self c.self.inside.pendings c.set.new.self c.self.inside.trail s c.turn-answer.ensures.keeps.numbers c.turn-answer.ensures.cause.later
    (HasLines-turned (g.N.Net.is_open c.self.inside.net) (g.N.Net.is_open c.turn-answer.new.net) (g.N.Net.next c.self.inside.net) (g.N.Net.next c.turn-answer.new.net)
    s answer c.self.inside.lines c.turn-answer.new.self c.self.inside.trail.point.state.streams c.self.invariant.wires
    c.turn-answer.ensures.keeps.numbers c.turn-answer.ensures.others c.turn-answer.ensures.keeps.opens there
    c.turn-answer.ensures.same (sym c.is_over.ensures ∙ c.if-is_over.false))
    (λ t. turn-only g.N.Net.tells s there.line.wire two.now.wire h mid answer t was.own two.so) c.turn-answer.ensures.others c.set.ensures.others
    (λ t.
    turned-at g.N.Net.tells s c.args.id answer h mid (line_at c.self.inside.lines s) (line_at c.turn-answer.new.self s) (pending_at c.self.inside.pendings s) (pending_at c.set.new.self s)
    (told_of c.self.inside.trail s) there.line t there.there two was.own waits (rw (c.behind.ensures, same) at c.set.ensures.set) ((c.self.invariant.told t).streams s))
    c.self.invariant

pub returns-then-is_over-clause-heard : goal.returns-then-is_over-clause-heard
returns-then-is_over-clause-heard g c = λ t some.
    let there = rw (← c.self.view_is) at c.requires.there in
    let s = c.args.stream in
    let h = g.N.Net.history c.self.inside.net in
    let mid = g.N.Net.history c.turn-answer.new.net in
    let answer = c.turn-answer.result in
    let was = c.self.invariant.wires.each s there.line there.there in
    let two : TwoLines there.line (line_at c.turn-answer.new.self s) (λ b n. Exchanges g.N.Net.tells b.wire n.wire h mid answer) =
    two-lines (line_at c.self.inside.lines s) (line_at c.turn-answer.new.self s) (λ b n. Exchanges g.N.Net.tells b.wire n.wire h mid answer) there.line there.there c.turn-answer.ensures.still
    c.turn-answer.ensures.trades in
    let same : to_z w32 (of_z w32 c.args.id) ≡ c.args.id = to_z-of_z w32 c.args.id c.ranges.id in
    let waits = c.is_reply.ensures.yes c.if-not-is_reply.false ∙ ap (λ n. Some (is.Reply n)) same in
    rw (← c.self.view_is, seen-closed s s (c.close.ensures.told t))
    (heard-at g.N.Net.tells s c.args.id answer h mid (line_at c.self.inside.lines s) (line_at c.turn-answer.new.self s) (pending_at c.self.inside.pendings s) (told_of c.self.inside.trail s) there.line t there.there two was.own
    waits ((c.self.invariant.told t).streams s))

pub returns-else-is_over-clause-heard : goal.returns-else-is_over-clause-heard
returns-else-is_over-clause-heard g c = λ t some.
    let there = rw (← c.self.view_is) at c.requires.there in
    let s = c.args.stream in
    let h = g.N.Net.history c.self.inside.net in
    let mid = g.N.Net.history c.turn-answer.new.net in
    let answer = c.turn-answer.result in
    let was = c.self.invariant.wires.each s there.line there.there in
    let two : TwoLines there.line (line_at c.turn-answer.new.self s) (λ b n. Exchanges g.N.Net.tells b.wire n.wire h mid answer) =
    two-lines (line_at c.self.inside.lines s) (line_at c.turn-answer.new.self s) (λ b n. Exchanges g.N.Net.tells b.wire n.wire h mid answer) there.line there.there c.turn-answer.ensures.still
    c.turn-answer.ensures.trades in
    let same : to_z w32 (of_z w32 c.args.id) ≡ c.args.id = to_z-of_z w32 c.args.id c.ranges.id in
    let waits = c.is_reply.ensures.yes c.if-not-is_reply.false ∙ ap (λ n. Some (is.Reply n)) same in
    rw (← c.self.view_is)
    (heard-at g.N.Net.tells s c.args.id answer h mid (line_at c.self.inside.lines s) (line_at c.turn-answer.new.self s) (pending_at c.self.inside.pendings s) (told_of c.self.inside.trail s) there.line t there.there two was.own
    waits ((c.self.invariant.told t).streams s))

pub returns-then-is_over-clause-counted : goal.returns-then-is_over-clause-counted
returns-then-is_over-clause-counted g c = λ failed.
    let steps = c.self.inside.trail.steps in
    let before = g.N.Net.faults c.self.inside.net in
    let between = g.N.Net.faults c.turn-answer.new.net in
    untold-later between (g.N.Net.faults c.close.new.self) steps c.close.ensures.cause (untold-rose before between steps (c.turn-answer.ensures.cause.rose failed) c.self.invariant.counted)

pub returns-else-is_over-clause-counted : goal.returns-else-is_over-clause-counted
returns-else-is_over-clause-counted g c = λ failed.
    untold-rose (g.N.Net.faults c.self.inside.net) (g.N.Net.faults c.turn-answer.new.net) c.self.inside.trail.steps (c.turn-answer.ensures.cause.rose failed) c.self.invariant.counted
