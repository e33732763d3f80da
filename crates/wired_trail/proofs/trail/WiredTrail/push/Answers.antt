use Rattle.std.proofs.Common.{refl, sym, ◌∙◌, arith}
use Rattle.net_link.proofs.SeenLemmas.{seen-closed}
use Rattle.wired_trail.specs.Hearing.{told_of}
use Rattle.wired_trail.specs.Inside.{pending_at}
use Rattle.wired_trail.specs.Lines.{line_at}
use Rattle.wired_trail.proofs.CallLemmas.{IsKept-used, IsPushed, both-so, only-closed, others-trans, pushed-at, pushed-wired}
use Rattle.wired_trail.proofs.FaultLemmas.{untold-later, untold-rose}
use Rattle.wired_trail.proofs.FitLemmas.{at-gone}
use Rattle.wired_trail.proofs.LineLemmas.{HasLines-gone, HasLines-pushed}
use Rattle.wired_trail.proofs.TurnLemmas.{TwoLines, idle-sends, push-only, two-lines}
use Rattle.wired_trail.proofs.trail.WiredTrail.push.Goals as goal

pub returns-then-not-is_waiting-clause-sends : goal.returns-then-not-is_waiting-clause-sends
returns-then-not-is_waiting-clause-sends g c =
    let there = rw (← c.self.view_is) at c.requires.there in
    let was = c.self.invariant.wires.each c.args.stream there.line there.there in
    rw (← c.self.view_is)
    (rw there.there (idle-sends g.N.Net.tells c.args.stream there.line (g.N.Net.history c.self.inside.net) was.going))

pub invariant_of-self : goal.invariant_of-self
invariant_of-self g c =
    let there = rw (← c.self.view_is) at c.requires.there in
    let s = c.args.stream in
    let h = g.N.Net.history c.self.inside.net in
    let mid = g.N.Net.history c.push-answer.new.net in
    let later = g.N.Net.history c.close.new.self in
    let answer = c.push-answer.result in
    let two : TwoLines there.line (line_at c.push-answer.new.self s) (IsPushed g.N.Net.tells s answer h mid) =
    two-lines (line_at c.self.inside.lines s) (line_at c.push-answer.new.self s) (IsPushed g.N.Net.tells s answer h mid) there.line there.there c.push-answer.ensures.still
    (both-so g.N.Net.tells s answer h mid (line_at c.self.inside.lines s) (line_at c.push-answer.new.self s) c.push-answer.ensures.same c.push-answer.ensures.sends) in
    let waits = c.is_waiting.ensures.yes c.if-not-is_waiting.false in
    IsKept-used g.N.Net.tells (g.N.Net.is_open c.self.inside.net) (g.N.Net.is_open c.close.new.self) (g.N.Net.next c.self.inside.net) (g.N.Net.next c.close.new.self) (g.N.Net.faults c.self.inside.net) (g.N.Net.faults c.close.new.self) h later
    c.self.inside.lines c.take_out.new.self c.self.inside.pendings c.remove.new.self c.self.inside.trail s (omega (arith, c.push-answer.ensures.keeps.numbers, c.close.ensures.keeps.numbers))
    (omega (arith, c.push-answer.ensures.cause.later, c.close.ensures.cause))
    (HasLines-gone (g.N.Net.is_open c.self.inside.net) (g.N.Net.is_open c.close.new.self) (g.N.Net.next c.self.inside.net) (g.N.Net.next c.close.new.self) s c.self.inside.lines
    c.take_out.new.self _ c.self.invariant.wires (omega (arith, c.push-answer.ensures.keeps.numbers, c.close.ensures.keeps.numbers))
    (others-trans s c.self.inside.lines c.push-answer.new.self c.take_out.new.self c.push-answer.ensures.others c.take_out.ensures.others) c.take_out.ensures.gone
    (λ t apart o. c.close.ensures.keeps.opens t apart (c.push-answer.ensures.keeps.opens t o)))
    (λ t. only-closed s h mid later (push-only g.N.Net.tells s there.line.wire.unsent two.now.wire.unsent h mid answer t two.so.1) (c.close.ensures.told t))
    (others-trans s c.self.inside.lines c.push-answer.new.self c.take_out.new.self c.push-answer.ensures.others c.take_out.ensures.others) c.remove.ensures.others
    (λ t.
    rw (c.take_out.ensures.gone, seen-closed s s (c.close.ensures.told t))
    (at-gone (pending_at c.remove.new.self s) _ _
    (pushed-wired g.N.Net.tells s waits.0 answer h mid (line_at c.self.inside.lines s) (line_at c.push-answer.new.self s) (pending_at c.self.inside.pendings s) (told_of c.self.inside.trail s) there.line t
    there.there two waits.1 ((c.self.invariant.told t).streams s))))
    c.self.invariant

pub invariant_of-self-else-is_fault : goal.invariant_of-self-else-is_fault
invariant_of-self-else-is_fault g c =
    let there = rw (← c.self.view_is) at c.requires.there in
    let s = c.args.stream in
    let h = g.N.Net.history c.self.inside.net in
    let mid = g.N.Net.history c.push-answer.new.net in
    let answer = c.push-answer.result in
    let two : TwoLines there.line (line_at c.push-answer.new.self s) (IsPushed g.N.Net.tells s answer h mid) =
    two-lines (line_at c.self.inside.lines s) (line_at c.push-answer.new.self s) (IsPushed g.N.Net.tells s answer h mid) there.line there.there c.push-answer.ensures.still
    (both-so g.N.Net.tells s answer h mid (line_at c.self.inside.lines s) (line_at c.push-answer.new.self s) c.push-answer.ensures.same c.push-answer.ensures.sends) in
    let waits = c.is_waiting.ensures.yes c.if-not-is_waiting.false in
    IsKept-used g.N.Net.tells (g.N.Net.is_open c.self.inside.net) (g.N.Net.is_open c.push-answer.new.net) (g.N.Net.next c.self.inside.net) (g.N.Net.next c.push-answer.new.net) (g.N.Net.faults c.self.inside.net) (g.N.Net.faults c.push-answer.new.net) h mid
    c.self.inside.lines c.push-answer.new.self c.self.inside.pendings c.self.inside.pendings c.self.inside.trail s c.push-answer.ensures.keeps.numbers c.push-answer.ensures.cause.later
    (HasLines-pushed (g.N.Net.is_open c.self.inside.net) (g.N.Net.is_open c.push-answer.new.net) (g.N.Net.next c.self.inside.net) (g.N.Net.next c.push-answer.new.net)
    s answer c.self.inside.lines c.push-answer.new.self c.self.inside.trail.point.state.streams c.self.invariant.wires
    c.push-answer.ensures.keeps.numbers c.push-answer.ensures.others c.push-answer.ensures.keeps.opens there
    c.push-answer.ensures.same (sym c.is_fault.ensures ∙ c.if-is_fault.false))
    (λ t. push-only g.N.Net.tells s there.line.wire.unsent two.now.wire.unsent h mid answer t two.so.1) c.push-answer.ensures.others (λ _ _. refl)
    (λ t.
    pushed-at g.N.Net.tells s waits.0 answer h mid (line_at c.self.inside.lines s) (line_at c.push-answer.new.self s) (pending_at c.self.inside.pendings s) (told_of c.self.inside.trail s) there.line t
    there.there two waits.1 ((c.self.invariant.told t).streams s))
    c.self.invariant

pub returns-then-is_fault-clause-counted : goal.returns-then-is_fault-clause-counted
returns-then-is_fault-clause-counted g c = λ failed.
    let steps = c.self.inside.trail.steps in
    let before = g.N.Net.faults c.self.inside.net in
    let between = g.N.Net.faults c.push-answer.new.net in
    untold-later between (g.N.Net.faults c.close.new.self) steps c.close.ensures.cause (untold-rose before between steps (c.push-answer.ensures.cause.rose failed) c.self.invariant.counted)

pub returns-else-is_fault-clause-counted : goal.returns-else-is_fault-clause-counted
returns-else-is_fault-clause-counted g c = λ failed.
    untold-rose (g.N.Net.faults c.self.inside.net) (g.N.Net.faults c.push-answer.new.net) c.self.inside.trail.steps (c.push-answer.ensures.cause.rose failed) c.self.invariant.counted
