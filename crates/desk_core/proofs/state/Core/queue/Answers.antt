use Rattle.std.proofs.Common.{◌≡◌, ◌+◌, Some, length, ap, sym, ◌∙◌, subst, arith, None, true}
use Rattle.desk_trail.specs.declared.entry.Entry.TheVariants as entry_of
use Rattle.desk_trail.specs.declared.room.Room.{Room}
use Rattle.desk_trail.specs.Facts as fact
use Rattle.desk_trail.specs.Legal.{Point}
use Rattle.desk_trail.specs.Orders.{asks_for}
use Rattle.desk_trail.specs.States.{ClientState}
use Rattle.desk_trail.specs.Written.{IsAtLeast, a_request}
use Rattle.wired_trail.specs.Lines.{line_at}
use Rattle.legal_trail.specs.Recorded.{Recorded}
use Rattle.wired_trail.specs.Hearing.{told_of}
use Rattle.desk_core.proofs.AppendsLemmas.{Plain-own, grown-same, grown-trans}
use Rattle.desk_core.proofs.AttemptLemmas.{IsKept-entry}
use Rattle.desk_core.proofs.BesideLemmas.{GoesBeside-asked, IsOfCommand, KeepsCheckLines-conn, grown-asked}
use Rattle.desk_core.proofs.KeptLemmas.{IsKept-room}
use Rattle.desk_core.proofs.state.Core.queue.Goals as goal

pub invariant_of-self : goal.invariant_of-self
invariant_of-self g c =
    IsKept-room c.self.inside.wired c.reserve.new.self c.self.inside.topology.topology c.self.inside.servers.items c.self.inside.gossip c.self.inside.closings c.self.inside.last c.self.inside.stopped
    c.reserve.ensures.same c.reserve.ensures.kept c.self.invariant

pub returns-in_err-reserve-clause-appends : goal.returns-in_err-reserve-clause-appends
returns-in_err-reserve-clause-appends g c =
    rw (← c.self.view_is)
    (grown-same c.args.at.moment c.self.inside.wired.trail c.reserve.new.self.trail (ap (λ s. s.trail.client) c.reserve.ensures.same) (ap (λ s. s.trail.lists) c.reserve.ensures.same)
    (ap (λ s. s.trail.steps) c.reserve.ensures.same))

pub invariant_of-self-2 : goal.invariant_of-self-2
invariant_of-self-2 g c =
    let ready = rw (← c.self.view_is) at c.requires.work.ready in
    let adds = c.send.ensures.adds in
    let kept =
    IsKept-room c.self.inside.wired c.reserve.new.self c.self.inside.topology.topology c.self.inside.servers.items c.self.inside.gossip c.self.inside.closings c.self.inside.last c.self.inside.stopped
    c.reserve.ensures.same c.reserve.ensures.kept c.self.invariant in
    let used = adds.room_used.steps in
    let more : IsAtLeast (record { names = 0; events = 0; sessions = 0; requests = 1; steps = c.self.inside.closings + 1 }) c.reserve.new.self.trail.room =
    subst (λ (m : Room). IsAtLeast m c.reserve.new.self.trail.room) c.in_ok-room.ensures c.in_ok-reserve.ensures.room in
    let steps = more.steps in
    let on = rw (← c.self.view_is) at c.requires.on in
    let line : line_at c.reserve.new.self.lines c.args.made.request.stream ≡ Some on.line = ap (λ s. line_at s.lines c.args.made.request.stream) c.reserve.ensures.same ∙ on.line_there in
    IsKept-entry 0 c.reserve.new.self.trail c.send.new.wired.trail c.reserve.new.self.lines c.send.new.wired.lines c.self.inside.topology.topology c.self.inside.servers.items
    c.self.inside.gossip c.self.inside.closings c.self.inside.last c.args.at.moment c.self.inside.stopped kept ready.runs
    (GoesBeside-asked a_request c.args.at.moment (length c.reserve.new.self.trail.lists.requests) (entry_of.Asked (length c.reserve.new.self.trail.lists.requests)) c.args.made.request c.reserve.new.self.trail c.send.new.wired.trail
    (subst IsOfCommand (sym c.requires.request.is_for) tt) adds)
    (ap (λ (w : ClientState). w.servers) c.send.ensures.moved) (ap (λ (p : Point). p.time) adds.point_now) (ap (λ (p : Point). p.moment) adds.point_now) ready.now used (omega arith)
    (KeepsCheckLines-conn c.args.made.request.stream c.args.at.lent.host c.args.at.lent.conn c.reserve.new.self.lines c.send.new.wired.lines on.line line on.is_for c.send.ensures.others)

pub send-requires-clause-free_stream : goal.send-requires-clause-free_stream
send-requires-clause-free_stream g c = λ tells.
    let free = rw (← c.self.view_is) at (c.in_ok-check_free.ensures.free tells) in
    subst (λ (t : Recorded). (told_of t c.args.made.request.stream).last ≡ None) (sym (ap (λ s. s.trail) c.reserve.ensures.same)) free

pub returns-clause-appends : goal.returns-clause-appends
returns-clause-appends g c =
    let old : Recorded = c.self.inside.wired.trail in
    let r : Recorded = c.reserve.new.self.trail in
    let e = ap (λ s. s.trail) c.reserve.ensures.same in
    rw (← c.self.view_is)
    (grown-trans c.args.at.moment old r c.send.new.wired.trail
    (grown-same c.args.at.moment old r (ap (λ (t : Recorded). t.client) e) (ap (λ (t : Recorded). t.lists) e) (ap (λ (t : Recorded). t.steps) e))
    (grown-asked a_request c.args.at.moment (length r.lists.requests) (entry_of.Asked (length r.lists.requests)) c.args.made.request r c.send.new.wired.trail c.send.ensures.adds (λ t. absurd (cc))
    (Plain-own c.args.at.op (fact.Asked (length r.lists.requests) c.args.made.request) (λ o named. subst (λ p. asks_for o p ≡ true) c.requires.request.is_for named) (λ x y. tt) (λ own. tt))))
