use Rattle.std.proofs.Common.{◌+◌, ◌-◌, arith, subst, sym}
use Rattle.cmd_step.specs.declared.place.At.{At}
use Rattle.desk_trail.specs.Facts as fact
use Rattle.wired_trail.specs.Hearing.{TellsHeard}
use Rattle.desk_core.proofs.HeardLemmas.{greets-on}
use Rattle.desk_core.proofs.BesideLemmas.{KeepsCheckLines-closes_conn}
use Rattle.desk_core.proofs.GreetingLemmas.{IsKept-past, IsPast, IsPast-settled, IsStage, IsStage-by, closing-past}
use Rattle.desk_core.proofs.state.Core.settle_greeted.Goals as goal

pub settle-requires-clause-idle : goal.settle-requires-clause-idle
settle-requires-clause-idle g c =
    let work = rw (← c.self.view_is) at c.requires.work in
    let dialled = rw (← c.self.view_is) at c.requires.dialled in
    (IsStage-by c.self.inside.wired.trail c.self.inside.wired.lines c.self.inside.topology.topology c.self.inside.servers.items c.self.inside.gossip c.self.inside.last c.args.at.op c.args.at.moment
    c.args.at.dialled c.args.operation.now c.operation.inside.running c.index_mut-server.result.now (c.self.invariant.leads work.ready.runs) work.ready.paid work.ready.now work.there dialled
    c.operation.view_is c.index_mut-server.ensures.value).idle

pub settle-requires-clause-dialled : goal.settle-requires-clause-dialled
settle-requires-clause-dialled g c =
    let work = rw (← c.self.view_is) at c.requires.work in
    let dialled = rw (← c.self.view_is) at c.requires.dialled in
    (IsStage-by c.self.inside.wired.trail c.self.inside.wired.lines c.self.inside.topology.topology c.self.inside.servers.items c.self.inside.gossip c.self.inside.last c.args.at.op c.args.at.moment
    c.args.at.dialled c.args.operation.now c.operation.inside.running c.index_mut-server.result.now (c.self.invariant.leads work.ready.runs) work.ready.paid work.ready.now work.there dialled
    c.operation.view_is c.index_mut-server.ensures.value).dialled

pub overflow_sub-self : goal.overflow_sub-self
overflow_sub-self g c =
    let work = rw (← c.self.view_is) at c.requires.work in
    let dialled = rw (← c.self.view_is) at c.requires.dialled in
    let stage = IsStage-by c.self.inside.wired.trail c.self.inside.wired.lines c.self.inside.topology.topology c.self.inside.servers.items c.self.inside.gossip c.self.inside.last c.args.at.op
    c.args.at.moment c.args.at.dialled c.args.operation.now c.operation.inside.running c.index_mut-server.result.now (c.self.invariant.leads work.ready.runs) work.ready.paid work.ready.now work.there
    dialled c.operation.view_is c.index_mut-server.ensures.value in
    omega (arith, c.closing_of-before.ensures, stage.within, c.self.invariant.counted)

pub overflow_add-self : goal.overflow_add-self
overflow_add-self g c =
    let work = rw (← c.self.view_is) at c.requires.work in
    let dialled = rw (← c.self.view_is) at c.requires.dialled in
    let at : At = record { op = c.args.at.op; host = c.args.at.dialled.host; moment = c.args.at.moment } in
    let old = c.self.inside.wired.trail in
    let new = c.settle.new.wired.trail in
    let items = c.self.inside.servers.items in
    let s = c.index_mut-server.result.now in
    let t = c.settle.new.server in
    let l = c.self.invariant.leads work.ready.runs in
    let stage : IsStage old items at c.args.at.dialled.conn s c.operation.inside.running =
    IsStage-by old c.self.inside.wired.lines c.self.inside.topology.topology items c.self.inside.gossip c.self.inside.last c.args.at.op c.args.at.moment c.args.at.dialled c.args.operation.now
    c.operation.inside.running s l work.ready.paid work.ready.now work.there dialled c.operation.view_is c.index_mut-server.ensures.value in
    let past : IsPast at c.take_news-news.result old new t c.settle.new.running =
    IsPast-settled at (record { conn = c.args.at.dialled.conn; stream = c.args.at.dialled.stream; news = c.take_news-news.result }) c.settle.result old new t c.settle.new.running c.settle.ensures.settles in
    let less = closing-past at c.take_news-news.result old new c.self.inside.wired.lines c.self.inside.topology.topology items c.self.inside.gossip c.args.at.dialled.conn c.self.inside.last s t
    c.operation.inside.running c.settle.new.running l stage past in
    omega (arith, less, c.closing_of-before.ensures, c.closing_of-behind.ensures, stage.within, c.self.invariant.counted)

pub invariant_of-self : goal.invariant_of-self
invariant_of-self g c =
    let work = rw (← c.self.view_is) at c.requires.work in
    let dialled = rw (← c.self.view_is) at c.requires.dialled in
    let room = rw (← c.self.view_is) at c.requires.room in
    let at : At = record { op = c.args.at.op; host = c.args.at.dialled.host; moment = c.args.at.moment } in
    let old = c.self.inside.wired.trail in
    let new = c.settle.new.wired.trail in
    let items = c.self.inside.servers.items in
    let s = c.index_mut-server.result.now in
    let t = c.settle.new.server in
    let l = c.self.invariant.leads work.ready.runs in
    let stage : IsStage old items at c.args.at.dialled.conn s c.operation.inside.running =
    IsStage-by old c.self.inside.wired.lines c.self.inside.topology.topology items c.self.inside.gossip c.self.inside.last c.args.at.op c.args.at.moment c.args.at.dialled c.args.operation.now
    c.operation.inside.running s l work.ready.paid work.ready.now work.there dialled c.operation.view_is c.index_mut-server.ensures.value in
    let past : IsPast at c.take_news-news.result old new t c.settle.new.running =
    IsPast-settled at (record { conn = c.args.at.dialled.conn; stream = c.args.at.dialled.stream; news = c.take_news-news.result }) c.settle.result old new t c.settle.new.running c.settle.ensures.settles in
    let within = stage.within in
    let counted = c.self.invariant.counted in
    let before = c.closing_of-before.ensures in
    let behind = c.closing_of-behind.ensures in
    IsKept-past at c.take_news-news.result old new c.self.inside.wired.lines c.settle.new.wired.lines c.self.inside.topology.topology items c.self.inside.gossip c.take_news-news.new.gossip
    c.args.time c.self.inside.closings (c.self.inside.closings - c.closing_of-before.result + c.closing_of-behind.result) c.args.at.dialled.conn c.self.inside.last c.self.inside.stopped s t
    c.operation.inside.running c.settle.new.running c.self.invariant work.ready.runs stage past c.settle.ensures.idle c.take_news-news.ensures.news c.take_news-news.ensures.greatest work.ready.now
    room (KeepsCheckLines-closes_conn c.args.at.dialled.host c.args.at.dialled.conn c.self.inside.wired.lines c.settle.new.wired.lines c.settle.ensures.closes) (omega arith)

pub returns-clause-appends : goal.returns-clause-appends
returns-clause-appends g c =
    let at : At = record { op = c.args.at.op; host = c.args.at.dialled.host; moment = c.args.at.moment } in
    rw (← c.self.view_is)
    (IsPast-settled at (record { conn = c.args.at.dialled.conn; stream = c.args.at.dialled.stream; news = c.take_news-news.result }) c.settle.result c.self.inside.wired.trail c.settle.new.wired.trail c.settle.new.server
    c.settle.new.running c.settle.ensures.settles).comes.appends

pub settle-requires-clause-heard : goal.settle-requires-clause-heard
settle-requires-clause-heard g c = λ tells stale.
    let settled = fact.Settled c.args.at.op c.args.at.dialled.host c.args.at.dialled.conn stale in
    subst (λ d. TellsHeard (g.N.Net.history d.net) d.trail c.args.at.moment settled) (sym c.self.view_is) (c.requires.heard tells stale)

pub settle-requires-clause-came : goal.settle-requires-clause-came
settle-requires-clause-came g c = λ tells.
    let came = rw (← c.self.view_is) at (c.requires.came tells) in
    c.take_news-news.ensures.came (g.N.Net.history c.self.inside.wired.net) came

pub settle-requires-clause-on : goal.settle-requires-clause-on
settle-requires-clause-on g c =
    let there = rw (← c.self.view_is) at c.requires.work.there in
    let dialled = rw (← c.self.view_is) at c.requires.dialled in
    (greets-on c.self.inside.wired.trail.point.state c.args.at.op c.args.operation.now c.args.at.dialled there dialled).of_conn
