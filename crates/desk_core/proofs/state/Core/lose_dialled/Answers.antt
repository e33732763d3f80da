use Rattle.std.proofs.Common.{◌≡◌, ◌+◌, ◌-◌, Some, refl, ap, ◌∙◌, arith}
use Rattle.std.specs.Prelude.{slice_get}
use Rattle.pool_book.specs.Pool.{held_of}
use Rattle.desk_trail.specs.States.{ServerState}
use Rattle.cmd_step.specs.declared.place.At.{At}
use Rattle.desk_core.proofs.BesideLemmas.{KeepsCheckLines-closes_conn}
use Rattle.desk_core.proofs.DropLemmas.{read-there}
use Rattle.desk_core.proofs.GreetingLemmas.{IsKept-past, IsPast, IsPast-lost, IsStage, IsStage-by, KeepsAddress-past, ToOffer-past, closing-past}
use Rattle.desk_core.proofs.PoolLemmas.{at-servers}
use Rattle.desk_core.proofs.state.Core.lose_dialled.Goals as goal

pub lose-requires-clause-idle : goal.lose-requires-clause-idle
lose-requires-clause-idle g c =
    let work = rw (← c.self.view_is) at c.requires.work in
    let dialled = rw (← c.self.view_is) at c.requires.dialled in
    (IsStage-by c.self.inside.wired.trail c.self.inside.wired.lines c.self.inside.topology.topology c.self.inside.servers.items c.self.inside.gossip c.self.inside.last c.args.at.op c.args.at.moment
    c.args.at.dialled c.args.operation.now c.operation.inside.running c.index_mut-server.result.now (c.self.invariant.leads work.ready.runs) work.ready.paid work.ready.now work.there dialled
    c.operation.view_is c.index_mut-server.ensures.value).idle

pub lose-requires-clause-dialled : goal.lose-requires-clause-dialled
lose-requires-clause-dialled g c =
    let work = rw (← c.self.view_is) at c.requires.work in
    let dialled = rw (← c.self.view_is) at c.requires.dialled in
    (IsStage-by c.self.inside.wired.trail c.self.inside.wired.lines c.self.inside.topology.topology c.self.inside.servers.items c.self.inside.gossip c.self.inside.last c.args.at.op c.args.at.moment
    c.args.at.dialled c.args.operation.now c.operation.inside.running c.index_mut-server.result.now (c.self.invariant.leads work.ready.runs) work.ready.paid work.ready.now work.there dialled
    c.operation.view_is c.index_mut-server.ensures.value).dialled

pub overflow_sub-self : goal.overflow_sub-self
overflow_sub-self g c =
    let work = rw (← c.self.view_is) at c.requires.work in
    let dialled = rw (← c.self.view_is) at c.requires.dialled in
    let stage = IsStage-by c.self.inside.wired.trail c.self.inside.wired.lines c.self.inside.topology.topology c.self.inside.servers.items c.self.inside.gossip c.self.inside.last c.args.at.op
    c.args.at.moment c.args.at.dialled c.args.operation.now c.operation.inside.running c.index_mut-server.result.now (c.self.invariant.leads work.ready.runs) work.ready.paid work.ready.now work.there
    dialled c.operation.view_is c.index_mut-server.ensures.value in
    omega (arith, c.closing_of-before.ensures, stage.within, c.self.invariant.counted)

pub overflow_add-self : goal.overflow_add-self
overflow_add-self g c =
    let work = rw (← c.self.view_is) at c.requires.work in
    let dialled = rw (← c.self.view_is) at c.requires.dialled in
    let at : At = record { op = c.args.at.op; host = c.args.at.dialled.host; moment = c.args.at.moment } in
    let old = c.self.inside.wired.trail in
    let new = c.lose.new.wired.trail in
    let items = c.self.inside.servers.items in
    let s = c.index_mut-server.result.now in
    let t = c.lose.new.server in
    let l = c.self.invariant.leads work.ready.runs in
    let stage : IsStage old items at c.args.at.dialled.conn s c.operation.inside.running =
    IsStage-by old c.self.inside.wired.lines c.self.inside.topology.topology items c.self.inside.gossip c.self.inside.last c.args.at.op c.args.at.moment c.args.at.dialled c.args.operation.now
    c.operation.inside.running s l work.ready.paid work.ready.now work.there dialled c.operation.view_is c.index_mut-server.ensures.value in
    let past : IsPast at c.take_news-news.result old new t c.lose.new.running =
    IsPast-lost at (record { conn = c.args.at.dialled.conn; why = c.args.why; news = c.take_news-news.result }) old new t c.lose.new.running c.lose.ensures.lost in
    let less = closing-past at c.take_news-news.result old new c.self.inside.wired.lines c.self.inside.topology.topology items c.self.inside.gossip c.args.at.dialled.conn c.self.inside.last s t
    c.operation.inside.running c.lose.new.running l stage past in
    omega (arith, less, c.closing_of-before.ensures, c.closing_of-behind.ensures, stage.within, c.self.invariant.counted)

pub invariant_of-self : goal.invariant_of-self
invariant_of-self g c =
    let work = rw (← c.self.view_is) at c.requires.work in
    let dialled = rw (← c.self.view_is) at c.requires.dialled in
    let room = rw (← c.self.view_is) at c.requires.room in
    let at : At = record { op = c.args.at.op; host = c.args.at.dialled.host; moment = c.args.at.moment } in
    let old = c.self.inside.wired.trail in
    let new = c.lose.new.wired.trail in
    let items = c.self.inside.servers.items in
    let s = c.index_mut-server.result.now in
    let t = c.lose.new.server in
    let l = c.self.invariant.leads work.ready.runs in
    let stage : IsStage old items at c.args.at.dialled.conn s c.operation.inside.running =
    IsStage-by old c.self.inside.wired.lines c.self.inside.topology.topology items c.self.inside.gossip c.self.inside.last c.args.at.op c.args.at.moment c.args.at.dialled c.args.operation.now
    c.operation.inside.running s l work.ready.paid work.ready.now work.there dialled c.operation.view_is c.index_mut-server.ensures.value in
    let past : IsPast at c.take_news-news.result old new t c.lose.new.running =
    IsPast-lost at (record { conn = c.args.at.dialled.conn; why = c.args.why; news = c.take_news-news.result }) old new t c.lose.new.running c.lose.ensures.lost in
    let within = stage.within in
    let counted = c.self.invariant.counted in
    let before = c.closing_of-before.ensures in
    let behind = c.closing_of-behind.ensures in
    IsKept-past at c.take_news-news.result old new c.self.inside.wired.lines c.lose.new.wired.lines c.self.inside.topology.topology items c.self.inside.gossip c.take_news-news.new.gossip
    c.args.time c.self.inside.closings (c.self.inside.closings - c.closing_of-before.result + c.closing_of-behind.result) c.args.at.dialled.conn c.self.inside.last c.self.inside.stopped s t
    c.operation.inside.running c.lose.new.running c.self.invariant work.ready.runs stage past c.lose.ensures.idle c.take_news-news.ensures.news c.take_news-news.ensures.greatest work.ready.now
    room (KeepsCheckLines-closes_conn c.args.at.dialled.host c.args.at.dialled.conn c.self.inside.wired.lines c.lose.new.wired.lines c.lose.ensures.closes) (omega arith)

pub returns-clause-owes : goal.returns-clause-owes
returns-clause-owes g c =
    let work = rw (← c.self.view_is) at c.requires.work in
    let dialled = rw (← c.self.view_is) at c.requires.dialled in
    let room = rw (← c.self.view_is) at c.requires.room in
    let at : At = record { op = c.args.at.op; host = c.args.at.dialled.host; moment = c.args.at.moment } in
    let old = c.self.inside.wired.trail in
    let new = c.lose.new.wired.trail in
    let items = c.self.inside.servers.items in
    let s = c.index_mut-server.result.now in
    let t = c.lose.new.server in
    let l = c.self.invariant.leads work.ready.runs in
    let stage : IsStage old items at c.args.at.dialled.conn s c.operation.inside.running =
    IsStage-by old c.self.inside.wired.lines c.self.inside.topology.topology items c.self.inside.gossip c.self.inside.last c.args.at.op c.args.at.moment c.args.at.dialled c.args.operation.now
    c.operation.inside.running s l work.ready.paid work.ready.now work.there dialled c.operation.view_is c.index_mut-server.ensures.value in
    let past : IsPast at c.take_news-news.result old new t c.lose.new.running =
    IsPast-lost at (record { conn = c.args.at.dialled.conn; why = c.args.why; news = c.take_news-news.result }) old new t c.lose.new.running c.lose.ensures.lost in
    let less = closing-past at c.take_news-news.result old new c.self.inside.wired.lines c.self.inside.topology.topology items c.self.inside.gossip c.args.at.dialled.conn c.self.inside.last s t
    c.operation.inside.running c.lose.new.running l stage past in
    let few = past.few in
    let space = past.comes.space in
    let within = stage.within in
    let counted = c.self.invariant.counted in
    let before = c.closing_of-before.ensures in
    let behind = c.closing_of-behind.ensures in
    let first : slice_get items c.args.at.dialled.host ≡ Some dialled.server =
    at-servers old c.self.inside.wired.lines c.self.inside.topology.topology items c.self.inside.gossip c.self.inside.last c.args.at.dialled.host dialled.server l dialled.there in
    let is : s ≡ dialled.server = read-there items c.args.at.dialled.host dialled.server s first c.index_mut-server.ensures.value in
    ToOffer-past _ at c.take_news-news.result c.args.at.dialled.generation c.args.at.dialled.conn c.args.why old new items s t c.operation.inside.running c.lose.new.running dialled.held stage past
    refl work.ready.runs work.ready.now (omega arith) dialled.generation
    (c.lose.ensures.offers dialled.held (ap (λ (u : ServerState). held_of c.args.at.dialled.conn u.pool.state.pending) is ∙ dialled.pending))

pub returns-clause-stays : goal.returns-clause-stays
returns-clause-stays g c =
    let at : At = record { op = c.args.at.op; host = c.args.at.dialled.host; moment = c.args.at.moment } in
    rw (← c.self.view_is)
    (KeepsAddress-past at c.take_news-news.result c.self.inside.wired.trail c.lose.new.wired.trail c.lose.new.server c.lose.new.running
    (IsPast-lost at (record { conn = c.args.at.dialled.conn; why = c.args.why; news = c.take_news-news.result }) c.self.inside.wired.trail c.lose.new.wired.trail c.lose.new.server
    c.lose.new.running c.lose.ensures.lost))

pub returns-clause-appends : goal.returns-clause-appends
returns-clause-appends g c =
    let at : At = record { op = c.args.at.op; host = c.args.at.dialled.host; moment = c.args.at.moment } in
    rw (← c.self.view_is)
    (IsPast-lost at (record { conn = c.args.at.dialled.conn; why = c.args.why; news = c.take_news-news.result }) c.self.inside.wired.trail c.lose.new.wired.trail c.lose.new.server
    c.lose.new.running c.lose.ensures.lost).comes.appends

pub lose-requires-clause-heard : goal.lose-requires-clause-heard
lose-requires-clause-heard g c = λ tells.
    let heard = rw (← c.self.view_is) at (c.requires.heard tells) in
    heard

pub lose-requires-clause-came : goal.lose-requires-clause-came
lose-requires-clause-came g c = λ tells.
    let came = rw (← c.self.view_is) at (c.requires.came tells) in
    c.take_news-news.ensures.came (g.N.Net.history c.self.inside.wired.net) came
