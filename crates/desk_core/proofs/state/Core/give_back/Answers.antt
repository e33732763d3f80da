use Rattle.std.proofs.Common.{◌≡◌, ◌+◌, ◌-◌, Some, ap, ◌∙◌, arith}
use Rattle.std.specs.Prelude.{slice_get}
use Rattle.pool_book.specs.Pool.{held_of}
use Rattle.desk_trail.specs.States.{CommandState, ServerState}
use Rattle.cmd_step.specs.declared.checking_in.Back.{Back}
use Rattle.cmd_step.specs.declared.place.At.{At}
use Rattle.desk_core.specs.Servers.{closing_of}
use Rattle.desk_core.proofs.BesideLemmas.{KeepsCheckLines-closes_conn}
use Rattle.desk_core.proofs.DropLemmas.{read-there}
use Rattle.desk_core.proofs.PoolLemmas.{at-servers}
use Rattle.desk_core.proofs.ReturnLemmas.{IsKept-returned, IsReturned, IsReturned-by, closing-within, grown-returned}
use Rattle.desk_core.proofs.state.Core.give_back.Goals as goal

pub check_in-requires-clause-idle : goal.check_in-requires-clause-idle
check_in-requires-clause-idle g c =
    let w = rw (← c.self.view_is) at c.requires.owes in
    let l = c.self.invariant.leads w.runs in
    let lent = rw (← c.self.view_is) at c.requires.lent in
    let there : slice_get c.self.inside.servers.items c.args.at.lent.host ≡ Some lent.server = at-servers _ _ _ _ _ _ c.args.at.lent.host lent.server l lent.there in
    let is : c.index_mut-server.result.now ≡ lent.server =
    read-there c.self.inside.servers.items c.args.at.lent.host lent.server c.index_mut-server.result.now there c.index_mut-server.ensures.value in
    ap (λ (s : ServerState). s.pool.owed) is ∙ (l.kept c.args.at.lent.host lent.server there).paid

pub check_in-requires-clause-lent : goal.check_in-requires-clause-lent
check_in-requires-clause-lent g c =
    let w = rw (← c.self.view_is) at c.requires.owes in
    let l = c.self.invariant.leads w.runs in
    let lent = rw (← c.self.view_is) at c.requires.lent in
    let there : slice_get c.self.inside.servers.items c.args.at.lent.host ≡ Some lent.server = at-servers _ _ _ _ _ _ c.args.at.lent.host lent.server l lent.there in
    let is : c.index_mut-server.result.now ≡ lent.server =
    read-there c.self.inside.servers.items c.args.at.lent.host lent.server c.index_mut-server.result.now there c.index_mut-server.ensures.value in
    record {
      held = lent.held;
      lent = ap (λ (s : ServerState). held_of c.args.at.lent.conn s.pool.state.lent) is ∙ lent.lent;
      has = ap (λ (x : CommandState). x.check_out) c.operation.view_is ∙ lent.has;
    }

pub overflow_sub-self : goal.overflow_sub-self
overflow_sub-self g c =
    let w = rw (← c.self.view_is) at c.requires.owes in
    let l = c.self.invariant.leads w.runs in
    let lent = rw (← c.self.view_is) at c.requires.lent in
    let there : slice_get c.self.inside.servers.items c.args.at.lent.host ≡ Some lent.server = at-servers _ _ _ _ _ _ c.args.at.lent.host lent.server l lent.there in
    let is : c.index_mut-server.result.now ≡ lent.server =
    read-there c.self.inside.servers.items c.args.at.lent.host lent.server c.index_mut-server.result.now there c.index_mut-server.ensures.value in
    let before : c.closing_of-before.result ≡ closing_of lent.server = c.closing_of-before.ensures ∙ ap closing_of is in
    let within = closing-within c.self.inside.servers.items c.args.at.lent.host lent.server there in
    let counted = c.self.invariant.counted in
    omega arith

pub overflow_add-self : goal.overflow_add-self
overflow_add-self g c =
    let w = rw (← c.self.view_is) at c.requires.owes in
    let l = c.self.invariant.leads w.runs in
    let lent = rw (← c.self.view_is) at c.requires.lent in
    let there : slice_get c.self.inside.servers.items c.args.at.lent.host ≡ Some lent.server = at-servers _ _ _ _ _ _ c.args.at.lent.host lent.server l lent.there in
    let is : c.index_mut-server.result.now ≡ lent.server =
    read-there c.self.inside.servers.items c.args.at.lent.host lent.server c.index_mut-server.result.now there c.index_mut-server.ensures.value in
    let command = rw (← c.self.view_is) at c.requires.there in
    let at : At = record { op = c.args.at.op; host = c.args.at.lent.host; moment = c.args.at.moment } in
    let back : Back = record { conn = c.args.at.lent.conn; errored = c.args.errored } in
    let r : IsReturned at c.self.inside.wired.trail c.check_in.new.wired.trail lent.server c.check_in.new.server c.args.operation.now c.check_in.new.running =
    IsReturned-by at back c.check_in.result c.self.inside.wired.trail c.check_in.new.wired.trail lent.server c.check_in.new.server c.args.operation.now c.check_in.new.running
    (record { held = lent.held; lent = lent.lent; has = lent.has }) (record { server = lent.there; command = command }) c.check_in.ensures.back in
    let before : c.closing_of-before.result ≡ closing_of lent.server = c.closing_of-before.ensures ∙ ap closing_of is in
    let within = closing-within c.self.inside.servers.items c.args.at.lent.host lent.server there in
    let counted = c.self.invariant.counted in
    let behind = c.closing_of-behind.ensures in
    let few = r.closing in
    let fits = rw (← c.self.view_is) at c.requires.counts in
    omega arith

pub invariant_of-self : goal.invariant_of-self
invariant_of-self g c =
    let w = rw (← c.self.view_is) at c.requires.owes in
    let l = c.self.invariant.leads w.runs in
    let lent = rw (← c.self.view_is) at c.requires.lent in
    let there : slice_get c.self.inside.servers.items c.args.at.lent.host ≡ Some lent.server = at-servers _ _ _ _ _ _ c.args.at.lent.host lent.server l lent.there in
    let is : c.index_mut-server.result.now ≡ lent.server =
    read-there c.self.inside.servers.items c.args.at.lent.host lent.server c.index_mut-server.result.now there c.index_mut-server.ensures.value in
    let command = rw (← c.self.view_is) at c.requires.there in
    let at : At = record { op = c.args.at.op; host = c.args.at.lent.host; moment = c.args.at.moment } in
    let back : Back = record { conn = c.args.at.lent.conn; errored = c.args.errored } in
    let r : IsReturned at c.self.inside.wired.trail c.check_in.new.wired.trail lent.server c.check_in.new.server c.args.operation.now c.check_in.new.running =
    IsReturned-by at back c.check_in.result c.self.inside.wired.trail c.check_in.new.wired.trail lent.server c.check_in.new.server c.args.operation.now c.check_in.new.running
    (record { held = lent.held; lent = lent.lent; has = lent.has }) (record { server = lent.there; command = command }) c.check_in.ensures.back in
    let before : c.closing_of-before.result ≡ closing_of lent.server = c.closing_of-before.ensures ∙ ap closing_of is in
    let within = closing-within c.self.inside.servers.items c.args.at.lent.host lent.server there in
    let counted = c.self.invariant.counted in
    let behind = c.closing_of-behind.ensures in
    IsKept-returned at c.self.inside.wired.trail c.check_in.new.wired.trail c.self.inside.wired.lines c.check_in.new.wired.lines c.self.inside.topology.topology c.self.inside.servers.items
    c.self.inside.gossip c.self.inside.closings (c.self.inside.closings - c.closing_of-before.result + c.closing_of-behind.result) c.self.inside.last c.self.inside.stopped lent.server
    c.check_in.new.server c.args.operation.now c.check_in.new.running c.self.invariant w.runs r there c.check_in.ensures.idle w.now (omega arith) w.space
    (KeepsCheckLines-closes_conn c.args.at.lent.host c.args.at.lent.conn c.self.inside.wired.lines c.check_in.new.wired.lines c.check_in.ensures.closes)

pub returns-clause-next : goal.returns-clause-next
returns-clause-next g c =
    let w = rw (← c.self.view_is) at c.requires.owes in
    let l = c.self.invariant.leads w.runs in
    let lent = rw (← c.self.view_is) at c.requires.lent in
    let there : slice_get c.self.inside.servers.items c.args.at.lent.host ≡ Some lent.server = at-servers _ _ _ _ _ _ c.args.at.lent.host lent.server l lent.there in
    let is : c.index_mut-server.result.now ≡ lent.server =
    read-there c.self.inside.servers.items c.args.at.lent.host lent.server c.index_mut-server.result.now there c.index_mut-server.ensures.value in
    let command = rw (← c.self.view_is) at c.requires.there in
    let at : At = record { op = c.args.at.op; host = c.args.at.lent.host; moment = c.args.at.moment } in
    let back : Back = record { conn = c.args.at.lent.conn; errored = c.args.errored } in
    let r : IsReturned at c.self.inside.wired.trail c.check_in.new.wired.trail lent.server c.check_in.new.server c.args.operation.now c.check_in.new.running =
    IsReturned-by at back c.check_in.result c.self.inside.wired.trail c.check_in.new.wired.trail lent.server c.check_in.new.server c.args.operation.now c.check_in.new.running
    (record { held = lent.held; lent = lent.lent; has = lent.has }) (record { server = lent.there; command = command }) c.check_in.ensures.back in
    ap (λ (x : CommandState). x.op) r.command

pub returns-clause-free : goal.returns-clause-free
returns-clause-free g c =
    let w = rw (← c.self.view_is) at c.requires.owes in
    let l = c.self.invariant.leads w.runs in
    let lent = rw (← c.self.view_is) at c.requires.lent in
    let there : slice_get c.self.inside.servers.items c.args.at.lent.host ≡ Some lent.server = at-servers _ _ _ _ _ _ c.args.at.lent.host lent.server l lent.there in
    let is : c.index_mut-server.result.now ≡ lent.server =
    read-there c.self.inside.servers.items c.args.at.lent.host lent.server c.index_mut-server.result.now there c.index_mut-server.ensures.value in
    let command = rw (← c.self.view_is) at c.requires.there in
    let at : At = record { op = c.args.at.op; host = c.args.at.lent.host; moment = c.args.at.moment } in
    let back : Back = record { conn = c.args.at.lent.conn; errored = c.args.errored } in
    let r : IsReturned at c.self.inside.wired.trail c.check_in.new.wired.trail lent.server c.check_in.new.server c.args.operation.now c.check_in.new.running =
    IsReturned-by at back c.check_in.result c.self.inside.wired.trail c.check_in.new.wired.trail lent.server c.check_in.new.server c.args.operation.now c.check_in.new.running
    (record { held = lent.held; lent = lent.lent; has = lent.has }) (record { server = lent.there; command = command }) c.check_in.ensures.back in
    ap (λ (x : CommandState). x.check_out) r.command

pub returns-clause-appends : goal.returns-clause-appends
returns-clause-appends g c =
    let at : At = record { op = c.args.at.op; host = c.args.at.lent.host; moment = c.args.at.moment } in
    let back : Back = record { conn = c.args.at.lent.conn; errored = c.args.errored } in
    rw (← c.self.view_is)
    (grown-returned at back c.check_in.result c.self.inside.wired.trail c.check_in.new.wired.trail c.check_in.new.server c.check_in.new.running c.check_in.ensures.back)
