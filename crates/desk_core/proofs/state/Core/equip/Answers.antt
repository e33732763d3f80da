use Rattle.sess_book.specs.Ids.{id_of}
use Rattle.desk_core.proofs.AppendsLemmas.{grown-leasing, grown-trans, grown-weaken}
use Rattle.desk_core.proofs.LeaseLemmas.{MovesLease-there, MovesLease-trans}
use Rattle.desk_core.proofs.state.Core.equip.Goals as goal

pub draw_one-requires-clause-work : goal.draw_one-requires-clause-work
draw_one-requires-clause-work g c =
    let work = rw (← c.operation.view_is) at c.requires.work in
    record {
      ready = c.in_ok-lease_one.ensures.ok;
      there = MovesLease-there c.args.op c.operation.inside.running c.lease_one.new.running c.lease_one.new.sessions c.args.self.now.trail c.lease_one.new.self.trail work.there
          c.in_ok-lease_one.ensures.moves;
    }

pub returns-clause-moves : goal.returns-clause-moves
returns-clause-moves g c =
    MovesLease-trans c.args.op c.lease_one.new.running c.draw_one.new.running c.lease_one.new.sessions c.draw_one.new.sessions c.args.self.now.trail c.lease_one.new.self.trail
    c.draw_one.new.self.trail c.in_ok-lease_one.ensures.moves c.in_ok-draw_one.ensures.moves

pub returns-in_err-draw_one-clause-appends : goal.returns-in_err-draw_one-clause-appends
returns-in_err-draw_one-clause-appends g c =
    grown-weaken c.args.moment c.args.self.now.trail c.draw_one.new.self.trail (λ e. absurd e)
    (grown-trans c.args.moment c.args.self.now.trail c.lease_one.new.self.trail c.draw_one.new.self.trail c.lease_one.ensures.appends
    (grown-leasing c.args.moment c.args.op (id_of c.args.words.first c.args.words.second) c.lease_one.new.self.trail c.draw_one.new.self.trail c.draw_one.ensures.appends))

pub returns-clause-appends : goal.returns-clause-appends
returns-clause-appends g c =
    grown-weaken c.args.moment c.args.self.now.trail c.draw_one.new.self.trail (λ e. absurd e)
    (grown-trans c.args.moment c.args.self.now.trail c.lease_one.new.self.trail c.draw_one.new.self.trail c.lease_one.ensures.appends
    (grown-leasing c.args.moment c.args.op (id_of c.args.words.first c.args.words.second) c.lease_one.new.self.trail c.draw_one.new.self.trail c.draw_one.ensures.appends))
