use Rattle.std.proofs.Common.{refl, arith}
use Rattle.sess_book.specs.Ids.{id_of}
use Rattle.desk_core.proofs.AppendsLemmas.{grown-leasing, grown-same}
use Rattle.desk_core.proofs.GoingLemmas.{Appends-then, HasGone-lease, HasGone-none, HasGone-one, HasGone-then}
use Rattle.desk_core.proofs.state.Core.enter_pool.Goals as goal

pub returns-in_default : goal.returns-in_default
returns-in_default g c = record {
  gone = HasGone-none c.args.self.now c.args.at.moment c.args.at.op c.args.operation.now c.args.sessions.now c.requires.step;
  means = tt;
  appends = grown-same c.args.at.moment c.args.self.now.trail c.args.self.now.trail refl refl refl;
  faults = omega arith;
}

pub returns-in_default-check_out : goal.returns-in_default-check_out
returns-in_default-check_out g c = record {
  gone = HasGone-none c.args.self.now c.args.at.moment c.args.at.op c.args.operation.now c.args.sessions.now c.requires.step;
  means = tt;
  appends = grown-same c.args.at.moment c.args.self.now.trail c.args.self.now.trail refl refl refl;
  faults = omega arith;
}

pub enter-requires-clause-work : goal.enter-requires-clause-work
enter-requires-clause-work g c =
    let leased = HasGone-lease c.args.self.now c.equip.new.self c.args.at.moment c.args.at.op _ _ _ _ c.requires.step c.in_ok-equipped.ensures.ok c.in_ok-equipped.ensures.moves
    c.in_ok-equipped.ensures.late in
    leased.step.work

pub returns-in_ok-enter-clause-gone : goal.returns-in_ok-enter-clause-gone
returns-in_ok-enter-clause-gone g c =
    let leased = HasGone-lease c.args.self.now c.equip.new.self c.args.at.moment c.args.at.op _ _ _ _ c.requires.step c.in_ok-equipped.ensures.ok c.in_ok-equipped.ensures.moves
    c.in_ok-equipped.ensures.late in
    HasGone-then c.args.self.now c.equip.new.self c.enter.new.self c.args.at.moment c.args.at.op _ _ _ _ leased
    (HasGone-one c.equip.new.self c.enter.new.self c.args.at.moment c.args.at.op _ _ _ leased.step c.in_ok-enter.ensures.ok c.in_ok-enter.ensures.moves)

pub returns-in_ok-enter-clause-appends : goal.returns-in_ok-enter-clause-appends
returns-in_ok-enter-clause-appends g c =
    Appends-then _ _ _ c.args.at.moment c.args.self.now.trail c.equip.new.self.trail c.enter.new.self.trail c.equip.ensures.faults c.enter.ensures.faults
    c.equip.ensures.appends
    (grown-leasing c.args.at.moment c.args.at.op (id_of c.args.words.first c.args.words.second) c.equip.new.self.trail c.enter.new.self.trail c.enter.ensures.appends)

pub returns-else-eq-clause-gone : goal.returns-else-eq-clause-gone
returns-else-eq-clause-gone g c =
    HasGone-lease c.args.self.now c.equip.new.self c.args.at.moment c.args.at.op _ _ _ _ c.requires.step c.in_ok-equipped.ensures.ok c.in_ok-equipped.ensures.moves
    c.in_ok-equipped.ensures.late

pub returns-in_err-enter-clause-appends : goal.returns-in_err-enter-clause-appends
returns-in_err-enter-clause-appends g c =
    Appends-then _ _ _ c.args.at.moment c.args.self.now.trail c.equip.new.self.trail c.enter.new.self.trail c.equip.ensures.faults c.enter.ensures.faults
    c.equip.ensures.appends
    (grown-leasing c.args.at.moment c.args.at.op (id_of c.args.words.first c.args.words.second) c.equip.new.self.trail c.enter.new.self.trail c.enter.ensures.appends)
