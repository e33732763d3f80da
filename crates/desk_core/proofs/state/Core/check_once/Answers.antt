use Rattle.std.proofs.Common.{[]}
use Rattle.desk_core.proofs.AppendsLemmas.{Appends-refl, Appends-rose}
use Rattle.desk_core.proofs.CheckLemmas.{IsReady-paid, IsToBegin-ready}
use Rattle.desk_core.proofs.RestLemmas.{HasEnded-begun, HasEnded-rests, HasEnded-undialled, IsAtRest-by}
use Rattle.desk_core.proofs.SightLemmas.{ends-by}
use Rattle.desk_core.proofs.state.Core.check_once.Goals.{then-is_due+in_ok-begin_check, else-is_due}
use Rattle.desk_core.proofs.state.Core.check_once.Goals as goal

pub returns-else-is_running-clause-appends : goal.returns-else-is_running-clause-appends
returns-else-is_running-clause-appends g c = elim c.if-is_due.branch [
  | then-is_due+in_ok-begin_check w ↦ rw w.self-is w.begin_check.ensures.appends
  | else-is_due w ↦ rw w.self-is (Appends-refl c.args.moment c.args.self.now.trail)
]

pub returns-else-is_running-clause-ends : goal.returns-else-is_running-clause-ends
returns-else-is_running-clause-ends g c = elim c.if-is_due.branch [
  | then-is_due+in_ok-begin_check w ↦
      let none = c.is_running.ensures.no c.if-is_running.false in
      let no = rw w.self-is at none in
      rw w.self-is
      (HasEnded-undialled c.args.self.now.trail.point.state w.begin_check.new.self.trail.point.state c.args.moment c.args.host w.in_ok-begin_check.ensures.begins no)
  | else-is_due w ↦
      let none = c.is_running.ensures.no c.if-is_running.false in
      let no = rw w.self-is at none in
      rw w.self-is
      (HasEnded-rests c.args.self.now.trail.point.state c.args.self.now.trail.point.state c.args.moment c.args.host
      (IsAtRest-by c.args.self.now.trail.point.state c.args.moment c.args.host (c.is_due.ensures.no w.if-is_due.false) no))
]

pub returns-then-is_running-clause-ends : goal.returns-then-is_running-clause-ends
returns-then-is_running-clause-ends g c = elim c.if-is_due.branch [
  | then-is_due+in_ok-begin_check w ↦
      let ends = rw w.self-is at c.drive_check.ensures.ends in
      ends-by c.drive_check.result _ _
      (λ ended. HasEnded-begun c.args.self.now.trail.point.state w.begin_check.new.self.trail.point.state c.drive_check.new.self.trail.point.state c.args.moment c.args.host
      (c.is_due.ensures.yes w.if-is_due.true) w.in_ok-begin_check.ensures.begins ended) ends
  | else-is_due w ↦ rw w.self-is at c.drive_check.ensures.ends
]

pub returns-then-is_running-clause-appends : goal.returns-then-is_running-clause-appends
returns-then-is_running-clause-appends g c = elim c.if-is_due.branch [
  | then-is_due+in_ok-begin_check w ↦
      let faults = rw w.self-is at c.drive_check.ensures.faults in
      let appends = rw w.self-is at c.drive_check.ensures.appends in
      Appends-rose _ _ _ c.args.moment c.args.self.now.trail w.begin_check.new.self.trail c.drive_check.new.self.trail w.begin_check.ensures.faults faults w.begin_check.ensures.appends appends
  | else-is_due w ↦ rw w.self-is at c.drive_check.ensures.appends
]

pub is_running-requires : goal.is_running-requires
is_running-requires g c = elim c.if-is_due.branch [
  | then-is_due+in_ok-begin_check w ↦
      rw w.self-is
      (IsReady-paid w.begin_check.new.self c.args.moment 0 (w.in_ok-begin_check.ensures.ok [] (IsToBegin-ready c.args.self.now c.args.moment c.args.host c.requires.ready))).runs
  | else-is_due w ↦ rw w.self-is c.requires.ready.runs
]

pub drive_check-requires-clause-ready : goal.drive_check-requires-clause-ready
drive_check-requires-clause-ready g c = elim c.if-is_due.branch [
  | then-is_due+in_ok-begin_check w ↦
      rw w.self-is
      (IsReady-paid w.begin_check.new.self c.args.moment 0 (w.in_ok-begin_check.ensures.ok [] (IsToBegin-ready c.args.self.now c.args.moment c.args.host c.requires.ready)))
  | else-is_due w ↦ rw w.self-is c.requires.ready
]

pub returns-else-is_running-clause-ok : goal.returns-else-is_running-clause-ok
returns-else-is_running-clause-ok g c = elim c.if-is_due.branch [
  | then-is_due+in_ok-begin_check w ↦
      rw w.self-is
      (IsReady-paid w.begin_check.new.self c.args.moment 0 (w.in_ok-begin_check.ensures.ok [] (IsToBegin-ready c.args.self.now c.args.moment c.args.host c.requires.ready)))
  | else-is_due w ↦ rw w.self-is c.requires.ready
]
