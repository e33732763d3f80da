use Rattle.std.proofs.Common.{◌≤◌, sym, subst, arith}
use Rattle.desk_trail.specs.Checks.{IsCheckedFor}
use Rattle.desk_trail.specs.Looks.{first_look}
use Rattle.server_look.specs.Inputs.{deadline_by}
use Rattle.server_look.proofs.checked.may_look.Goals as goal

pub returns-else-asking-wait-clause-yes : goal.returns-else-asking-wait-clause-yes
returns-else-asking-wait-clause-yes c = λ e late host s at stays.
    rw (c.first_look.ensures.first, c.deadline.ensures.deadline, c.hosts_known.ensures.known) at c.are_checked.ensures.yes e host s at stays

pub returns-else-asking-wait-clause-no : goal.returns-else-asking-wait-clause-no
returns-else-asking-wait-clause-no c = λ e timely.
    let moment = c.args.asking.moment in
    let first = first_look c.args.asking.running.now moment in
    let due = deadline_by c.args.input.settings.now c.args.asking.running.now moment in
    let past : due ≤ moment = omega (arith, c.deadline.ensures.deadline, c.if-asking-wait.false) in
    c.are_checked.ensures.no e
    (λ host s at stays.
    subst (λ f. IsCheckedFor moment f c.deadline.result c.hosts_known.result host s) (sym c.first_look.ensures.first)
    (subst (λ d. IsCheckedFor moment first d c.hosts_known.result host s) (sym c.deadline.ensures.deadline)
    (subst (λ k. IsCheckedFor moment first due k host s) (sym c.hosts_known.ensures.known) (timely past host s at stays))))
