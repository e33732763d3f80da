use Rattle.std.proofs.Common.{sym, ap, ◌∙◌}
use Rattle.desk_trail.specs.Checks.{due_from}
use Rattle.desk_trail.specs.States.{ClientState}
use Rattle.desk_core.proofs.AppendsLemmas.{Appends-refl}
use Rattle.desk_core.proofs.BegunLemmas.{IsWriting-as, begun}
use Rattle.desk_core.proofs.CheckLemmas.{IsReady-paid}
use Rattle.desk_core.proofs.OfferLemmas.{OnOk-by}
use Rattle.desk_core.proofs.state.Core.begin_owed.Goals as goal

pub returns-in_err-hosts-clause-appends : goal.returns-in_err-hosts-clause-appends
returns-in_err-hosts-clause-appends g c = rw (← c.self.view_is) (Appends-refl c.args.moment c.self.inside.wired.trail)

pub begin_all-requires : goal.begin_all-requires
begin_all-requires g c =
    let w = rw (← c.self.view_is) at c.requires.writing in
    let h = c.self.invariant.leads w.runs in
    record {
      writing = rw (← c.self.view_is) (IsWriting-as _ c.args.moment 0 _ _ (ap (λ (v : ClientState). due_from 0 c.args.moment v.servers) h.state
          ∙ ap (due_from 0 c.args.moment) (sym c.deref.ensures.value) ∙ sym c.in_ok-hosts.ensures.due ∙ ap begun (sym c.as_slice.ensures.value)) w);
    }

pub returns-clause-ok : goal.returns-clause-ok
returns-clause-ok g c = OnOk-by c.begin_all.result _ _ (λ w. IsReady-paid c.begin_all.new.self c.args.moment 0 w) c.begin_all.ensures.ok
