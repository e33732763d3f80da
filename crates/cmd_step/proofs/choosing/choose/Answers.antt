use Rattle.std.proofs.Common.{◌≡◌, Option, sym, ap, ◌∙◌, subst}
use Rattle.std.specs.Prelude.{IfSome}
use Rattle.std.specs.Option.{option_map}
use Rattle.cmd_state.specs.Inside.{selected_of}
use Rattle.cmd_state.specs.declared.selected.Selected.{Selected}
use Rattle.cmd_step.proofs.MoveLemmas.{chosen-by}
use Rattle.cmd_step.proofs.choosing.choose.Goals as goal

pub returns-in-Some : goal.returns-in-Some
returns-in-Some c = record {
  ok = λ client w moment s t there has.
      chosen-by client w moment c.args.host c.in-Some.selected.host c.is_numbered-numbered.result (selected_of c.in-Some.selected) c.args.running.now c.choose.new.self
      (subst (λ (o : Option Selected). IfSome o (λ (x : Selected). x.host ≡ c.args.host)) c.in-Some.is c.in_ok-selected.ensures.host)
      (ap (option_map selected_of) (sym c.in-Some.is) ∙ c.in_ok-selected.ensures.selected w t there) (c.is_numbered-numbered.ensures.numbered client s)
      (c.choose.ensures.chosen w moment);
}
