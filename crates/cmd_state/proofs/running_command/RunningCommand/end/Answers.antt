use Rattle.std.specs.Prelude.{IsSome}
use Rattle.std.proofs.Common.{◌≡◌, ◌∙◌, ap, sym, subst}
use Rattle.write_retry.specs.Machine.{Op, after, ended}
use Rattle.write_retry.specs.declared.events.Next.TheVariants as next
use Rattle.write_retry.specs.declared.outcome.Outcome.{Outcome}
use Rattle.cmd_state.proofs.EndLemmas.{after-end, first-ended, second-answers}
use Rattle.cmd_state.proofs.running_command.RunningCommand.end.Goals as goal

-- src/attempts.rt
pub invariant_of-self : goal.invariant_of-self
invariant_of-self c =
    let op : Op = c.self.inside.machine in
    let goes : c.on.new.self ≡ ended c.args.end op = c.on.ensures.goes ∙ ap (λ e. after op e) c.event_of.ensures.event ∙ after-end op c.args.end in
    record {
      one = λ some. subst (λ (o : Op). IsSome o.first) (sym goes) (first-ended op c.args.end);
      two = λ some. subst (λ (o : Op). (outcome : Outcome) × (o.next ≡ next.Answer outcome)) (sym goes)
          (second-answers op c.args.end (c.self.invariant.one (c.tried_with-first.ensures.two some)));
    }
