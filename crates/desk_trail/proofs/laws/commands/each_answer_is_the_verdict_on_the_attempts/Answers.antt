use Rattle.std.proofs.Common.{[], ◌∷◌, ap, sym, ◌∙◌}
use Rattle.cmd_build.specs.Ops.{writes, retries}
use Rattle.entry_judge.specs.declared.timed.Timed.{Timed}
use Rattle.entry_judge.specs.LegalLaws.{Legal-front}
use Rattle.write_retry.specs.Histories.{answer_in}
use Rattle.write_retry.specs.Machine.{Op}
use Rattle.write_retry.specs.declared.events.Next.{Next}
use Rattle.desk_trail.specs.Facts.{Fact}
use Rattle.desk_trail.specs.Facts as fact
use Rattle.desk_trail.specs.Legal.{AreLegal, StandsAt, beginning, point_after}
use Rattle.desk_trail.specs.Parts.{events_of}
use Rattle.desk_trail.proofs.CommandLemmas.{command-behind, command-leads}
use Rattle.desk_trail.proofs.OrderLemmas.{last-stands}
use Rattle.desk_trail.proofs.laws.commands.each_answer_is_the_verdict_on_the_attempts.Goals as goal

pub returns : goal.returns
returns c client op command ts moment outcome given l =
    let t : Timed Fact = record { at = moment; what = fact.Finished op outcome } in
    let front : AreLegal client ts = Legal-front (StandsAt client) (point_after client) (beginning client) ts (t ∷ []) l in
    let s = last-stands client (beginning client) ts t l in
    let answered = s.rule in
    let leads = command-behind client op command ts answered.0 given front answered.1 in
    sym (c.answers_are_verdicts.ensures (writes command.act) (retries command.act) (events_of client op ts) (command-leads client op command ts given front).legal)
    ∙ sym (ap (λ (x : Op). answer_in x.next) leads) ∙ ap (λ (n : Next). answer_in n) answered.2.answers
