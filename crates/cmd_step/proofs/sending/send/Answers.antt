use Rattle.std.proofs.Common.{◌≡◌, true, refl, sym, ap, ◌∙◌, subst}
use Rattle.write_retry.specs.Machine.{allows}
use Rattle.write_retry.specs.declared.events.Next.{Next}
use Rattle.write_retry.specs.declared.events.OpEvent.TheVariants as event
use Rattle.desk_trail.specs.Legal.{Point}
use Rattle.cmd_step.proofs.SendLemmas.{StandsAt-sent, behind-sent}
use Rattle.cmd_step.proofs.sending.send.Goals as goal

pub ask-requires : goal.ask-requires
ask-requires g c = record { sends = subst (λ (n : Next). allows n event.Sent ≡ true) (sym c.requires.sends) refl }

pub ask-requires-2-clause-stands : goal.ask-requires-2-clause-stands
ask-requires-2-clause-stands g c =
    StandsAt-sent c.args.wired.now.trail c.args.moment c.args.op c.args.made.request c.args.running.now c.requires.free c.requires.there c.requires.sends c.requires.request

pub returns-clause-moved : goal.returns-clause-moved
returns-clause-moved g c =
    ap (λ (p : Point). p.state) c.ask-2.ensures.adds.point_now
    ∙ behind-sent c.args.wired.now.trail c.args.moment c.args.op c.args.made.request c.args.running.now c.ask.new.self c.requires.there c.requires.request
    c.ask.ensures.asked
