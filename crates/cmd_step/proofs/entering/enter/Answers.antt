use Rattle.std.proofs.Common.{◌≡◌, refl, sym, ap, ◌∙◌, subst}
use Rattle.pool_book.specs.declared.ticket.Ticket.{Ticket}
use Rattle.desk_trail.specs.declared.entry.Entry.TheVariants as entry_of
use Rattle.desk_trail.specs.Facts as fact
use Rattle.desk_trail.specs.Legal.{Point}
use Rattle.desk_trail.specs.Written.{an_entry}
use Rattle.legal_trail.specs.Recorded.{Adds}
use Rattle.pool_book.specs.Entries as pool
use Rattle.server_state.specs.PoolMoves.{behind_group}
use Rattle.cmd_step.proofs.PlaceLemmas.{StandsAt-entered, behind-entered}
use Rattle.cmd_step.proofs.entering.enter.Goals as goal

pub append-requires-clause-stands : goal.append-requires-clause-stands
append-requires-clause-stands g c = (
  fact.Entered c.args.at.op c.args.at.host c.in_ok-ticket.ticket.number,
  refl,
  StandsAt-entered c.args.wired.now.trail.client c.args.wired.now.trail.point c.args.at c.in_ok-ticket.ticket.number c.args.server.now c.args.running.now c.requires.free c.requires.places
      c.requires.idle c.requires.chose (ap (λ (t : Ticket). t.number) c.in_ok-ticket.ensures.ticket),
)

pub returns-clause-adds : goal.returns-clause-adds
returns-clause-adds g c =
    subst (λ n. Adds an_entry c.args.wired.now.trail.lists c.args.at.moment (entry_of.Entered c.args.at.op c.args.at.host n) (fact.Entered c.args.at.op c.args.at.host n)
    c.args.wired.now.trail c.append.new.self.trail) (ap (λ (t : Ticket). t.number) c.in_ok-ticket.ensures.ticket)
    (c.append.ensures.adds (fact.Entered c.args.at.op c.args.at.host c.in_ok-ticket.ticket.number) refl)

pub returns-clause-moved : goal.returns-clause-moved
returns-clause-moved g c =
    let number : c.in_ok-ticket.ticket.number ≡ c.args.server.now.pool.state.entered = ap (λ (t : Ticket). t.number) c.in_ok-ticket.ensures.ticket in
    let adds = c.append.ensures.adds (fact.Entered c.args.at.op c.args.at.host c.in_ok-ticket.ticket.number) refl in
    ap (λ (p : Point). p.state) adds.point_now
    ∙ behind-entered c.args.wired.now.trail.client c.args.wired.now.trail.point.state c.args.at c.in_ok-ticket.ticket.number c.args.server.now c.enter.new.self c.args.running.now
    c.enter-2.new.self c.requires.places c.requires.idle
    (c.in_ok-ticket.ensures.ok.moves ∙ ap (λ n. behind_group c.args.at.moment (pool.Entered n) c.args.server.now) (sym number)) c.enter-2.ensures.waits
