use Rattle.std.proofs.Common.{refl, sym, ap, ◌∙◌, subst}
use Rattle.desk_trail.specs.declared.entry.Entry.TheVariants as entry_of
use Rattle.desk_trail.specs.Facts as fact
use Rattle.desk_trail.specs.Legal.{Point}
use Rattle.desk_trail.specs.Written.{an_entry}
use Rattle.legal_trail.specs.Recorded.{Adds, Recorded}
use Rattle.cmd_step.proofs.SweepLemmas.{StandsAt-shut, behind-shut}
use Rattle.cmd_step.proofs.sweeping.shut.Goals as goal

pub append-requires-clause-stands : goal.append-requires-clause-stands
append-requires-clause-stands g c = (
  fact.ConnShut c.args.host c.args.swept.conn c.args.swept.reason,
  refl,
  StandsAt-shut c.args.wired.now.trail.client c.args.wired.now.trail.point c.args.host c.args.moment c.args.swept.conn c.args.swept.reason c.requires.moves.0 c.args.server.now
      c.requires.free c.requires.moves.1 c.requires.moves.2 c.requires.moves.3,
)

pub returns-clause-adds : goal.returns-clause-adds
returns-clause-adds g c =
    subst (λ (r : Recorded). Adds an_entry c.args.wired.now.trail.lists c.args.moment (entry_of.ConnShut c.args.host c.args.swept.conn c.args.swept.reason)
    (fact.ConnShut c.args.host c.args.swept.conn c.args.swept.reason) c.args.wired.now.trail r) (sym c.close_conn.ensures.trail)
    (c.append.ensures.adds (fact.ConnShut c.args.host c.args.swept.conn c.args.swept.reason) refl)

pub returns-clause-moved : goal.returns-clause-moved
returns-clause-moved g c =
    let adds = c.append.ensures.adds (fact.ConnShut c.args.host c.args.swept.conn c.args.swept.reason) refl in
    ap (λ (r : Recorded). r.point.state) c.close_conn.ensures.trail
    ∙ ap (λ (p : Point). p.state) adds.point_now
    ∙ behind-shut c.args.wired.now.trail.client c.args.wired.now.trail.point.state c.args.host c.args.moment c.args.swept.conn c.args.swept.reason c.requires.moves.0 c.args.server.now
    c.requires.moves.1 c.requires.moves.2 c.requires.moves.3
