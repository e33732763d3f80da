use Rattle.std.proofs.Common.{◌≡◌, List, refl, sym, ap, ◌∙◌}
use Rattle.std.specs.Prelude.{slice_set}
use Rattle.desk_trail.specs.Clients.{Client}
use Rattle.desk_trail.specs.Facts as fact
use Rattle.desk_trail.specs.Legal.{Point}
use Rattle.desk_trail.specs.States.{ClientState, CommandState, ServerState}
use Rattle.cmd_step.specs.Looked.{looked_by, servers_behind}
use Rattle.cmd_step.proofs.MoveLemmas.{StandsAt-looked, behind-look}
use Rattle.cmd_step.proofs.looking.record_look.Goals as goal

pub append-requires-clause-stands : goal.append-requires-clause-stands
append-requires-clause-stands g c =
    let looking = c.args.looking in (
      fact.Looked looking.op looking.words.0 looking.words.1 c.args.answer.kept c.args.answer.how,
      refl,
      StandsAt-looked c.args.wired.now.trail.client c.args.wired.now.trail.point looking.moment looking.op looking.words.0 looking.words.1 c.args.answer.kept c.args.answer.how
          c.args.running.now c.requires.free c.requires.command c.requires.selects c.requires.looks,
    )

pub returns-in_err-conclude-clause-adds : goal.returns-in_err-conclude-clause-adds
returns-in_err-conclude-clause-adds g c =
    let looking = c.args.looking in
    c.append.ensures.adds (fact.Looked looking.op looking.words.0 looking.words.1 c.args.answer.kept c.args.answer.how) refl

pub returns-clause-adds : goal.returns-clause-adds
returns-clause-adds g c =
    let looking = c.args.looking in
    c.append.ensures.adds (fact.Looked looking.op looking.words.0 looking.words.1 c.args.answer.kept c.args.answer.how) refl

pub returns-clause-moved : goal.returns-clause-moved
returns-clause-moved g c =
    let looking = c.args.looking in
    let how = c.args.answer.how in
    let w = c.args.wired.now.trail.point.state in
    let adds = c.append.ensures.adds (fact.Looked looking.op looking.words.0 looking.words.1 c.args.answer.kept how) refl in
    let command : c.conclude.new.running ≡ looked_by c.args.wired.now.trail.client w looking.moment how c.args.running.now =
    c.in_ok-conclude.ensures.command c.args.wired.now.trail.client w (ap (λ (k : Client). k.settings) (sym adds.same_client) ∙ sym c.settings.ensures.value) c.requires.topology c.requires.servers in
    let servers : c.conclude.new.servers ≡ servers_behind looking.moment how w.servers =
    c.in_ok-conclude.ensures.servers ∙ ap (servers_behind looking.moment how) (sym c.requires.servers) in
    ap (λ (p : Point). p.state) adds.point_now
    ∙ behind-look c.args.wired.now.trail.client w looking.moment looking.op looking.words.0 looking.words.1 c.args.answer.kept how c.args.running.now c.requires.command
    ∙ ap (λ (ss : List ServerState).
    let v : ClientState = record w { servers = ss; commands = slice_set w.commands looking.op (looked_by c.args.wired.now.trail.client w looking.moment how c.args.running.now) } in v) (sym servers)
    ∙ ap (λ (r : CommandState). let v : ClientState = record w { servers = c.conclude.new.servers; commands = slice_set w.commands looking.op r } in v) (sym command)
