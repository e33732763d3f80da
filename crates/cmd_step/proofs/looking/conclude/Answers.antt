use Rattle.std.proofs.Common.{◌≡◌, sym, subst}
use Rattle.desk_trail.specs.declared.entry.LookedHow.{LookedHow}
use Rattle.server_look.specs.Inputs.{IsDescribed}
use Rattle.cmd_step.specs.Looked.{looked_by}
use Rattle.cmd_step.proofs.MoveLemmas.{described-within, has-in, there-in}
use Rattle.cmd_step.proofs.looking.conclude.Goals as goal

pub bounds-servers-host : goal.bounds-servers-host
bounds-servers-host c =
    described-within c.args.looking.topology.now.servers c.args.servers.now c.in-Chosen.host
    (subst (IsDescribed c.args.looking.topology.now.servers c.args.servers.now) c.in-Chosen.is c.requires.described)

pub bounds-servers-host-in-Incompatible : goal.bounds-servers-host-in-Incompatible
bounds-servers-host-in-Incompatible c =
    described-within c.args.looking.topology.now.servers c.args.servers.now c.in-Incompatible.host
    (subst (IsDescribed c.args.looking.topology.now.servers c.args.servers.now) c.in-Incompatible.is c.requires.described)

pub returns-in_ok-choose-in-Chosen-clause-command : goal.returns-in_ok-choose-in-Chosen-clause-command
returns-in_ok-choose-in-Chosen-clause-command c = λ client w s t v.
    let has = subst (IsDescribed c.args.looking.topology.now.servers c.args.servers.now) c.in-Chosen.is c.requires.described in
    let within = described-within c.args.looking.topology.now.servers c.args.servers.now c.in-Chosen.host has in
    subst (λ (h : LookedHow). c.choose.new.running ≡ looked_by client w c.args.looking.moment h c.args.running.now) (sym c.in-Chosen.is)
    (c.in_ok-choose-in-Chosen.ensures.ok client w c.args.looking.moment s t (there-in w c.args.servers.now c.in-Chosen.host c.index-servers-host.result v within)
    (has-in w c.args.looking.topology.now c.args.servers.now c.in-Chosen.host t v has))

pub returns-in-Incompatible-clause-command : goal.returns-in-Incompatible-clause-command
returns-in-Incompatible-clause-command c = λ client w s t v.
    let has = subst (IsDescribed c.args.looking.topology.now.servers c.args.servers.now) c.in-Incompatible.is c.requires.described in
    let within = described-within c.args.looking.topology.now.servers c.args.servers.now c.in-Incompatible.host has in
    subst (λ (h : LookedHow). c.misfit.new.running ≡ looked_by client w c.args.looking.moment h c.args.running.now) (sym c.in-Incompatible.is)
    (c.misfit.ensures.found client w c.args.looking.moment t
    (there-in w c.args.servers.now c.in-Incompatible.host c.index-servers-host-in-Incompatible.result v within)
    (has-in w c.args.looking.topology.now c.args.servers.now c.in-Incompatible.host t v has))

pub returns-in-Failed-clause-command : goal.returns-in-Failed-clause-command
returns-in-Failed-clause-command c = λ client w s t v.
    subst (λ (h : LookedHow). c.find_none.new.self ≡ looked_by client w c.args.looking.moment h c.args.running.now) (sym c.in-Failed.is)
    (c.find_none.ensures.failed w c.args.looking.moment)
