use Rattle.std.proofs.Common.{refl, ap, ◌∙◌}
use Rattle.desk_trail.specs.States.{fresh_server}
use Rattle.desk_core.proofs.naming.newcomer.Goals as goal

pub returns-clause-server : goal.returns-clause-server
returns-clause-server c = λ client e.
    c.new-server.ensures.server client (c.rules_of.ensures.rules client e) (rw (e, ← c.settings.view_is) refl)
    ∙ ap (λ h. fresh_server client c.args.moment h) c.in_ok-host.ensures
