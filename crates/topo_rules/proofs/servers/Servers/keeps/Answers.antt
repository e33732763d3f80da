use Rattle.std.proofs.Common.{sym}
use Rattle.topo_rules.proofs.MoveLemmas.{plain-insert}
use Rattle.topo_rules.proofs.servers.Servers.keeps.Goals as goal

pub returns-in-Some : goal.returns-in-Some
returns-in-Some c =
    let both = plain-insert c.args.self.now c.args.host.now c.args.description.now c.in-Some.known.now (sym c.in-Some.ensures.value) in
    (λ h. both.0 (c.is_same_but_mean.ensures.0 h), λ e. c.is_same_but_mean.ensures.1 (both.1 e))
