use Rattle.std.proofs.Common.{not, ap, ◌∙◌}
use Rattle.conn_uri.proofs.SeedLemmas.{HasSeen-insert}
use Rattle.conn_uri.proofs.seeds.is_new.Goals as goal

pub returns-in-Ok-clause-new : goal.returns-in-Ok-clause-new
returns-in-Ok-clause-new c kept has = c.in-Ok.ensures.added ∙ ap not (has.same c.args.host)

pub returns-in-Ok-clause-seen : goal.returns-in-Ok-clause-seen
returns-in-Ok-clause-seen c kept has = HasSeen-insert _ _ kept c.args.host c.in-Ok.new c.in-Ok.ensures.updates.0 c.in-Ok.ensures.unchanged has
