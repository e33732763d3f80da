use Rattle.std.proofs.Common.{[], ◌∷◌, ◌++◌, ap, sym, ◌∙◌, subst}
use Rattle.conn_uri.specs.Configurations.{AreSeeds}
use Rattle.trail_tests.proofs.StartLemmas.{AreSeeds-one}
use Rattle.trail_tests.proofs.seeds.one_seed.Goals as goal

pub plain-requires : goal.plain-requires
plain-requires c =
    let one = c.hosts-2.view_is ∙ c.in_ok-push.ensures.ok ∙ ap (λ xs. xs ++ c.in_ok-copy.field-0 ∷ []) c.new-hosts.ensures.empty in
    subst AreSeeds (sym one) (AreSeeds-one c.in_ok-copy.field-0)
