use Rattle.std.proofs.Common.{◌≡◌, refl, ap, ◌∙◌}
use Rattle.end_sessions.proofs.HostLemmas.{AreReadable-kept}
use Rattle.end_sessions.proofs.hosts.readable_hosts.Goals as goal

pub returns : goal.returns
returns c = record {
  hosts = AreReadable-kept _ _ (λ s x. refl) c.args.topology.now _ _ _ _ c.pick_by-picked.new.kept
      (ap (λ r. r.mode) c.in-Ok.ensures.made, ap (λ r. r.tag_sets) c.in-Ok.ensures.made ∙ c.new.ensures.empty) refl
      (c.pick_by-picked.ensures.run c.in_default-picked.not-Memory);
}
