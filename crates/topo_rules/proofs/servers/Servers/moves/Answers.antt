use Rattle.std.proofs.Common.{sym, ap, subst, ◌∙◌}
use Rattle.std.specs.Arc.{arc_value}
use Rattle.std.specs.FinMap as map
use Rattle.topo_rules.specs.Changes.{hosts_beyond, plain}
use Rattle.topo_rules.specs.Outcomes.{PutsAt, edited}
use Rattle.topo_rules.proofs.MoveLemmas.{none_added, none_removed, standing}
use Rattle.topo_rules.proofs.servers.Servers.moves.Goals as goal

pub returns-in-Put : goal.returns-in-Put
returns-in-Put c =
    let m = c.args.self.now in
    let h = c.args.host.now in
    let d = arc_value c.in-Put.description in
    let host = subst (PutsAt h) c.in-Put.is c.requires.puts in
    let path = ap (λ k. map.insert m k d) (sym host) ∙ ap (edited m) (sym c.in-Put.is) in
    let same_path = ap (map.insert m h) c.deref.ensures ∙ path in
    let stood = standing (map.get m h) c.requires.stands in
    record {
      added = c.new.ensures.empty ∙ sym (none_added m h d stood.0 stood.1) ∙ ap (λ n. hosts_beyond n m) path;
      removed = c.new-in-Put.ensures.empty ∙ sym (none_removed m h d stood.0 stood.1) ∙ ap (λ n. hosts_beyond m n) path;
      same = (λ t. c.keeps.ensures.0 t ∙ ap plain same_path, λ e. c.keeps.ensures.1 (e ∙ ap plain (sym same_path)));
    }
