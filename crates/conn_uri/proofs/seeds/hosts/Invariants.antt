use Rattle.std.proofs.Common.{◌≡◌, not, drop}
use Rattle.std.specs.Prelude.{filter}
use Rattle.conn_uri.proofs.EachLemmas.{joined}
use Rattle.conn_uri.specs.Each.{read_each}
use Rattle.conn_uri.specs.Seeds.{host_in, is_path}
use Rattle.conn_uri.proofs.seeds.hosts.Given as goal

abbrev pub invariant-loop-text : goal.invariant-loop-text
invariant-loop-text l =
    joined l.hosts (read_each host_in (filter (λ t. not (is_path t)) (drop l.text-index l.texts))) ≡ read_each host_in (filter (λ t. not (is_path t)) l.texts)
