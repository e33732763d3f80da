use Rattle.std.proofs.Common.{sym, subst}
use Rattle.std.specs.List.{IsDistinct}
use Rattle.host_name.specs.Addresses.{is_same_address}
use Rattle.conn_uri.proofs.SeedLemmas.{kept_once-distinct}
use Rattle.conn_uri.proofs.seeds.distinct.Goals as goal

pub returns-clause-seeds : goal.returns-clause-seeds
returns-clause-seeds c some most = record {
  some = some;
  most = most;
  differ = subst (IsDistinct is_same_address) (sym c.in_ok-kept.ensures) (kept_once-distinct c.args.hosts.now);
}
