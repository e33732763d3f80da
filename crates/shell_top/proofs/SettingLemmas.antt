-- The hosts of a soak.
use Rattle.std.proofs.Common.{◌≡◌, ◌≤◌, List, length, arith, refl, sym, subst, decimal}
use Rattle.std.proofs.lemmas.Fmt.{length-decimal-le}
use Rattle.std.specs.List.{IsDistinct}
use Rattle.conn_uri.specs.Configurations.{AreSeeds}
use Rattle.host_name.specs.Addresses.{Address, is_same_address}
use Rattle.member_core.specs.Sizes.{IsWithin}
use Rattle.shell_top.specs.Soak.{soak_hosts, soak_set}

differ : IsDistinct is_same_address soak_hosts
unfolding IsDistinct
differ = ((refl, (refl, tt)), ((refl, tt), (tt, tt)))

-- They are three that differ.
pub are-seeds : (hosts : List Address) → hosts ≡ soak_hosts → AreSeeds hosts
are-seeds hosts are = subst AreSeeds (sym are) (record { some = omega arith; most = omega arith; differ = differ })

-- They are within the bound of a set.
pub are-within : (hosts : List Address) → hosts ≡ soak_hosts → IsWithin soak_set hosts
are-within hosts are = subst (IsWithin soak_set) (sym are)
    (let port : length (decimal 27017) ≤ 5 = length-decimal-le 5 27017 (omega arith) (omega arith) (omega arith) in omega arith)
