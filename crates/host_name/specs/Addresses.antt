-- What a host is, and how two of them compare.
use Rattle.std.specs.Prelude.{◌≡◌, ◌≤◌, ◌<◌, ℕ, Bool, true, List, ◌∷◌, ◌++◌, ◌&&◌, nat_eq, IsTrue, length}
use Rattle.std.specs.Fmt.{decimal}
use Rattle.std.specs.Str.{str_to_ascii_lowercase}
use Rattle.std.specs.declared.cmp.Ordering.{Ordering}
use Rattle.std.specs.Ordering.{nat_cmp, on, then_cmp, eq_of_both}
use Rattle.std.specs.Cmp.{first_so, second_so}
use Rattle.std.specs.Cmp.Lexicographic.{pointwise, slice_cmp, bytes_decides}
use Rattle.std.specs.Hash as fed
use Rattle.std.specs.Hash.{HashWrites}
use Rattle.std.proofs.Common.{ap, eq-eqb}
use Rattle.std.proofs.lemmas.Bool.{eqb-true}

-- The name and the port of a server (SDAM, ServerDescription: address).
pub record Address : Type 0 where
  pub name : List ℕ
  pub port : ℕ

-- What every host keeps: its name is not empty and has no letter from A to Z, and its port is at least 1 (Connection String,
-- Host Information; SDAM: addresses are compared in lower case).
pub record IsHost (a : Address) : Type 0 where
  pub named : 0 < length a.name
  pub lower_case : str_to_ascii_lowercase a.name ≡ a.name
  pub has_port : 1 ≤ a.port

-- A host as it is displayed and dialled: the name, a colon and the port in decimal digits (Connection String, Host
-- Information).
abbrev pub address_text : Address → List ℕ
address_text a = a.name ++ 58 ∷ decimal a.port

-- Two hosts are equal where both name and port are (SDAM: addresses are compared in lower case, which names are in).
abbrev pub is_same_address : Address → Address → Bool
is_same_address = eq_of_both (on (λ (a : Address). a.name) (pointwise nat_eq)) (on (λ (a : Address). a.port) nat_eq)

-- Hosts stand in the order of the bytes of their names, and then of their ports (own: the standard has no order).
abbrev pub address_cmp : Address → Address → Ordering
address_cmp = then_cmp (on (λ (a : Address). a.name) (slice_cmp nat_cmp)) (on (λ (a : Address). a.port) nat_cmp)

-- Equal is the same: the test tells whether two hosts are one address.
pub is_same_address-true : (a b : Address) → is_same_address a b ≡ true → a ≡ b
is_same_address-true a b e =
    let names = (bytes_decides a.name b.name).0 (first_so (pointwise nat_eq a.name b.name) (nat_eq a.port b.port) e) in
    let ports = eqb-true a.port b.port (second_so (pointwise nat_eq a.name b.name) (nat_eq a.port b.port) e) in
    λ i. record { name = names i; port = ports i }

pub is_same_address-same : (a b : Address) → a ≡ b → is_same_address a b ≡ true
is_same_address-same a b e =
    let names = (bytes_decides a.name b.name).1 (ap (λ (c : Address). c.name) e) in
    let ports = eq-eqb a.port b.port (ap (λ (c : Address). c.port) e) in
    λ i. names i && ports i

-- What a host feeds to a hash: its name and then its port (own).
abbrev pub address_writes : Address → HashWrites
address_writes a = fed.str a.name ++ fed.u16 a.port

-- Equal hosts feed the same.
pub address_writes-same : (a b : Address) → IsTrue (is_same_address a b) → address_writes a ≡ address_writes b
address_writes-same a b e = ap address_writes (is_same_address-true a b e)
