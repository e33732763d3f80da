-- What a selection comes to.
use Rattle.std.specs.Prelude.{ℕ, List, Option, None, Some, unwrap_or}
use Rattle.host_name.specs.Addresses.{Address}
use Rattle.hello_reply.specs.declared.server_description.ServerDescription.{ServerDescription}
use Rattle.topo_rules.specs.Maps.{ServerMap, kept_mean}
use Rattle.topo_rules.specs.Readings.{misfit_of}
use Rattle.server_pick.specs.Windows.{window, choice}
use Rattle.server_pick.specs.declared.picked.Picked.{Picked}
use Rattle.server_pick.specs.declared.picked.Picked.TheVariants.{Chosen, NoneFits, Incompatible}

-- The mean that counts of a host: the one that the topology keeps, 0 where it keeps none (own).
abbrev pub mean_of : ServerMap → Address → ℕ
mean_of m host = unwrap_or (kept_mean m host) 0

-- The host that is chosen of those kept: the choice of two in the latency window.
abbrev pub chosen_of : ServerMap → ℕ → List Address → (Address → ℕ) → ℕ → ℕ → Option Address
chosen_of m threshold kept load w1 w2 = choice load w1 w2 (window (mean_of m) threshold kept)

-- A misfit comes before everything else; then none fits where none is chosen.
abbrev pub told : Option ServerDescription → Option Address → Picked
told (Some d) chosen = Incompatible d.host d.min_wire d.max_wire
told None None = NoneFits
told None (Some host) = Chosen host

-- What the selection comes to, of the hosts that were kept.
abbrev pub picks : ServerMap → ℕ → List Address → (Address → ℕ) → ℕ → ℕ → Picked
picks m threshold kept load w1 w2 = told (misfit_of m) (chosen_of m threshold kept load w1 w2)
