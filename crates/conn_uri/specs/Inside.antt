-- What private functions alone cite (own).
use denote.Ref.{Bor}
use Rattle.std.specs.Prelude.{◌≡◌, ◌≤◌, List}
use Rattle.std.specs.BTreeSet.{BTreeSet, contains}
use Rattle.std.specs.List.{list_any}
use Rattle.host_name.specs.Addresses.{Address, is_same_address, address_cmp}
use Rattle.conn_uri.specs.Configurations.{MOST}
use Rattle.conn_uri.specs.Grammar.{Part}
use Rattle.conn_uri.specs.declared.chosen.Chosen.{Chosen}
use Rattle.conn_uri.specs.declared.piece.Piece.{Piece}

-- The part that a piece is.
abbrev pub part_of : Piece → Part
part_of p = record { at = p.at; text = p.text.now }

-- The set has exactly those hosts that were kept.
pub record HasSeen (seen : BTreeSet (Bor Address)) (kept : List Address) : Type 0 where
  pub same : (q : Bor Address) → contains (λ x y. address_cmp x.now y.now) seen q ≡ list_any (is_same_address q.now) kept

-- What was chosen lies within the bounds of a configuration.
abbrev pub IsWithin : Chosen → Type 0
IsWithin c =
    (c.connect_ms ≤ MOST) × (c.socket_ms ≤ MOST) × ((1 ≤ c.select_ms) × (c.select_ms ≤ MOST)) × ((500 ≤ c.beat_ms) × (c.beat_ms ≤ MOST))
    × (c.threshold_ms ≤ MOST) × ((1 ≤ c.wait_ms) × (c.wait_ms ≤ MOST)) × (c.idle_ms ≤ MOST) × (1 ≤ c.max_pool) × (1 ≤ c.max_connecting)
