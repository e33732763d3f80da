-- The topology that events make of an opening, and what becomes of events that are offered one after another.
use Rattle.std.specs.Prelude.{◌≡◌, ◌≤◌, ℕ, if◌then◌else◌, List, [], ◌∷◌, fold}
use Rattle.topo_rules.specs.declared.event.TopoEvent.{TopoEvent}
use Rattle.topo_rules.specs.declared.topology.Topology.{Topology}
use Rattle.topo_rules.specs.Rules.{after}
use Rattle.topo_book.specs.declared.verdict.Verdict.{Verdict}
use Rattle.topo_book.specs.Fresh.{taken, is_accepted_verdict}

-- What contracts see of a book: the topology that it opened with, the events that it accepted, in order, the topology that
-- they made, and how many further events have room (own).
pub record Book : Type 0 where
  pub opening : Topology
  pub topology : Topology
  pub accepted : List TopoEvent
  pub room : ℕ

-- The book is as it was; it may have more room.
pub record IsKept (old new : Book) : Type 0 where
  pub opening : new.opening ≡ old.opening
  pub topology : new.topology ≡ old.topology
  pub accepted : new.accepted ≡ old.accepted
  pub room : old.room ≤ new.room

-- What the events make of the opening, in order.
abbrev pub folded : Topology → List TopoEvent → Topology
folded opening events = fold after opening events

-- The topology behind an offer, of an event and the generation of its host's pool.
abbrev pub behind : Topology → TopoEvent → ℕ → Topology
behind topology event pool = if is_accepted_verdict (taken topology.servers event pool) then after topology event else topology

-- The answers to offers, each to the topology that the accepted ones ahead of it make of the opening.
abbrev pub answers : Topology → List (TopoEvent × ℕ) → List Verdict
answers topology [] = []
answers topology (offer ∷ offers) = taken topology.servers offer.0 offer.1 ∷ answers (behind topology offer.0 offer.1) offers

-- The events of the offers whose answer is that they are accepted.
abbrev pub accepted : Topology → List (TopoEvent × ℕ) → List TopoEvent
accepted topology [] = []
accepted topology (offer ∷ offers) =
    if is_accepted_verdict (taken topology.servers offer.0 offer.1)
    then offer.0 ∷ accepted (behind topology offer.0 offer.1) offers
    else accepted (behind topology offer.0 offer.1) offers
