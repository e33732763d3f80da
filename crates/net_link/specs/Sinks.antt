-- What a write to a sink says of the bytes written.
-- own: as std's Write, with a failure that its object counts.
use Rattle.std.specs.Prelude.{◌≡◌, ℕ, ◌<◌, ◌≤◌, List, ◌++◌, length, take}
use Rattle.net_link.specs.Failing.{Failing, counted, failed}
use Rattle.net_link.specs.declared.sink.SinkTook.{SinkTook}
use Rattle.net_link.specs.declared.sink.SinkTook.TheVariants as took

-- A write takes from one byte to the whole piece.
abbrev pub TookWithin : List ℕ → SinkTook → Type 0
TookWithin bytes (took.Took n) = (0 < n) × (n ≤ length bytes)
TookWithin bytes took.Failed = Unit {0}

-- A write appends what it took, and a failure keeps what was written.
abbrev pub TakesTo : List ℕ → List ℕ → List ℕ → SinkTook → Type 0
TakesTo old new bytes (took.Took n) = new ≡ old ++ take n bytes
TakesTo old new bytes took.Failed = new ≡ old

-- What a sink in memory has taken, for how many bytes it was made, and its counts.
pub record Sized : Type 0 where
  pub written : List ℕ
  pub size : ℕ
  pub failing : Failing

-- The counts behind a write.
abbrev pub sink_counts : SinkTook → Failing → Failing
sink_counts took.Failed f = failed f
sink_counts _ f = counted f

-- The fact for how much a write took.
abbrev pub IfTook : SinkTook → (ℕ → Type 0) → Type 0
IfTook (took.Took n) P = P n
IfTook took.Failed P = Unit {0}
