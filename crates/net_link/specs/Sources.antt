-- What a read from a source says of the bytes that are left.
-- own: as std's Read, with a failure that its object counts.
use Rattle.std.specs.Prelude.{◌≡◌, ℕ, ◌<◌, ◌≤◌, List, [], ◌++◌, length, take}
use Rattle.net_link.specs.Failing.{Failing, counted, failed}
use Rattle.net_link.specs.declared.source.SourceCame.{SourceCame}
use Rattle.net_link.specs.declared.source.SourceCame.TheVariants as came

-- A read gives from one byte to the whole piece.
abbrev pub GivesWithin : List ℕ → SourceCame → Type 0
GivesWithin into (came.Got n) = (0 < n) × (n ≤ length into)
GivesWithin into _ = Unit {0}

-- A read takes from the front of what is left. It ends only where nothing is left, and a failure keeps what is left.
abbrev pub Gives : List ℕ → List ℕ → List ℕ → SourceCame → Type 0
Gives old new into (came.Got n) = old ≡ take n into ++ new
Gives old new into came.End = (old ≡ []) × (new ≡ [])
Gives old new into came.Failed = new ≡ old

-- What is left of a source in memory, and its counts.
pub record Slice : Type 0 where
  pub left : List ℕ
  pub failing : Failing

-- The counts behind a read.
abbrev pub source_counts : SourceCame → Failing → Failing
source_counts came.Failed f = failed f
source_counts _ f = counted f

-- The fact for how much a read gave.
abbrev pub IfGot : SourceCame → (ℕ → Type 0) → Type 0
IfGot (came.Got n) P = P n
IfGot _ P = Unit {0}
