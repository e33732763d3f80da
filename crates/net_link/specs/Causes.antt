-- Counts of faults, and what a failure shows of them.
use Rattle.std.specs.Prelude.{ℕ, ◌+◌, ◌-◌, ◌^◌, ◌<◌, ◌≤◌, min}
use Rattle.std.proofs.Common.{arith}

-- The count behind one more event: it stands still at the greatest u64.
-- own: counts are u64 and saturate, so that counting can't fail.
abbrev pub next_count : ℕ → ℕ
next_count n = min (n + 1) (2 ^ 64 - 1)

-- A number as a count holds it.
-- own: what an implementation counts in a u64 is one; the laws of counts speak of any number.
abbrev pub count_of : ℕ → ℕ
count_of n = min n (2 ^ 64 - 1)

-- A count is below 2^64.
pub count_of-below : (n : ℕ) → count_of n < 2 ^ 64
count_of-below n = omega arith

-- A count rose, or stands at the greatest u64.
-- own: the one evidence of a failure that every implementation can give.
abbrev pub Rose : ℕ → ℕ → Type 0
Rose before now = next_count before ≤ now

-- A count of faults never falls, and it rose where the call failed.
pub record HasCause (before now : ℕ) (failed : Type 0) : Type 0 where
  pub later : before ≤ now
  pub rose : failed → Rose before now
