-- What two logs share at the front.
-- own: so that an election and a following cost no more than what is new in them.
use Rattle.std.specs.Prelude.{◌≡◌, ◌≤◌, ℕ, List, length, take}
use Rattle.member_core.specs.Members.{Kept}

-- So many entries at the front of both logs are the same, with their marks.
pub record IsShared (n : ℕ) (log other : List Kept) : Type 0 where
  pub same : take n log ≡ take n other
  pub within : n ≤ length log
  pub within_other : n ≤ length other
