-- Members that stand as a history says.
-- own: what ties members in memory to the logs of the history that they tell.
use Rattle.std.specs.Prelude.{◌≡◌, ◌==◌, ℕ, List, Option, Some, None, if◌then◌else◌}
use Rattle.member_core.specs.Logs.{SetState}
use Rattle.member_core.specs.Members.{Kept, MemberState, entries, is_acked, takes_writes}
use Rattle.member_core.specs.declared.key.Key.{Key}

-- The logs are those of the history, the same members take writes, and the last elected one knows which keys are acknowledged.
-- Nothing is asked of what the others know of that.
pub record StandAs (members : ℕ → MemberState) (w : SetState) : Type 0 where
  pub log : (m : ℕ) → w.log m ≡ entries (members m).log
  pub takes : (m : ℕ) → w.takes m ≡ takes_writes (members m)
  pub acked : (key : Key) → w.acked key ≡ is_acked (members w.last).log key

-- The log that an election of m copies from: the last elected member's, none where that is m itself.
abbrev pub last_log : (ℕ → MemberState) → SetState → ℕ → Option (List Kept)
last_log members w m = if w.last == m then None else Some (members w.last).log
