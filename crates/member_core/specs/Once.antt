-- How often a write stands in a log: at most once at every moment, and once from its plain answer on.
-- own: the law that retries of writes rest on (Retryable Writes: at most once).
use Rattle.std.specs.Prelude.{◌≡◌, ◌≤◌, ℕ, List, ◌++◌}
use Rattle.net_link.specs.declared.event.NetEvent.{NetEvent}
use Rattle.member_core.specs.Honest.{WasPlain}
use Rattle.member_core.specs.Logs.{key_at, times, set_after}
use Rattle.member_core.specs.declared.key.Key.{Key}

-- In each log each key stands at most once, at the end and at every moment before.
abbrev pub AtMostOnce : List NetEvent → Type 0
AtMostOnce history = (before after : List NetEvent) (member : ℕ) (key : Key) → history ≡ before ++ after → times key ((set_after before).log member) ≤ 1

-- The key of a write that was handled plainly stands in the last elected member's log, once, at every moment from then on.
abbrev pub Keeps : List NetEvent → Type 0
Keeps history = (before after : List NetEvent) (stream nth : ℕ) → history ≡ before ++ after → WasPlain before stream nth
    → times (key_at (set_after before) stream nth) ((set_after before).log ((set_after before).last)) ≡ 1
