-- The checks of one server (Server Monitoring). Moments are microseconds.
use Rattle.std.specs.Prelude.{ℕ, ◌+◌, ◌^◌, ◌≤◌, max, min, Bool, true, false, Option, None, Some}

-- The interval of checks; the moment at which a check is due; when the check that runs began; and when the last one ended.
pub record Checks : Type 0 where
  pub beat : ℕ
  pub due : ℕ
  pub began : Option ℕ
  pub ended : Option ℕ

-- A moment that is there is at most the greatest one (own: so that no sum of moments passes a u64).
abbrev pub IsInRange : Option ℕ → Type 0
IsInRange None = Unit {0}
IsInRange (Some moment) = moment ≤ 2 ^ 62

-- A server's first check is due at once (Server Monitoring, servers are monitored as soon as they are discovered).
abbrev pub first_check : ℕ → ℕ → Checks
first_check beat moment = record { beat = beat; due = moment; began = None; ended = None }

-- The next check is due at once, or an interval behind the last one's end (Server Monitoring, heartbeatFrequencyMS).
abbrev pub next_check : Bool → ℕ → ℕ → ℕ
next_check true beat ended = ended
next_check false beat ended = ended + beat

-- Half a second (Server Monitoring, minHeartbeatFrequencyMS: 500 milliseconds).
abbrev pub HALF_SECOND : ℕ
HALF_SECOND = 500000

-- The soonest moment for a check that is asked for: at once, but half a second behind the last one's end (Server Monitoring,
-- requestCheck and minHeartbeatFrequencyMS).
abbrev pub soonest_check : Option ℕ → ℕ → ℕ
soonest_check None moment = moment
soonest_check (Some ended) moment = max moment (ended + HALF_SECOND)

-- When a check is due that is asked for: no later than it was due. One that runs is asked for already.
abbrev pub asked_check : Option ℕ → Option ℕ → ℕ → ℕ → ℕ
asked_check None ended due moment = min due (soonest_check ended moment)
asked_check (Some began) ended due moment = due
