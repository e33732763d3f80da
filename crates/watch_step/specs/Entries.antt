-- What happens to the checks of one server: when each entry may stand, and what the checks are behind it (Server Monitoring).
use Rattle.std.specs.Prelude.{◌≡◌, ℕ, Bool, [], None, Some, IsSome}
use Rattle.entry_judge.specs.Groups.{Judge}
use Rattle.watch_step.specs.Checks.{Checks, next_check, asked_check}

-- The entries of a server's checks.
pub data CheckEntry : Type 0 where
  Began : CheckEntry  -- a check begins
  Ended : (again : Bool) → CheckEntry  -- the check that runs ends; whether the next is due at once
  Asked : CheckEntry  -- somebody waits for the server

-- When an entry may stand: one check runs at a time; a check may be asked for at any time.
abbrev pub MayStand : Checks → ℕ → CheckEntry → Type 0
MayStand s moment Began = s.began ≡ None
MayStand s moment (Ended again) = IsSome s.began
MayStand s moment Asked = Unit {0}

-- The checks behind an entry.
abbrev pub after : Checks → ℕ → CheckEntry → Checks
after s moment Began = record s { began = Some moment }
after s moment (Ended again) = record s { due = next_check again s.beat moment; began = None; ended = Some moment }
after s moment Asked = record s { due = asked_check s.began s.ended s.due moment }

-- The judge of a server's checks: no entry owes another.
abbrev pub checks_judge : Judge Checks CheckEntry
checks_judge = record { may_stand = MayStand; after = after; owes = λ s moment e. [] }
