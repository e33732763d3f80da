-- Calls that are to fail, by their numbers, and the counts of calls and faults.
-- own: the one way in which what stands in memory fails.
use Rattle.std.specs.Prelude.{ℕ, List, ◌==◌, IsTrue}
use Rattle.std.specs.List.{list_any}
use Rattle.net_link.specs.Causes.{next_count}

-- The numbers of the calls that fail, from 1, and how many calls and faults there were.
pub record Failing : Type 0 where
  pub fails : List ℕ
  pub calls : ℕ
  pub faults : ℕ

-- Before the first call.
abbrev pub unused : List ℕ → Failing
unused fails = record { fails = fails; calls = 0; faults = 0 }

-- The next call's number is listed.
abbrev pub IsDue : Failing → Type 0
IsDue f = IsTrue (list_any (λ n. n == next_count f.calls) f.fails)

-- With one more call.
abbrev pub counted : Failing → Failing
counted f = record f { calls = next_count f.calls }

-- With one more call, which failed.
abbrev pub failed : Failing → Failing
failed f = record f { calls = next_count f.calls; faults = next_count f.faults }
