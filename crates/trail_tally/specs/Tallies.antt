-- What a trail says of each command: how many of its attempts ended, and how it was answered.
use Rattle.std.specs.Prelude.{◌≡◌, ◌≢◌, ◌^◌, ◌-◌, ℕ, ◌+◌, ◌==◌, Bool, false, List, [], ◌∷◌, Option, None, Some, count_by, length, min, slice_get, if◌then◌else◌, IsSome}
use Rattle.std.specs.Option.{option_map}
use Rattle.cmd_build.specs.declared.command.Command.{Command}
use Rattle.write_retry.specs.declared.outcome.Outcome.{Outcome}
use Rattle.desk_trail.specs.declared.entry.Entry.{Entry}
use Rattle.desk_trail.specs.declared.entry.Entry.TheVariants as entry
use Rattle.desk_trail.specs.declared.step.Step.{Step}
use Rattle.trail_tally.specs.declared.tally.Tally.{Tally}

-- An attempt of a command ended there (Retryable Writes, Executing Retryable Write Commands).
abbrev pub ends : ℕ → Entry → Bool
ends op (entry.Ended k end) = k == op
ends op e = false

-- How many of its attempts ended.
abbrev pub attempts_of : ℕ → List Step → ℕ
attempts_of op steps = count_by (λ (s : Step). ends op s.entry) steps

-- A command's answer, where it is given there.
abbrev pub answer_in : ℕ → Entry → Option Outcome
answer_in op (entry.Finished k outcome) = if k == op then Some outcome else None
answer_in op e = None

-- The first of two that is there.
abbrev pub first_of : Option Outcome → Option Outcome → Option Outcome
first_of None later = later
first_of (Some o) later = Some o

-- How a command was answered; none where it was not.
abbrev pub answer_of : ℕ → List Step → Option Outcome
answer_of op [] = None
answer_of op (s ∷ ss) = first_of (answer_in op s.entry) (answer_of op ss)

abbrev pub tally_of : ℕ → List Step → Tally
tally_of op steps = record { attempts = attempts_of op steps; answer = answer_of op steps }

-- What the entries say of each of the commands, which have numbers from that one on.
abbrev pub tallies_from : ℕ → List Command → List Step → List Tally
tallies_from op [] steps = []
tallies_from op (c ∷ cs) steps = tally_of op steps ∷ tallies_from (op + 1) cs steps

abbrev pub tallies_of : List Command → List Step → List Tally
tallies_of commands steps = tallies_from 0 commands steps

-- Each of the commands was answered.
abbrev pub AreAnswered : List Command → List Step → Type 0
AreAnswered commands steps = (op : ℕ) (c : Command) → slice_get commands op ≡ Some c → IsSome (answer_of op steps)

-- A tally is what the entries say of a command, with no more attempts than a u64 holds.
pub record IsTally (op : ℕ) (steps : List Step) (t : Tally) : Type 0 where
  pub answer : t.answer ≡ answer_of op steps
  pub attempts : t.attempts ≡ min (attempts_of op steps) (2 ^ 64 - 1)

-- Tallies are what the entries say of the commands with their numbers.
abbrev pub AreTallies : List Step → List Tally → Type 0
AreTallies steps ts = (op : ℕ) (t : Tally) → slice_get ts op ≡ Some t → IsTally op steps t

-- ---- What only private functions cite

-- One more attempt ended.
abbrev pub with_end : Tally → Tally
with_end t = record t { attempts = min (t.attempts + 1) (2 ^ 64 - 1) }

-- It is answered so, unless it was before.
abbrev pub with_answer : Outcome → Tally → Tally
with_answer o t = record t { answer = first_of t.answer (Some o) }

-- The tally at a place changes so, and no other.
pub record Changes (op : ℕ) (g : Tally → Tally) (old new : List Tally) : Type 0 where
  pub there : slice_get new op ≡ option_map g (slice_get old op)
  pub others : (k : ℕ) → k ≢ op → slice_get new k ≡ slice_get old k
  pub count : length new ≡ length old
