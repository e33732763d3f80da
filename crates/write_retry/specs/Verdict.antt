-- What the attempts of a command come to (Retryable Writes; CRUD, errors).
use Rattle.std.specs.Prelude.{ℕ, ℤ, Bool, true, false, ◌&&◌, is_some, List, [], ◌∷◌, Option, None, Some, if◌then◌else◌}
use Rattle.cmd_outcome.specs.Codes.{state_change_of}
use Rattle.write_retry.specs.declared.attempt_end.AttemptEnd.{AttemptEnd}
use Rattle.write_retry.specs.declared.attempt_end.AttemptEnd.TheVariants as attempt
use Rattle.write_retry.specs.declared.events.Unsent.{Unsent}
use Rattle.write_retry.specs.declared.events.Unsent.TheVariants as unsent
use Rattle.write_retry.specs.Outcomes.{said_by}
use Rattle.write_retry.specs.declared.outcome.Outcome.{Outcome}
use Rattle.write_retry.specs.declared.outcome.Outcome.TheVariants as outcome

-- What a request says that was not sent: a failed dial is a network error, a refused greeting its error.
abbrev pub said_unsent : Unsent → Outcome
said_unsent unsent.PoolLate = outcome.PoolTimeout
said_unsent (unsent.PoolCleared generation) = outcome.PoolCleared generation
said_unsent (unsent.PoolClosed host) = outcome.PoolClosed host
said_unsent (unsent.Dial bad) = outcome.Network
said_unsent (unsent.Greeting code) = outcome.Error code
said_unsent (unsent.TooLarge size most) = outcome.TooLarge size most

-- What an attempt says.
abbrev pub said : AttemptEnd → Outcome
said (attempt.Replied reading) = said_by reading.result
said attempt.Cut = outcome.Network
said attempt.Fault = outcome.Network
said attempt.TimedOut = outcome.Late
said (attempt.Bad at) = outcome.BadReply at
said (attempt.Unsent u) = said_unsent u

-- A request that was not sent may be sent again where its pool was cleared or no connection could be made (Retryable Writes,
-- Determining Retryable Errors: network errors and PoolClearedError), or where the greeting was refused by a state change error
-- (own).
abbrev pub is_unsent_again : Unsent → Bool
is_unsent_again unsent.PoolLate = false
is_unsent_again (unsent.PoolCleared generation) = true
is_unsent_again (unsent.PoolClosed host) = false
is_unsent_again (unsent.Dial bad) = true
is_unsent_again (unsent.Greeting code) = is_some (state_change_of code)
is_unsent_again (unsent.TooLarge size most) = false

-- An attempt may be repeated behind a network error, a timeout among them, and behind a reply with the label
-- RetryableWriteError (Retryable Writes, Determining Retryable Errors).
abbrev pub is_again : AttemptEnd → Bool
is_again (attempt.Replied reading) = reading.retryable
is_again attempt.Cut = true
is_again attempt.Fault = true
is_again attempt.TimedOut = true
is_again (attempt.Bad at) = false
is_again (attempt.Unsent u) = is_unsent_again u

-- It is repeated only where the command drew a transaction number (Retryable Writes, Executing Retryable Write Commands).
abbrev pub again : Bool → AttemptEnd → Bool
again drew end = drew && is_again end

-- The end of a second attempt says less than the first one's: its reply has the label NoWritesPerformed (Retryable Writes,
-- NoWritesPerformed), or it was never sent (own).
abbrev pub is_lesser : AttemptEnd → Bool
is_lesser (attempt.Replied reading) = reading.no_writes
is_lesser (attempt.Unsent u) = true
is_lesser attempt.Cut = false
is_lesser attempt.Fault = false
is_lesser attempt.TimedOut = false
is_lesser (attempt.Bad at) = false

-- How the looks for a server went: each chose one for an attempt, or the last one began none.
pub data LastLook : Type 0 where
  Chose : LastLook
  NoServer : LastLook
  Incompatible : (host : ℕ) (min max : ℤ) → LastLook
  Unnumbered : LastLook  -- a second server at which no number is drawn

-- One attempt, of which is known whether it may be repeated, comes to what it says: where it may not, at once; where it may,
-- once no second server was found (Retryable Writes, Executing Retryable Write Commands: the original error is raised).
abbrev pub verdict_of_one : Bool → AttemptEnd → LastLook → Option Outcome
verdict_of_one false first Chose = Some (said first)
verdict_of_one true first NoServer = Some (said first)
verdict_of_one true first (Incompatible host min max) = Some (said first)
verdict_of_one true first Unnumbered = Some (said first)
verdict_of_one may first look = None

-- Two attempts, of which is known whether the first one may be repeated and whether the second one says less, come to what the
-- second one says, unless it says less.
abbrev pub verdict_of_two : Bool → Bool → AttemptEnd → AttemptEnd → LastLook → Option Outcome
verdict_of_two true true first second Chose = Some (said first)
verdict_of_two true false first second Chose = Some (said second)
verdict_of_two may lesser first second look = None

-- What a command comes to by its attempts, in order: no attempt is what the last look says. Every other list has no verdict:
-- the command is not answered, or does not go so.
abbrev pub verdict : Bool → List AttemptEnd → LastLook → Option Outcome
verdict drew [] NoServer = Some outcome.NoServer
verdict drew [] (Incompatible host min max) = Some (outcome.Incompatible host min max)
verdict drew (first ∷ []) look = verdict_of_one (again drew first) first look
verdict drew (first ∷ second ∷ []) look = verdict_of_two (again drew first) (is_lesser second) first second look
verdict drew attempts look = None

-- A further server may be selected: behind no attempt, and behind one that may be repeated.
abbrev pub more : Bool → List AttemptEnd → Bool
more drew [] = true
more drew (first ∷ []) = again drew first
more drew attempts = false

-- What two attempts come to, of which the first may be repeated.
abbrev pub given : AttemptEnd → AttemptEnd → Outcome
given first second = if is_lesser second then said first else said second
