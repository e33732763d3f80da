-- What the end of an attempt leaves of a command (own).
use Rattle.std.specs.Prelude.{Option, None, Some, IsSome, is_some}
use Rattle.std.proofs.Common.{◌≡◌, refl, ap}
use Rattle.write_retry.specs.Machine.{Op, after, ended, ended_by}
use Rattle.write_retry.specs.Verdict.{given}
use Rattle.write_retry.specs.declared.attempt_end.AttemptEnd.{AttemptEnd}
use Rattle.write_retry.specs.declared.attempt_end.AttemptEnd.TheVariants as attempt
use Rattle.write_retry.specs.declared.events.Next.TheVariants as next
use Rattle.write_retry.specs.declared.outcome.Outcome.{Outcome}
use Rattle.desk_trail.specs.Attempts.{end_event}

-- What the end tells a command is that its attempt ended so.
pub after-end : (c : Op) (end : AttemptEnd) → after c (end_event end) ≡ ended end c
after-end c (attempt.Replied reading) = refl
after-end c attempt.Cut = refl
after-end c attempt.Fault = refl
after-end c attempt.TimedOut = refl
after-end c (attempt.Bad at) = refl
after-end c (attempt.Unsent u) = refl

-- Behind it a first attempt has ended.
first-by : (c : Op) (end : AttemptEnd) (first : Option AttemptEnd) → c.first ≡ first → IsSome (ended_by end first c).first
first-by c end None e = refl
first-by c end (Some first) e = ap (λ (o : Option AttemptEnd). is_some o) e

pub first-ended : (c : Op) (end : AttemptEnd) → IsSome (ended end c).first
first-ended c end = first-by c end c.first refl

-- Behind a second one the command is answered.
answer-by : (c : Op) (end : AttemptEnd) (first : Option AttemptEnd) → IsSome first →
    (outcome : Outcome) × ((ended_by end first c).next ≡ next.Answer outcome)
answer-by c end None some = absurd cc
answer-by c end (Some first) some = (given first end, refl)

pub second-answers : (c : Op) (end : AttemptEnd) → IsSome c.first → (outcome : Outcome) × ((ended end c).next ≡ next.Answer outcome)
second-answers c end some = answer-by c end c.first some
