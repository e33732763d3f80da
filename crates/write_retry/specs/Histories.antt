-- What is read off the events of a command (Retryable Writes).
use Rattle.std.specs.Prelude.{◌≡◌, ℕ, ◌+◌, Bool, true, false, List, [], ◌∷◌, Option, None, Some, filter_map}
use Rattle.entry_judge.specs.Judge.{Legal, state_after}
use Rattle.write_retry.specs.declared.attempt_end.AttemptEnd.{AttemptEnd}
use Rattle.write_retry.specs.declared.attempt_end.AttemptEnd.TheVariants as attempt
use Rattle.write_retry.specs.declared.events.OpEvent.{OpEvent}
use Rattle.write_retry.specs.declared.events.OpEvent.TheVariants as event
use Rattle.write_retry.specs.declared.events.Next.{Next}
use Rattle.write_retry.specs.declared.events.Next.TheVariants as next
use Rattle.write_retry.specs.declared.outcome.Outcome.{Outcome}
use Rattle.write_retry.specs.Machine.{Op, after, allows, draws, new_op}
use Rattle.write_retry.specs.Verdict as verdict
use Rattle.write_retry.specs.Verdict.{LastLook, again}

-- The events of a command from its beginning on, each of which answers what was to be done.
abbrev pub IsHistoryFrom : Op → List OpEvent → Type 0
IsHistoryFrom c es = Legal (λ c e. allows c.next e ≡ true) after c es

abbrev pub IsHistory : Bool → Bool → List OpEvent → Type 0
IsHistory write retryable es = IsHistoryFrom (new_op write retryable) es

-- The command behind events.
abbrev pub behind : Bool → Bool → List OpEvent → Op
behind write retryable es = state_after after (new_op write retryable) es

-- The end of an attempt that an event tells.
abbrev pub end_of : OpEvent → Option AttemptEnd
end_of (event.Unsent u) = Some (attempt.Unsent u)
end_of (event.Replied reading) = Some (attempt.Replied reading)
end_of event.Cut = Some attempt.Cut
end_of event.Fault = Some attempt.Fault
end_of event.TimedOut = Some attempt.TimedOut
end_of (event.Bad at) = Some (attempt.Bad at)
end_of (event.Chosen host numbered) = None
end_of event.NoServer = None
end_of (event.Incompatible host min max) = None
end_of event.Lent = None
end_of event.Sent = None

-- How the attempts ended, in order.
abbrev pub attempts : List OpEvent → List AttemptEnd
attempts es = filter_map end_of es

-- Whether numbers are drawn at the server that was chosen first.
abbrev pub first_numbered : List OpEvent → Bool
first_numbered [] = false
first_numbered (event.Chosen host numbered ∷ es) = numbered
first_numbered (e ∷ es) = first_numbered es

-- Whether the command drew a transaction number.
abbrev pub drew : Bool → Bool → List OpEvent → Bool
drew write retryable es = draws write retryable (first_numbered es)

-- The look that began no attempt, where there is one; of the looks behind an attempt's end that is also one that chose a server
-- at which no number is drawn.
abbrev pub look_from : Bool → List OpEvent → LastLook
look_from tried [] = verdict.Chose
look_from tried (event.NoServer ∷ es) = verdict.NoServer
look_from tried (event.Incompatible host min max ∷ es) = verdict.Incompatible host min max
look_from true (event.Chosen host false ∷ es) = verdict.Unnumbered
look_from tried (event.Chosen host numbered ∷ es) = look_from tried es
look_from tried (event.Lent ∷ es) = look_from tried es
look_from tried (event.Sent ∷ es) = look_from tried es
look_from tried (e ∷ es) = look_from true es

abbrev pub last_look : List OpEvent → LastLook
last_look es = look_from false es

-- No server was looked for since the beginning, or since the last end of an attempt.
abbrev pub unlooked_from : Bool → List OpEvent → Bool
unlooked_from unlooked [] = unlooked
unlooked_from unlooked (event.Chosen host numbered ∷ es) = unlooked_from false es
unlooked_from unlooked (event.NoServer ∷ es) = unlooked_from false es
unlooked_from unlooked (event.Incompatible host min max ∷ es) = unlooked_from false es
unlooked_from unlooked (event.Lent ∷ es) = unlooked_from unlooked es
unlooked_from unlooked (event.Sent ∷ es) = unlooked_from unlooked es
unlooked_from unlooked (e ∷ es) = unlooked_from true es

-- The command's answer, where it has one.
abbrev pub answer_in : Next → Option Outcome
answer_in (next.Answer o) = Some o
answer_in n = None

-- Whether the first of the attempts may be repeated.
abbrev pub may_repeat : Bool → List AttemptEnd → Bool
may_repeat drew [] = false
may_repeat drew (first ∷ later) = again drew first

-- How many times something of that kind was to be done: at the beginning, and behind each event.
abbrev pub one_if : Bool → ℕ
one_if true = 1
one_if false = 0

abbrev pub times : (Next → Bool) → Op → List OpEvent → ℕ
times is_it c [] = one_if (is_it c.next)
times is_it c (e ∷ es) = one_if (is_it c.next) + times is_it (after c e) es

abbrev pub is_select : Next → Bool
is_select next.Select = true
is_select n = false

abbrev pub is_send : Next → Bool
is_send next.Send = true
is_send n = false
