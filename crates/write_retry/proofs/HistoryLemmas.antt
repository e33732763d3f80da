-- What every list of events of a command comes to, from each place of it on.
use Rattle.std.proofs.Common.{◌≡◌, ℕ, ◌+◌, ◌≤◌, Bool, true, false, List, [], ◌∷◌, ◌++◌, length, Option, None, Some, refl, sym, subst, arith}
use Rattle.std.specs.Prelude.{◌&&◌, if◌then◌else◌, nat_le}
use Rattle.entry_judge.specs.Judge.{state_after}
use Rattle.write_retry.specs.declared.attempt_end.AttemptEnd.{AttemptEnd}
use Rattle.write_retry.specs.declared.attempt_end.AttemptEnd.TheVariants as attempt
use Rattle.write_retry.specs.declared.events.OpEvent.{OpEvent}
use Rattle.write_retry.specs.declared.events.OpEvent.TheVariants as event
use Rattle.write_retry.specs.declared.events.Next.{Next}
use Rattle.write_retry.specs.declared.events.Next.TheVariants as next
use Rattle.write_retry.specs.declared.outcome.Outcome.{Outcome}
use Rattle.write_retry.specs.declared.outcome.Outcome.TheVariants as outcome
use Rattle.write_retry.specs.Histories.{IsHistory, IsHistoryFrom, answer_in, attempts, drew, is_select, is_send, look_from, may_repeat, one_if, times, unlooked_from}
use Rattle.write_retry.specs.Machine.{Op, after, after_first, draws, new_op}
use Rattle.write_retry.specs.Verdict as verdicts
use Rattle.write_retry.specs.Verdict.{LastLook, again, given, is_again, is_lesser, more, said, verdict, verdict_of_one, verdict_of_two}

-- a command with its first attempt's end, and what is to be done
abbrev op : Bool → Bool → Bool → Option AttemptEnd → Next → Op
op w r d first n = record { write = w; retryable = r; drew = d; first = first; next = n }

-- what the events from there on come to, with the attempts that ended ahead of them; whether a server is to be selected behind them; how often a server is to be selected; at
-- most how often the command is to be sent; at most how many attempts end
pub record Tells (d : Bool) (ahead : List AttemptEnd) (tried unlooked : Bool) (c : Op) (es : List OpEvent) (p q k : ℕ) : Type 0 where
  pub answer : answer_in (state_after after c es).next ≡ verdict d (ahead ++ attempts es) (look_from tried es)
  pub selected : is_select (state_after after c es).next ≡ (more d (ahead ++ attempts es) && unlooked_from unlooked es)
  pub selects : times is_select c es ≡ p
  pub sends : times is_send c es ≤ q
  pub ends : length (attempts es) ≤ k

-- ---- Behind an answer there is no event

no-more : (c : Op) (o : Outcome) (es : List OpEvent) → IsHistoryFrom (record c { next = next.Answer o }) es → es ≡ []
no-more c o [] l = refl
no-more c o (e ∷ es) (here, later) = absurd (cc)

-- ---- The second attempt

two : (d : Bool) (a b : AttemptEnd) → again d a ≡ true → Some (given a b) ≡ verdict d (a ∷ b ∷ []) verdicts.Chose
two d a b g = rw g (by (is_lesser b)) where
  by : (m : Bool) → Some (if m then said a else said b) ≡ verdict_of_two true m a b verdicts.Chose
  by true = refl
  by false = refl

-- behind its end
second-ended : (w r d : Bool) (a b : AttemptEnd) (es : List OpEvent) → again d a ≡ true → IsHistoryFrom (op w r d (Some a) (next.Answer (given a b))) es →
    Tells d (a ∷ b ∷ []) true true (op w r d (Some a) (next.Answer (given a b))) es 0 0 0
second-ended w r d a b es g l =
    let c = op w r d (Some a) (next.Answer (given a b)) in
    subst (λ xs. Tells d (a ∷ b ∷ []) true true c xs 0 0 0) (sym (no-more c (given a b) es l))
    (record { answer = two d a b g; selected = refl; selects = refl; sends = omega arith; ends = omega arith })

-- a step of the second attempt at most leads to a sending
abbrev sends_left : Next → ℕ
sends_left (next.CheckOut host) = 1
sends_left next.Send = 1
sends_left n = 0

abbrev is_busy : Next → Bool
is_busy next.Select = false
is_busy (next.Answer o) = false
is_busy n = true

one-again : (d : Bool) (a : AttemptEnd) → again d a ≡ true → None ≡ verdict d (a ∷ []) verdicts.Chose
one-again d a g = rw g refl

second-tells : (w r d : Bool) (a : AttemptEnd) → again d a ≡ true → (n : Next) → is_busy n ≡ true → (es : List OpEvent) →
    IsHistoryFrom (op w r d (Some a) n) es → Tells d (a ∷ []) true false (op w r d (Some a) n) es 0 (sends_left n) 1
second-tells w r d a g (next.CheckOut host) busy [] l = record { answer = one-again d a g; selected = rw g refl; selects = refl; sends = omega arith; ends = omega arith }
second-tells w r d a g (next.CheckOut host) busy (event.Lent ∷ es) (here, later) =
    let t = second-tells w r d a g next.Send refl es later in
    record { answer = t.answer; selected = t.selected; selects = omega (arith, t.selects); sends = omega (arith, t.sends); ends = omega (arith, t.ends) }
second-tells w r d a g (next.CheckOut host) busy ((event.Unsent u) ∷ es) (here, later) =
    let t = second-ended w r d a (attempt.Unsent u) es g later in
    record { answer = t.answer; selected = t.selected; selects = omega (arith, t.selects); sends = omega (arith, t.sends); ends = omega (arith, t.ends) }
second-tells w r d a g next.Send busy [] l = record { answer = one-again d a g; selected = rw g refl; selects = refl; sends = omega arith; ends = omega arith }
second-tells w r d a g next.Send busy (event.Sent ∷ es) (here, later) =
    let t = second-tells w r d a g next.Read refl es later in
    record { answer = t.answer; selected = t.selected; selects = omega (arith, t.selects); sends = omega (arith, t.sends); ends = omega (arith, t.ends) }
second-tells w r d a g next.Send busy (event.Fault ∷ es) (here, later) =
    let t = second-ended w r d a attempt.Fault es g later in
    record { answer = t.answer; selected = t.selected; selects = omega (arith, t.selects); sends = omega (arith, t.sends); ends = omega (arith, t.ends) }
second-tells w r d a g next.Send busy (event.TimedOut ∷ es) (here, later) =
    let t = second-ended w r d a attempt.TimedOut es g later in
    record { answer = t.answer; selected = t.selected; selects = omega (arith, t.selects); sends = omega (arith, t.sends); ends = omega (arith, t.ends) }
second-tells w r d a g next.Send busy ((event.Unsent u) ∷ es) (here, later) =
    let t = second-ended w r d a (attempt.Unsent u) es g later in
    record { answer = t.answer; selected = t.selected; selects = omega (arith, t.selects); sends = omega (arith, t.sends); ends = omega (arith, t.ends) }
second-tells w r d a g next.Read busy [] l = record { answer = one-again d a g; selected = rw g refl; selects = refl; sends = omega arith; ends = omega arith }
second-tells w r d a g next.Read busy ((event.Replied reading) ∷ es) (here, later) =
    let t = second-ended w r d a (attempt.Replied reading) es g later in
    record { answer = t.answer; selected = t.selected; selects = omega (arith, t.selects); sends = omega (arith, t.sends); ends = omega (arith, t.ends) }
second-tells w r d a g next.Read busy (event.Cut ∷ es) (here, later) =
    let t = second-ended w r d a attempt.Cut es g later in
    record { answer = t.answer; selected = t.selected; selects = omega (arith, t.selects); sends = omega (arith, t.sends); ends = omega (arith, t.ends) }
second-tells w r d a g next.Read busy (event.Fault ∷ es) (here, later) =
    let t = second-ended w r d a attempt.Fault es g later in
    record { answer = t.answer; selected = t.selected; selects = omega (arith, t.selects); sends = omega (arith, t.sends); ends = omega (arith, t.ends) }
second-tells w r d a g next.Read busy (event.TimedOut ∷ es) (here, later) =
    let t = second-ended w r d a attempt.TimedOut es g later in
    record { answer = t.answer; selected = t.selected; selects = omega (arith, t.selects); sends = omega (arith, t.sends); ends = omega (arith, t.ends) }
second-tells w r d a g next.Read busy ((event.Bad at) ∷ es) (here, later) =
    let t = second-ended w r d a (attempt.Bad at) es g later in
    record { answer = t.answer; selected = t.selected; selects = omega (arith, t.selects); sends = omega (arith, t.sends); ends = omega (arith, t.ends) }
second-tells w r d a g n busy [] l = absurd (cc)
second-tells w r d a g n busy (e ∷ es) (here, later) = absurd (cc)

-- ---- The second selection

again-tells : (w r d : Bool) (a : AttemptEnd) → again d a ≡ true → (es : List OpEvent) →
    IsHistoryFrom (op w r d (Some a) next.Select) es → Tells d (a ∷ []) true true (op w r d (Some a) next.Select) es 1 1 1
again-tells w r d a g [] l = record { answer = one-again d a g; selected = rw g refl; selects = refl; sends = omega arith; ends = omega arith }
again-tells w r d a g (event.Chosen host true ∷ es) (here, later) =
    let t = second-tells w r d a g (next.CheckOut host) refl es later in
    record { answer = t.answer; selected = t.selected; selects = omega (arith, t.selects); sends = omega (arith, t.sends); ends = omega (arith, t.ends) }
again-tells w r d a g (event.Chosen host false ∷ es) (here, later) =
    subst (λ xs. Tells d (a ∷ []) true true (op w r d (Some a) next.Select) (event.Chosen host false ∷ xs) 1 1 1) (sym (no-more (op w r d (Some a) next.Select) (said a) es later))
    (record { answer = rw g refl; selected = rw g refl; selects = refl; sends = omega arith; ends = omega arith })
again-tells w r d a g (event.NoServer ∷ es) (here, later) =
    subst (λ xs. Tells d (a ∷ []) true true (op w r d (Some a) next.Select) (event.NoServer ∷ xs) 1 1 1) (sym (no-more (op w r d (Some a) next.Select) (said a) es later))
    (record { answer = rw g refl; selected = rw g refl; selects = refl; sends = omega arith; ends = omega arith })
again-tells w r d a g (event.Incompatible host min max ∷ es) (here, later) =
    subst (λ xs. Tells d (a ∷ []) true true (op w r d (Some a) next.Select) (event.Incompatible host min max ∷ xs) 1 1 1) (sym (no-more (op w r d (Some a) next.Select) (said a) es later))
    (record { answer = rw g refl; selected = rw g refl; selects = refl; sends = omega arith; ends = omega arith })
again-tells w r d a g (e ∷ es) (here, later) = absurd (cc)

-- ---- The first attempt

-- behind its end
first-ended : (w r d : Bool) (b : AttemptEnd) (es : List OpEvent) → IsHistoryFrom (op w r d (Some b) (after_first d b)) es →
    Tells d (b ∷ []) true true (op w r d (Some b) (after_first d b)) es (one_if (again d b)) (one_if d) 1
first-ended w r d b es l = by (again d b) refl l where
  drawn : (x y : Bool) → (x && y) ≡ true → 1 ≤ one_if x
  drawn true y e = omega arith
  drawn false y e = absurd (cc)

  by : (g : Bool) → again d b ≡ g → IsHistoryFrom (op w r d (Some b) (if g then next.Select else next.Answer (said b))) es →
      Tells d (b ∷ []) true true (op w r d (Some b) (if g then next.Select else next.Answer (said b))) es (one_if g) (one_if d) 1
  by true e m =
      let t = again-tells w r d b e es m in
      record { answer = t.answer; selected = t.selected; selects = t.selects; sends = omega (arith, t.sends, drawn d (is_again b) e); ends = t.ends }
  by false e m =
      let c = op w r d (Some b) (next.Answer (said b)) in
      subst (λ xs. Tells d (b ∷ []) true true c xs 0 (one_if d) 1) (sym (no-more c (said b) es m))
      (record { answer = rw e refl; selected = rw e refl; selects = refl; sends = omega arith; ends = omega arith })

first-tells : (w r d : Bool) (n : Next) → is_busy n ≡ true → (es : List OpEvent) →
    IsHistoryFrom (op w r d None n) es → Tells d [] false false (op w r d None n) es (one_if (may_repeat d (attempts es))) (sends_left n + one_if d) 2
first-tells w r d (next.CheckOut host) busy [] l = record { answer = refl; selected = refl; selects = refl; sends = omega arith; ends = omega arith }
first-tells w r d (next.CheckOut host) busy (event.Lent ∷ es) (here, later) =
    let t = first-tells w r d next.Send refl es later in
    record { answer = t.answer; selected = t.selected; selects = omega (arith, t.selects); sends = omega (arith, t.sends); ends = omega (arith, t.ends) }
first-tells w r d (next.CheckOut host) busy ((event.Unsent u) ∷ es) (here, later) =
    let t = first-ended w r d (attempt.Unsent u) es later in
    record { answer = t.answer; selected = t.selected; selects = omega (arith, t.selects); sends = omega (arith, t.sends); ends = omega (arith, t.ends) }
first-tells w r d next.Send busy [] l = record { answer = refl; selected = refl; selects = refl; sends = omega arith; ends = omega arith }
first-tells w r d next.Send busy (event.Sent ∷ es) (here, later) =
    let t = first-tells w r d next.Read refl es later in
    record { answer = t.answer; selected = t.selected; selects = omega (arith, t.selects); sends = omega (arith, t.sends); ends = omega (arith, t.ends) }
first-tells w r d next.Send busy (event.Fault ∷ es) (here, later) =
    let t = first-ended w r d attempt.Fault es later in
    record { answer = t.answer; selected = t.selected; selects = omega (arith, t.selects); sends = omega (arith, t.sends); ends = omega (arith, t.ends) }
first-tells w r d next.Send busy (event.TimedOut ∷ es) (here, later) =
    let t = first-ended w r d attempt.TimedOut es later in
    record { answer = t.answer; selected = t.selected; selects = omega (arith, t.selects); sends = omega (arith, t.sends); ends = omega (arith, t.ends) }
first-tells w r d next.Send busy ((event.Unsent u) ∷ es) (here, later) =
    let t = first-ended w r d (attempt.Unsent u) es later in
    record { answer = t.answer; selected = t.selected; selects = omega (arith, t.selects); sends = omega (arith, t.sends); ends = omega (arith, t.ends) }
first-tells w r d next.Read busy [] l = record { answer = refl; selected = refl; selects = refl; sends = omega arith; ends = omega arith }
first-tells w r d next.Read busy ((event.Replied reading) ∷ es) (here, later) =
    let t = first-ended w r d (attempt.Replied reading) es later in
    record { answer = t.answer; selected = t.selected; selects = omega (arith, t.selects); sends = omega (arith, t.sends); ends = omega (arith, t.ends) }
first-tells w r d next.Read busy (event.Cut ∷ es) (here, later) =
    let t = first-ended w r d attempt.Cut es later in
    record { answer = t.answer; selected = t.selected; selects = omega (arith, t.selects); sends = omega (arith, t.sends); ends = omega (arith, t.ends) }
first-tells w r d next.Read busy (event.Fault ∷ es) (here, later) =
    let t = first-ended w r d attempt.Fault es later in
    record { answer = t.answer; selected = t.selected; selects = omega (arith, t.selects); sends = omega (arith, t.sends); ends = omega (arith, t.ends) }
first-tells w r d next.Read busy (event.TimedOut ∷ es) (here, later) =
    let t = first-ended w r d attempt.TimedOut es later in
    record { answer = t.answer; selected = t.selected; selects = omega (arith, t.selects); sends = omega (arith, t.sends); ends = omega (arith, t.ends) }
first-tells w r d next.Read busy ((event.Bad at) ∷ es) (here, later) =
    let t = first-ended w r d (attempt.Bad at) es later in
    record { answer = t.answer; selected = t.selected; selects = omega (arith, t.selects); sends = omega (arith, t.sends); ends = omega (arith, t.ends) }
first-tells w r d n busy [] l = absurd (cc)
first-tells w r d n busy (e ∷ es) (here, later) = absurd (cc)

-- ---- From the beginning on

abbrev pub FromHere : Bool → Bool → List OpEvent → Type 0
FromHere w r es =
    Tells (drew w r es) [] false true (new_op w r) es (1 + one_if (may_repeat (drew w r es) (attempts es))) (1 + one_if (drew w r es)) 2

pub history-tells : (w r : Bool) (es : List OpEvent) → IsHistory w r es → FromHere w r es
history-tells w r [] l = record { answer = refl; selected = refl; selects = refl; sends = omega arith; ends = omega arith }
history-tells w r (event.Chosen host numbered ∷ es) (here, later) =
    let t = first-tells w r (draws w r numbered) (next.CheckOut host) refl es later in
    record { answer = t.answer; selected = t.selected; selects = omega (arith, t.selects); sends = omega (arith, t.sends); ends = omega (arith, t.ends) }
history-tells w r (event.NoServer ∷ es) (here, later) =
    subst (λ xs. FromHere w r (event.NoServer ∷ xs)) (sym (no-more (new_op w r) outcome.NoServer es later))
    (record { answer = refl; selected = refl; selects = refl; sends = omega arith; ends = omega arith })
history-tells w r (event.Incompatible host min max ∷ es) (here, later) =
    subst (λ xs. FromHere w r (event.Incompatible host min max ∷ xs)) (sym (no-more (new_op w r) (outcome.Incompatible host min max) es later))
    (record { answer = refl; selected = refl; selects = refl; sends = omega arith; ends = omega arith })
history-tells w r (e ∷ es) (here, later) = absurd (cc)

-- ---- Numbers

pub selects-second : (n : ℕ) (b : Bool) → n ≡ 1 + one_if b → nat_le 2 n ≡ b
selects-second n true e = rw e refl
selects-second n false e = rw e refl

pub selects-most : (n : ℕ) (b : Bool) → n ≡ 1 + one_if b → n ≤ 2
selects-most n true e = omega (arith, e)
selects-most n false e = omega (arith, e)

pub sends-most : (n : ℕ) (b : Bool) → n ≤ 1 + one_if b → n ≤ 2
sends-most n true h = omega (arith, h)
sends-most n false h = omega (arith, h)

pub sends-once : (n : ℕ) (b : Bool) → b ≡ false → n ≤ 1 + one_if b → n ≤ 1
sends-once n true e h = absurd (cc)
sends-once n false e h = omega (arith, h)
