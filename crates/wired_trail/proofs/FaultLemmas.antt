-- How many failed calls are told behind one more entry, and how many the net counted behind a call.
use Rattle.std.proofs.Common.{◌≡◌, ◌≤◌, ℕ, ◌+◌, Bool, true, false, List, [], ◌∷◌, Option, None, Some, length, refl, sym, ap, ◌∙◌, subst, arith, cond, length-append}
use Rattle.std.specs.Prelude.{filter}
use Rattle.std.proofs.lemmas.List.Elements.{filter-append}
use Rattle.net_link.specs.Causes.{Rose, count_of}
use Rattle.write_retry.specs.declared.attempt_end.AttemptEnd.{AttemptEnd}
use Rattle.write_retry.specs.declared.attempt_end.AttemptEnd.TheVariants as attempt
use Rattle.desk_trail.specs.declared.entry.CheckHow.{CheckHow}
use Rattle.desk_trail.specs.declared.entry.CheckHow.TheVariants as check
use Rattle.desk_trail.specs.declared.entry.Entry.{Entry}
use Rattle.desk_trail.specs.declared.entry.Entry.TheVariants as entry
use Rattle.desk_trail.specs.declared.room.Room.{Room}
use Rattle.desk_trail.specs.declared.step.Step.{Step}
use Rattle.desk_trail.specs.Facts.{Fact, Lists, fact_of}
use Rattle.desk_trail.specs.Facts as fact
use Rattle.desk_trail.specs.Written.{step_of, with_entry}
use Rattle.legal_trail.specs.Recorded.{Adds, Recorded}
use Rattle.wired_trail.specs.Faults.{IsCounted, IsUntold, faults_in, tells_fault}
use Rattle.wired_trail.specs.Hearing.{IsPlain}
use Rattle.wired_trail.specs.Lines.{Lines as Streams}
use Rattle.wired_trail.proofs.ToldLemmas.{one_if}

-- ---- One more entry

faults-with : (steps : List Step) (moment : ℕ) (e : Entry) → faults_in (with_entry steps moment e) ≡ faults_in steps + one_if (tells_fault e)
faults-with steps moment e =
    let one : Step = step_of moment e in
    ap length (filter-append (λ (s : Step). tells_fault s.entry) steps (one ∷ []))
    ∙ length-append (filter (λ (s : Step). tells_fault s.entry) steps) (filter (λ (s : Step). tells_fault s.entry) (one ∷ []))
    ∙ ap (λ n. faults_in steps + n) (elim (tells_fault e) as (λ b. length (cond b (one ∷ []) []) ≡ one_if b) [ true ↦ refl | false ↦ refl ])

counted-if : (b : Bool) (faults n : ℕ) → (b ≡ true → count_of (n + 1) ≤ faults) → count_of n ≤ faults → count_of (n + one_if b) ≤ faults
counted-if true faults n untold k = untold refl
counted-if false faults n untold k = omega (arith, k)

pub counted-adds : (faults : ℕ) (used : Room) (lists : Lists) (moment : ℕ) (e : Entry) (f : Fact) (old new : Recorded) → Adds used lists moment e f old new →
    (tells_fault e ≡ true → IsUntold faults old.steps) → IsCounted faults old.steps → IsCounted faults new.steps
counted-adds faults used lists moment e f old new adds untold k =
    subst (IsCounted faults) (sym adds.steps_now)
    (subst (λ n. count_of n ≤ faults) (sym (faults-with old.steps moment e)) (counted-if (tells_fault e) faults (faults_in old.steps) untold k))

-- one that tells no failed call leaves one of them untold
pub untold-adds : (faults : ℕ) (used : Room) (lists : Lists) (moment : ℕ) (e : Entry) (f : Fact) (old new : Recorded) → Adds used lists moment e f old new →
    tells_fault e ≡ false → IsUntold faults old.steps → IsUntold faults new.steps
untold-adds faults used lists moment e f old new adds quiet k =
    let none : one_if (tells_fault e) ≡ one_if false = ap one_if quiet in
    let same = faults-with old.steps moment e in
    subst (IsUntold faults) (sym adds.steps_now) (omega (arith, none, same, k))

never : {A : Type 0} (b : Bool) → b ≡ false → b ≡ true → A
never b quiet tells = absurd cc

pub counted-quiet : (faults : ℕ) (used : Room) (lists : Lists) (moment : ℕ) (e : Entry) (f : Fact) (old new : Recorded) → Adds used lists moment e f old new →
    tells_fault e ≡ false → IsCounted faults old.steps → IsCounted faults new.steps
counted-quiet faults used lists moment e f old new adds quiet k =
    counted-adds faults used lists moment e f old new adds (λ yes. never (tells_fault e) quiet yes) k

-- ---- Plain entries

quiet-check : (lines : Streams) (host : ℕ) (how : CheckHow) → IsPlain lines (fact.CheckEnded host how) → tells_fault (entry.CheckEnded host how) ≡ false
quiet-check lines host (check.Reply sample) p = refl
quiet-check lines host (check.Refused code) p = refl
quiet-check lines host check.Cut p = refl
quiet-check lines host check.Fault p = absurd p
quiet-check lines host check.Late p = refl
quiet-check lines host (check.Bad at) p = refl
quiet-check lines host check.NoDial p = absurd p

quiet-dialled : (lines : Streams) (op host conn : ℕ) (stream : Option ℕ) → IsPlain lines (fact.Dialled op host conn stream) →
    tells_fault (entry.Dialled op host conn stream) ≡ false
quiet-dialled lines op host conn None p = absurd p
quiet-dialled lines op host conn (Some stream) p = refl

quiet-ended : (lines : Streams) (op : ℕ) (end : AttemptEnd) → IsPlain lines (fact.Ended op end) → tells_fault (entry.Ended op end) ≡ false
quiet-ended lines op (attempt.Replied reading) p = refl
quiet-ended lines op attempt.Cut p = refl
quiet-ended lines op attempt.Fault p = absurd p
quiet-ended lines op attempt.TimedOut p = refl
quiet-ended lines op (attempt.Bad at) p = refl
quiet-ended lines op (attempt.Unsent u) p = refl

pub plain-quiet : (lists : Lists) (lines : Streams) (e : Entry) (f : Fact) → fact_of lists e ≡ Some f → IsPlain lines f → tells_fault e ≡ false
plain-quiet lists lines (entry.CheckEnded host how) f is p =
    let same : f ≡ fact.CheckEnded host how = cc in
    quiet-check lines host how (subst (IsPlain lines) same p)
plain-quiet lists lines (entry.Dialled op host conn stream) f is p =
    let same : f ≡ fact.Dialled op host conn stream = cc in
    quiet-dialled lines op host conn stream (subst (IsPlain lines) same p)
plain-quiet lists lines (entry.Ended op end) f is p =
    let same : f ≡ fact.Ended op end = cc in
    quiet-ended lines op end (subst (IsPlain lines) same p)
plain-quiet lists lines e f is p = refl

-- ---- A call of the net

pub counted-later : (faults after : ℕ) (steps : List Step) → faults ≤ after → IsCounted faults steps → IsCounted after steps
counted-later faults after steps le k = omega (arith, le, k)

pub untold-later : (faults after : ℕ) (steps : List Step) → faults ≤ after → IsUntold faults steps → IsUntold after steps
untold-later faults after steps le k = omega (arith, le, k)

-- the count rose by a call that no entry tells of yet
pub untold-rose : (faults after : ℕ) (steps : List Step) → Rose faults after → IsCounted faults steps → IsUntold after steps
untold-rose faults after steps rose k = omega (arith, rose, k)

pub counted-nothing : (faults : ℕ) (steps : List Step) → steps ≡ [] → IsCounted faults steps
counted-nothing faults steps none =
    let zero : faults_in [] ≡ 0 = refl in
    subst (IsCounted faults) (sym none) (omega (arith, zero))
