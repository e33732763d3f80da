-- What a trail says of each command, entry by entry.
use Rattle.std.proofs.Common.{◌≡◌, Bool, ◌<◌, ◌≤◌, suc, zero, inl, inr, ℕ, ◌+◌, ◌-◌, ◌^◌, ◌==◌, true, false, cond, List, [], ◌∷◌, ◌++◌, Option, None, Some, refl, sym, ap, ◌∙◌, subst, arith, length, min, sum_by, eq-eqb}
use Rattle.std.specs.Prelude.{IsSome, slice_get}
use Rattle.std.proofs.lemmas.Bool.Decides.{eqb_tells}
use Rattle.std.proofs.lemmas.List.Sums.{sum_by-append, sum_by-cons}
use Rattle.cmd_build.specs.declared.command.Command.{Command}
use Rattle.write_retry.specs.declared.attempt_end.AttemptEnd.{AttemptEnd}
use Rattle.write_retry.specs.declared.outcome.Outcome.{Outcome}
use Rattle.desk_trail.specs.declared.entry.Entry.{Entry}
use Rattle.desk_trail.specs.declared.entry.Entry.TheVariants as entry
use Rattle.desk_trail.specs.declared.step.Step.{Step}
use Rattle.trail_tally.specs.Tallies.{AreTallies, Changes, IsTally, answer_in, answer_of, attempts_of, ends, first_of, tallies_from, tallies_of, tally_of, with_answer, with_end}
use Rattle.trail_tally.specs.declared.tally.Tally.{Tally}

pub attempts-append : (op : ℕ) (xs : List Step) (s : Step) → attempts_of op (xs ++ s ∷ []) ≡ attempts_of op xs + cond (ends op s.entry) 1 0
attempts-append op xs s =
    let f : Step → ℕ = λ (t : Step). cond (ends op t.entry) 1 0 in
    let none : sum_by f [] ≡ 0 = refl in
    omega (arith, sum_by-append f xs (s ∷ []), sum_by-cons f s [], none)

first-assoc : (a b c : Option Outcome) → first_of (first_of a b) c ≡ first_of a (first_of b c)
first-assoc None b c = refl
first-assoc (Some o) b c = refl

first-none : (a : Option Outcome) → first_of a None ≡ a
first-none None = refl
first-none (Some o) = refl

pub answer-append : (op : ℕ) (xs ys : List Step) → answer_of op (xs ++ ys) ≡ first_of (answer_of op xs) (answer_of op ys)
answer-append op [] ys = refl
answer-append op (x ∷ xs) ys =
    ap (λ o. first_of (answer_in op x.entry) o) (answer-append op xs ys) ∙ sym (first-assoc (answer_in op x.entry) (answer_of op xs) (answer_of op ys))

-- One more entry, and what it says of the command.
pub tally-step : (k : ℕ) (before : List Step) (s : Step) (t new : Tally) → IsTally k before t → new.answer ≡ first_of t.answer (answer_in k s.entry) →
    new.attempts ≡ min (t.attempts + cond (ends k s.entry) 1 0) (2 ^ 64 - 1) → IsTally k (before ++ s ∷ []) new
tally-step k before s t new is answer attempts = record {
  answer = answer ∙ ap (λ o. first_of o (answer_in k s.entry)) is.answer ∙ sym (answer-append k before (s ∷ []) ∙ ap (first_of (answer_of k before)) (first-none (answer_in k s.entry)));
  attempts = omega (arith, attempts, is.attempts, attempts-append k before s);
}

-- An entry that says nothing of the command.
pub tally-still : (k : ℕ) (before : List Step) (s : Step) (t : Tally) → answer_in k s.entry ≡ None → ends k s.entry ≡ false → IsTally k before t → IsTally k (before ++ s ∷ []) t
tally-still k before s t none not is =
    let few : t.attempts ≡ min (t.attempts + cond (ends k s.entry) 1 0) (2 ^ 64 - 1) = rw not (omega (arith, is.attempts)) in
    tally-step k before s t t is (sym (ap (first_of t.answer) none ∙ first-none t.answer)) few

-- The tally of one command changes.
tallies-changed : (s : Step) (op : ℕ) (g : Tally → Tally) (before : List Step) (old new : List Tally) → Changes op g old new →
    ((t : Tally) → IsTally op before t → IsTally op (before ++ s ∷ []) (g t)) →
    ((k : ℕ) (t : Tally) → (k ≡ op → ⊥) → IsTally k before t → IsTally k (before ++ s ∷ []) t) →
    AreTallies before old → AreTallies (before ++ s ∷ []) new
tallies-changed s op g before old new changes one others are = λ k t there. elim (eqb_tells k op) [
  | inl w ↦ subst (λ (n : ℕ). IsTally n (before ++ s ∷ []) t) (sym w.1) (at t (ap (slice_get new) (sym w.1) ∙ there) (slice_get old op) refl)
  | inr w ↦ others k t w.1 (are k t (sym (changes.others k w.1) ∙ there))
]
  where
    at : (t : Tally) → slice_get new op ≡ Some t → (o : Option Tally) → slice_get old op ≡ o → IsTally op (before ++ s ∷ []) t
    at t there None e = absurd (let never : ⊥ = cc (changes.there, there, e) in never)
    at t there (Some was) e =
        let is : g was ≡ t = cc (changes.there, there, e) in
        subst (IsTally op (before ++ s ∷ [])) is (one was (are op was e))

-- ---- The two entries that speak of a command

other : (op k : ℕ) → (k ≡ op → ⊥) → (op == k) ≡ false
other op k not = elim (eqb_tells op k) [
  | inl w ↦ absurd (not (sym w.1))
  | inr w ↦ w.0
]

pub tallies-ended : (s : Step) (op : ℕ) (end : AttemptEnd) (before : List Step) (old new : List Tally) → s.entry ≡ entry.Ended op end →
    Changes op with_end old new → AreTallies before old → AreTallies (before ++ s ∷ []) new
tallies-ended s op end before old new is changes are = tallies-changed s op with_end before old new changes one others are
  where
    one : (t : Tally) → IsTally op before t → IsTally op (before ++ s ∷ []) (with_end t)
    one t told =
        let here : ends op s.entry ≡ true = ap (ends op) is ∙ eq-eqb op op refl in
        let none : answer_in op s.entry ≡ None = ap (answer_in op) is in
        tally-step op before s t (with_end t) told (sym (ap (first_of t.answer) none ∙ first-none t.answer)) (rw here refl)

    others : (k : ℕ) (t : Tally) → (k ≡ op → ⊥) → IsTally k before t → IsTally k (before ++ s ∷ []) t
    others k t not told = tally-still k before s t (ap (answer_in k) is) (ap (ends k) is ∙ other op k not) told

pub tallies-answered : (s : Step) (op : ℕ) (outcome : Outcome) (before : List Step) (old new : List Tally) → s.entry ≡ entry.Finished op outcome →
    Changes op (with_answer outcome) old new → AreTallies before old → AreTallies (before ++ s ∷ []) new
tallies-answered s op outcome before old new is changes are = tallies-changed s op (with_answer outcome) before old new changes one others are
  where
    one : (t : Tally) → IsTally op before t → IsTally op (before ++ s ∷ []) (with_answer outcome t)
    one t told =
        let not : ends op s.entry ≡ false = ap (ends op) is in
        let here : answer_in op s.entry ≡ Some outcome = ap (answer_in op) is ∙ rw (eq-eqb op op refl) refl in
        let few : t.attempts ≡ min (t.attempts + cond (ends op s.entry) 1 0) (2 ^ 64 - 1) = rw not (omega (arith, told.attempts)) in
        tally-step op before s t (with_answer outcome t) told (sym (ap (first_of t.answer) here)) few

    others : (k : ℕ) (t : Tally) → (k ≡ op → ⊥) → IsTally k before t → IsTally k (before ++ s ∷ []) t
    others k t not told = tally-still k before s t (ap (answer_in k) is ∙ rw (other op k not) refl) (ap (ends k) is) told

-- Any other entry.
pub tallies-still : (s : Step) (before : List Step) (ts : List Tally) → ((k : ℕ) → (answer_in k s.entry ≡ None) × (ends k s.entry ≡ false)) →
    AreTallies before ts → AreTallies (before ++ s ∷ []) ts
tallies-still s before ts still are = λ k t there. tally-still k before s t (still k).0 (still k).1 (are k t there)

pub nothing-said : (e : Entry) → ((op : ℕ) (end : AttemptEnd) → e ≡ entry.Ended op end → ⊥) → ((op : ℕ) (o : Outcome) → e ≡ entry.Finished op o → ⊥) →
    (k : ℕ) → (answer_in k e ≡ None) × (ends k e ≡ false)
nothing-said (entry.Ended op end) a b k = absurd (a op end refl)
nothing-said (entry.Finished op o) a b k = absurd (b op o refl)
nothing-said e a b k = (refl, refl)

-- ---- Exactly

attempts-le : (op : ℕ) (steps : List Step) → attempts_of op steps ≤ length steps
attempts-le op [] = omega arith
attempts-le op (s ∷ ss) = by (ends op s.entry) (sum_by-cons (λ (t : Step). cond (ends op t.entry) 1 0) s ss) (attempts-le op ss)
  where
    by : (b : Bool) → attempts_of op (s ∷ ss) ≡ cond b 1 0 + attempts_of op ss → attempts_of op ss ≤ length ss → attempts_of op (s ∷ ss) ≤ length (s ∷ ss)
    by true e le = omega (arith, e, le)
    by false e le = omega (arith, e, le)

exact : (op : ℕ) (steps : List Step) (t : Tally) → length steps < 2 ^ 64 → IsTally op steps t → t ≡ tally_of op steps
exact op steps t few is =
    let attempts : t.attempts ≡ attempts_of op steps = omega (arith, is.attempts, attempts-le op steps, few) in
    ap (λ (n : ℕ). record { attempts = n; answer = t.answer }) attempts ∙ ap (λ (o : Option Outcome). record { attempts = attempts_of op steps; answer = o }) is.answer

exact-from : (op : ℕ) (commands : List Command) (steps : List Step) (ts : List Tally) → length steps < 2 ^ 64 → length ts ≡ length commands →
    ((k : ℕ) (t : Tally) → slice_get ts k ≡ Some t → IsTally (op + k) steps t) → ts ≡ tallies_from op commands steps
exact-from op [] steps [] few count are = refl
exact-from op [] steps (t ∷ ts) few count are = absurd (let never : ⊥ = omega (arith, count) in never)
exact-from op (c ∷ cs) steps [] few count are = absurd (let never : ⊥ = omega (arith, count) in never)
exact-from op (c ∷ cs) steps (t ∷ ts) few count are =
    let here : op + 0 ≡ op = omega arith in
    let first : t ≡ tally_of op steps = exact op steps t few (subst (λ (n : ℕ). IsTally n steps t) here (are zero t refl)) in
    let rest = exact-from (op + 1) cs steps ts few (let same : length ts ≡ length cs = omega (arith, count) in same)
    (λ k u e. subst (λ (n : ℕ). IsTally n steps u) (let on : op + suc k ≡ op + 1 + k = omega arith in on) (are (suc k) u e)) in
    ap (λ (x : Tally). x ∷ ts) first ∙ ap (λ (xs : List Tally). tally_of op steps ∷ xs) rest

pub tallies-exact : (commands : List Command) (steps : List Step) (ts : List Tally) → length steps < 2 ^ 64 → length ts ≡ length commands → AreTallies steps ts →
    ts ≡ tallies_of commands steps
tallies-exact commands steps ts few count are =
    exact-from 0 commands steps ts few count (λ k t e. subst (λ (n : ℕ). IsTally n steps t) (let on : k ≡ 0 + k = omega arith in on) (are k t e))

pub answer-stays : (op : ℕ) (steps appended : List Step) → IsSome (answer_of op steps) → answer_of op (steps ++ appended) ≡ answer_of op steps
answer-stays op steps appended there = answer-append op steps appended ∙ by (answer_of op steps) there
  where
    by : (o : Option Outcome) → IsSome o → first_of o (answer_of op appended) ≡ o
    by None h = absurd (let never : ⊥ = cc in never)
    by (Some o) h = refl
