-- How a client's desk goes on: by nothing, by one call after another, and by one step.
use Rattle.std.proofs.Common.{◌≡◌, ◌≤◌, inl, inr, ℕ, suc, zero, List, [], ◌∷◌, ◌++◌, ◌-◌, ◌<◌, ◌+◌, Option, None, Some, Result, Ok, Err, take, drop, length, refl, sym, ap, ◌∙◌, subst, append_assoc, arith}
use Rattle.std.specs.Prelude.{IsOk, IsSome, OnOk, slice_get}
use Rattle.std.proofs.Math.Seq.{drop-append_seam}
use Rattle.std.proofs.lemmas.Bool.Decides.{eqb_tells}
use Rattle.std.proofs.lemmas.List.{append-nil, length-drop, take_all}
use Rattle.cmd_build.specs.declared.command.Command.{Command}
use Rattle.desk_trail.specs.declared.step.Step.{Step}
use Rattle.desk_trail.specs.Clients.{Client}
use Rattle.desk_core.specs.State.{Desk}
use Rattle.desk_core.specs.declared.sight.Sight.{Sight}
use Rattle.desk_share.specs.Holds.{IsCheckStep, IsTurn}
use Rattle.write_retry.specs.declared.outcome.Outcome.{Outcome}
use Rattle.trail_tally.specs.Tallies.{AreAnswered, AreTallies, answer_of}
use Rattle.trail_tally.specs.declared.tally.Tally.{Tally}
use Rattle.shell_top.specs.Going.{AreAnsweredTo, GoesOn, IsTold}

-- ---- Going on

pub goes-same : {N P : Type 0} (old new : Desk N P) → new ≡ old → GoesOn old new
goes-same old new same = record {
  client = ap (λ (d : Desk _ _). d.trail.client) same;
  added = [];
  steps = ap (λ (d : Desk _ _). d.trail.steps) same ∙ sym (append-nil old.trail.steps);
}

pub goes-on : {N P : Type 0} (old mid new : Desk N P) → GoesOn old mid → GoesOn mid new → GoesOn old new
goes-on old mid new a b = record {
  client = b.client ∙ a.client;
  added = a.added ++ b.added;
  steps = b.steps ∙ ap (λ (l : List Step). l ++ b.added) a.steps ∙ append_assoc old.trail.steps a.added b.added;
}

-- By a turn of a lane, and by a step of a check.
pub goes-turn : {N P : Type 0} (faults : N → ℕ) (rolls : ℕ → Type 0) (lane moment : ℕ) (answer : Option Sight) (old new : Desk N P) → IsTurn faults rolls lane moment answer old new → GoesOn old new
goes-turn faults rolls lane moment answer old new (inl w) = goes-same old new w.0
goes-turn faults rolls lane moment answer old new (inr s) = record { client = s.call.appends.client; added = s.call.appends.added; steps = s.call.appends.steps }

pub goes-check : {N P : Type 0} (faults : N → ℕ) (host moment : ℕ) (answer : Option Sight) (old new : Desk N P) → IsCheckStep faults host moment answer old new → GoesOn old new
goes-check faults host moment answer old new (inl w) = goes-same old new w.0
goes-check faults host moment answer old new (inr s) = record { client = s.0.appends.client; added = s.0.appends.added; steps = s.0.appends.steps }

-- ---- A desk's tallies

-- What was appended to a trail was counted.
pub told-on : (old new added appended : List Step) (was ts : List Tally) → new ≡ old ++ added → appended ≡ drop (length old) new →
    ((before : List Step) → AreTallies before was → AreTallies (before ++ appended) ts) → AreTallies old was → AreTallies new ts
told-on old new added appended was ts steps behind each are =
    let same : appended ≡ added = behind ∙ ap (drop (length old)) steps ∙ drop-append_seam old added in
    subst (λ (l : List Step). AreTallies l ts) (ap (λ (l : List Step). old ++ l) same ∙ sym steps) (each old are)

pub told-more : {N P : Type 0} (old new : Desk N P) (was ts : List Tally) (appended : List Step) → GoesOn old new →
    appended ≡ drop (length old.trail.steps) new.trail.steps → length ts ≡ length was →
    ((before : List Step) → AreTallies before was → AreTallies (before ++ appended) ts) → IsTold old was → IsTold new ts
told-more old new was ts appended goes behind count each told = record {
  each = told-on old.trail.steps new.trail.steps goes.added appended was ts goes.steps behind each told.each;
  count = count ∙ told.count ∙ ap (λ (c : Client). length c.commands) (sym goes.client);
}

-- What of a trail stands behind the entries that stood there.
pub appended-is : (was now old new : List Step) → was ≡ old → now ≡ new → take (length now - length was) (drop (length was) now) ≡ drop (length old) new
appended-is was now old new same same_now =
    take_all (length now - length was) (drop (length was) now) (let le : length (drop (length was) now) ≤ length now - length was = omega (arith, length-drop (length was) now) in le)
    ∙ ap (λ (l : List Step). drop (length l) now) same ∙ ap (λ (l : List Step). drop (length old) l) same_now

pub appended-to : (count : ℕ) (was now old new : List Step) → count ≡ length new → was ≡ old → now ≡ new → take (count - length was) (drop (length was) now) ≡ drop (length old) new
appended-to count was now old new all same same_now =
    let whole : count ≡ length now = all ∙ ap (λ (l : List Step). length l) (sym same_now) in
    ap (λ (n : ℕ). take (n - length was) (drop (length was) now)) whole ∙ appended-is was now old new same same_now

none-beyond : {A : Type 0} (xs : List A) (i : ℕ) → i < length xs → slice_get xs i ≡ None → ⊥
none-beyond [] i lt e = omega (arith, lt)
none-beyond (x ∷ xs) zero lt e = let never : ⊥ = cc in never
none-beyond (x ∷ xs) (suc i) lt e = none-beyond xs i (let less : i < length xs = omega (arith, lt) in less) e

place-below : {A : Type 0} (xs : List A) (i : ℕ) (x : A) → slice_get xs i ≡ Some x → i < length xs
place-below [] i x e = absurd (let never : ⊥ = cc in never)
place-below (y ∷ xs) zero x e = omega arith
place-below (y ∷ xs) (suc i) x e = omega (arith, place-below xs i x e)

-- A command that has a tally was given.
pub there-too : (ts : List Tally) (cs : List Command) (op : ℕ) (t : Tally) → slice_get ts op ≡ Some t → length ts ≡ length cs → (c : Command) × (slice_get cs op ≡ Some c)
there-too [] cs op t there same = absurd (let never : ⊥ = cc in never)
there-too (x ∷ ts) [] op t there same = absurd (let never : ⊥ = omega (arith, same) in never)
there-too (x ∷ ts) (c ∷ cs) zero t there same = (c, refl)
there-too (x ∷ ts) (c ∷ cs) (suc op) t there same = there-too ts cs op t there (let fewer : length ts ≡ length cs = omega (arith, same) in fewer)

-- ---- Answers

abbrev pub AnswersStay : Type 0
AnswersStay = (op : ℕ) (steps appended : List Step) → IsSome (answer_of op steps) → answer_of op (steps ++ appended) ≡ answer_of op steps

pub some-stays : AnswersStay → (op : ℕ) (old new added : List Step) → new ≡ old ++ added → IsSome (answer_of op old) → IsSome (answer_of op new)
some-stays law op old new added steps there = subst (λ (o : Option Outcome). IsSome o) (sym (ap (answer_of op) steps ∙ law op old added there)) there

-- A command whose tally has an answer was answered.
pub answered-by : (steps : List Step) (ts : List Tally) (op : ℕ) → AreTallies steps ts → op < length ts → ((t : Tally) → slice_get ts op ≡ Some t → IsSome t.answer) → IsSome (answer_of op steps)
answered-by steps ts op are there said = by (slice_get ts op) refl
  where
    by : (o : Option Tally) → slice_get ts op ≡ o → IsSome (answer_of op steps)
    by None e = absurd (none-beyond ts op there e)
    by (Some t) e = subst (λ (o : Option Outcome). IsSome o) (are op t e).answer (said t e)

-- One more command was answered.
pub answered-to : AnswersStay → (op : ℕ) (old new added : List Step) → new ≡ old ++ added → AreAnsweredTo op old → IsSome (answer_of op new) → AreAnsweredTo (op + 1) new
answered-to law op old new added steps ahead here = λ k below. elim (eqb_tells k op) [
  | inl w ↦ subst (λ (n : ℕ). IsSome (answer_of n new)) (sym w.1) here
  | inr w ↦ some-stays law k old new added steps (ahead k (omega (arith, below, w.1)))
]

-- All were.
pub answered-all : (commands : List Command) (count : ℕ) (steps : List Step) → length commands ≤ count → AreAnsweredTo count steps → AreAnswered commands steps
answered-all commands count steps le ahead = λ op command there. ahead op (omega (arith, le, place-below commands op command there))

-- What holds where memory was not wanting.
pub on-ok : {A B C : Type 0} (r : Result A B) → OnOk r C → IsOk r → C
on-ok (Ok a) holds is = holds
on-ok (Err e) holds is = absurd (let never : ⊥ = cc in never)
