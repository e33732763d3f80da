-- Writes of what is unsent, one after another.
use Rattle.std.proofs.Common.{◌≡◌, ◌≢◌, ◌<◌, ℕ, length, arith, List, [], ◌∷◌, ◌++◌, take, drop, refl, sym, ap, ◌∙◌, subst, append_assoc}
use Rattle.std.proofs.lemmas.List.{take-append-drop}
use Rattle.net_link.specs.Calls.{write_events}
use Rattle.net_link.specs.Events.{Adds}
use Rattle.net_link.specs.declared.net.Wrote.{Wrote}
use Rattle.net_link.specs.declared.net.Wrote.TheVariants as wrote
use Rattle.net_link.specs.declared.event.NetEvent.{NetEvent}
use Rattle.net_link.specs.declared.event.NetEvent.TheVariants as event
use Rattle.net_link.proofs.EventLemmas.{Adds-none, Adds-trans}
use Rattle.desk_wire.specs.Made.{is_write}
use Rattle.desk_wire.specs.Push.{Pushes, push_end}
use Rattle.desk_wire.specs.State.{State}
use Rattle.desk_wire.specs.Steps.{after_write}
use Rattle.desk_wire.specs.declared.answers.Pushed.{Pushed}
use Rattle.desk_wire.specs.declared.answers.Pushed.TheVariants as pushed
use Rattle.desk_wire.proofs.MadeLemmas.{Made-last, Made-none, Made-one, Made-trans, at_itself}

pub Pushes-none : (tells : Type 0) (s : ℕ) (unsent : List ℕ) (h : List NetEvent) → Pushes tells s unsent unsent h h pushed.Memory
Pushes-none tells s unsent h = record { sent = []; joined = refl; told = λ t. Made-none (is_write s) h; idle = λ t none. Adds-none h }

some-unsent : (unsent : List ℕ) → 0 < length unsent → unsent ≢ []
some-unsent unsent some none = omega (arith, some, ap length none)

-- A write that took the front.
Pushes-took : (tells : Type 0) (s n : ℕ) (unsent : List ℕ) {a b : List NetEvent} → 0 < length unsent → (tells → Adds (event.Out s (take n unsent) ∷ []) a b)
    → Pushes tells s unsent (drop n unsent) a b pushed.Memory
Pushes-took tells s n unsent some told = record {
  sent = take n unsent;
  joined = take-append-drop n unsent;
  told = λ t. Made-one (is_write s) (event.Out s (take n unsent)) (take n unsent) [] (at_itself s) refl refl (told t);
  idle = λ t none. absurd (some-unsent unsent some none);
}

-- A write that took nothing.
Pushes-last : (tells : Type 0) (s : ℕ) (unsent : List ℕ) (answer : Pushed) {a b : List NetEvent} → 0 < length unsent → (tells → Adds (push_end s answer) a b)
    → Pushes tells s unsent unsent a b answer
Pushes-last tells s unsent answer some told = record {
  sent = [];
  joined = refl;
  told = λ t. Made-last (is_write s) (push_end s answer) (told t);
  idle = λ t none. absurd (some-unsent unsent some none);
}

-- Where nothing was unsent, nothing is.
pub nothing_left : (sent rest : List ℕ) → sent ++ rest ≡ [] → rest ≡ []
nothing_left [] rest none = none
nothing_left (x ∷ sent) rest none = cc

Pushes-trans : (tells : Type 0) (s : ℕ) (u v w : List ℕ) (answer : Pushed) {a b c : List NetEvent} → Pushes tells s u v a b pushed.Memory → Pushes tells s v w b c answer
    → Pushes tells s u w a c answer
Pushes-trans tells s u v w answer p q = record {
  sent = p.sent ++ q.sent;
  joined = append_assoc p.sent q.sent w ∙ ap (λ (l : List ℕ). p.sent ++ l) q.joined ∙ p.joined;
  told = λ t. Made-trans (is_write s) p.sent [] q.sent [] (push_end s answer) (p.told t) (q.told t);
  idle = λ t none. Adds-trans (p.idle t none) (q.idle t (nothing_left p.sent v (p.joined ∙ none)));
}

-- All is sent.
pub Pushes-done : {tells : Type 0} {s : ℕ} {u v : List ℕ} {a b : List NetEvent} → Pushes tells s u v a b pushed.Memory → Pushes tells s u v a b pushed.Done
Pushes-done p = record { sent = p.sent; joined = p.joined; told = p.told; idle = p.idle }

-- The answer that a write's answer is, where it took nothing.
abbrev pub pushed_as : Wrote → Pushed
pushed_as (wrote.Took n) = pushed.Memory
pushed_as wrote.NotYet = pushed.NotYet
pushed_as wrote.Failed = pushed.Fault
pushed_as wrote.Memory = pushed.Memory

-- A wire of which only what is unsent changed.
abbrev pub SameBut : State → State → Type 0
SameBut old new = let now : State = record old { unsent = new.unsent } in new ≡ now

write-once : (tells : Type 0) (s : ℕ) (w z : State) (answer : Wrote) {a b : List NetEvent} → 0 < length w.unsent → z ≡ after_write w answer
    → (tells → Adds (write_events s w.unsent answer) a b) → Pushes tells s w.unsent z.unsent a b (pushed_as answer)
write-once tells s w z (wrote.Took n) {a = a} {b = b} some after told =
    subst (λ (l : List ℕ). Pushes tells s w.unsent l a b pushed.Memory) (sym (ap (λ x. x.unsent) after)) (Pushes-took tells s n w.unsent some told)
write-once tells s w z wrote.NotYet {a = a} {b = b} some after told =
    subst (λ (l : List ℕ). Pushes tells s w.unsent l a b pushed.NotYet) (sym (ap (λ x. x.unsent) after)) (Pushes-last tells s w.unsent pushed.NotYet some told)
write-once tells s w z wrote.Failed {a = a} {b = b} some after told =
    subst (λ (l : List ℕ). Pushes tells s w.unsent l a b pushed.Fault) (sym (ap (λ x. x.unsent) after)) (Pushes-last tells s w.unsent pushed.Fault some told)
write-once tells s w z wrote.Memory {a = a} {b = b} some after told =
    subst (λ (l : List ℕ). Pushes tells s w.unsent l a b pushed.Memory) (sym (ap (λ x. x.unsent) after)) (Pushes-last tells s w.unsent pushed.Memory some told)

-- One more write of a wire.
pub Pushes-next : (tells : Type 0) (u w z : State) (answer : Wrote) (a b c : List NetEvent) → 0 < length w.unsent → SameBut u w → z ≡ after_write w answer
    → (tells → Adds (write_events w.stream w.unsent answer) b c) → Pushes tells u.stream u.unsent w.unsent a b pushed.Memory
    → Pushes tells u.stream u.unsent z.unsent a c (pushed_as answer)
Pushes-next tells u w z answer a b c some kept after told before =
    let at : w.stream ≡ u.stream = ap (λ x. x.stream) kept in
    let here : Pushes tells u.stream w.unsent z.unsent b c (pushed_as answer)
    = subst (λ (s : ℕ). Pushes tells s w.unsent z.unsent b c (pushed_as answer)) at (write-once tells w.stream w z answer some after told) in
    Pushes-trans tells u.stream u.unsent w.unsent z.unsent (pushed_as answer) before here
