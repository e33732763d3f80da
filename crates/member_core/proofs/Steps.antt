-- Which events may follow an honest history, by their kinds.
use Rattle.std.proofs.Common.{◌≡◌, ℕ, Bool, true, false, List, [], ◌∷◌, ◌++◌, Some, None, cond, eqb, refl, sym, ap, ◌∙◌, subst, arith}
use Rattle.std.proofs.lemmas.Bool.{eqb-true, eq-eqb}
use Rattle.std.proofs.lemmas.List.Elements.{Contains-append_left, Contains-append_right}
use Rattle.std.specs.List.{Contains, slice_get}
use Rattle.msg_wire.specs.Messages.{messages}
use Rattle.msg_wire.specs.declared.message.Message.{Message}
use Rattle.net_link.specs.declared.event.Effect.{Effect}
use Rattle.net_link.specs.declared.event.NetEvent.{NetEvent}
use Rattle.net_link.specs.declared.event.NetEvent.TheVariants as event
use Rattle.member_core.specs.Honest.{IsAnswer, IsDialled, MayFollow, MayHandle}
use Rattle.member_core.specs.Logs.{SetState, entry_at, after_event, set_after}
use Rattle.member_core.proofs.Growth.{answer_later}
use Rattle.member_core.proofs.Runs.{handled-came, set_after-more}

Contains-last : (history : List NetEvent) (e : NetEvent) → Contains (history ++ e ∷ []) e
Contains-last history e = Contains-append_right history (e ∷ []) e (0, omega arith, refl)

dialled_later : (history : List NetEvent) (e : NetEvent) (s : ℕ) → IsDialled history s → IsDialled (history ++ e ∷ []) s
dialled_later history e s d = (d.0, Contains-append_left history (e ∷ []) (event.Dialled s d.0) d.1)

-- The event is of this stream, which was dialled.
dialled_at : (history : List NetEvent) (e : NetEvent) (s t : ℕ) → IsDialled history s → eqb s t ≡ true → IsDialled (history ++ e ∷ []) t
dialled_at history e s t d at = subst (λ k. IsDialled (history ++ e ∷ []) k) (eqb-true s t at) (dialled_later history e s d)

-- Where nothing came, no reply is new.
nothing_came : (history : List NetEvent) (e : NetEvent) (t n : ℕ) (reply : Message) → (after_event (set_after history) e).came t ≡ (set_after history).came t
    → slice_get (messages ((set_after (history ++ e ∷ [])).came t)) n ≡ Some reply → slice_get (messages ((set_after history).came t)) n ≡ None → ⊥
nothing_came history e t n reply same whole none =
    let now : (set_after (history ++ e ∷ [])).came t ≡ (set_after history).came t = ap (λ (w : SetState). w.came t) (set_after-more history e) ∙ same in
    let clash : Some reply ≡ None = sym whole ∙ ap (λ bytes. slice_get (messages bytes) n) now ∙ none in
    cc

pub may_dial : (history : List NetEvent) (s : ℕ) (address : List ℕ) → ((t : ℕ) → IsDialled history t → eqb s t ≡ false) → MayFollow history (event.Dialled s address)
may_dial history s address fresh = record {
  dialled_once = λ t a e d. let same : s ≡ t = cc in let clash : false ≡ true = sym (fresh t d) ∙ eq-eqb s t same in cc;
  dialled = λ t at. subst (λ k. IsDialled (history ++ event.Dialled s address ∷ []) k) (eqb-true s t at) (address, Contains-last history (event.Dialled s address));
  handled = λ m t n effect e. absurd (let clash : ⊥ = cc in clash);
  answered = λ t n reply whole none. absurd (nothing_came history (event.Dialled s address) t n reply refl whole none);
}

pub may_write : (history : List NetEvent) (s : ℕ) (bytes : List ℕ) → IsDialled history s → MayFollow history (event.Out s bytes)
may_write history s bytes d = record {
  dialled_once = λ t a e there. cc;
  dialled = λ t at. dialled_at history (event.Out s bytes) s t d at;
  handled = λ m t n effect e. absurd (let clash : ⊥ = cc in clash);
  answered = λ t n reply whole none. absurd (nothing_came history (event.Out s bytes) t n reply refl whole none);
}

abbrev MayHandleAs : List NetEvent → NetEvent → Type 0
MayHandleAs history (event.Handled m s n effect) = MayHandle history m s n effect
MayHandleAs history _ = Unit {0}

pub may_handle : (history : List NetEvent) (m s n : ℕ) (effect : Effect) → IsDialled history s → MayHandle history m s n effect → MayFollow history (event.Handled m s n effect)
may_handle history m s n effect d may = record {
  dialled_once = λ t a e there. cc;
  dialled = λ t at. dialled_at history (event.Handled m s n effect) s t d at;
  handled = λ m' s' n' effect' e. subst (MayHandleAs history) e may;
  answered = λ t k reply whole none. absurd (nothing_came history (event.Handled m s n effect) t k reply (ap (λ (f : ℕ → List ℕ). f t) (handled-came (set_after history) m (entry_at (set_after history) s n) effect)) whole none);
}

pub may_elect : (history : List NetEvent) (m : ℕ) → MayFollow history (event.Elected m)
may_elect history m = record {
  dialled_once = λ t a e there. cc;
  dialled = λ t at. cc;
  handled = λ k t n effect e. absurd (let clash : ⊥ = cc in clash);
  answered = λ t n reply whole none. absurd (nothing_came history (event.Elected m) t n reply refl whole none);
}

came_at : (history : List NetEvent) (s : ℕ) (bytes : List ℕ) → ((n : ℕ) (reply : Message) → slice_get (messages ((set_after history).came s ++ bytes)) n ≡ Some reply → IsAnswer history s n reply)
    → (t n : ℕ) (reply : Message) (b : Bool) → eqb t s ≡ b → slice_get (messages (cond b ((set_after history).came s ++ bytes) ((set_after history).came t))) n ≡ Some reply
    → slice_get (messages ((set_after history).came t)) n ≡ None → IsAnswer history t n reply
came_at history s bytes answers t n reply true at whole none = subst (λ k. IsAnswer history k n reply) (sym (eqb-true t s at)) (answers n reply whole)
came_at history s bytes answers t n reply false at whole none = absurd (let clash : Some reply ≡ None = sym whole ∙ none in let never : ⊥ = cc in never)

pub may_come : (history : List NetEvent) (s : ℕ) (bytes : List ℕ) → IsDialled history s
    → ((n : ℕ) (reply : Message) → slice_get (messages ((set_after history).came s ++ bytes)) n ≡ Some reply → IsAnswer history s n reply) → MayFollow history (event.Came s bytes)
may_come history s bytes d answers = record {
  dialled_once = λ t a e there. cc;
  dialled = λ t at. dialled_at history (event.Came s bytes) s t d at;
  handled = λ m t n effect e. absurd (let clash : ⊥ = cc in clash);
  answered = λ t n reply whole none.
      let now : (set_after (history ++ event.Came s bytes ∷ [])).came t ≡ cond (eqb t s) ((set_after history).came s ++ bytes) ((set_after history).came t) = ap (λ (w : SetState). w.came t) (set_after-more history (event.Came s bytes)) in
      answer_later history (event.Came s bytes) t n reply
      (came_at history s bytes answers t n reply (eqb t s) refl (ap (λ l. slice_get (messages l) n) (sym now) ∙ whole) none);
}
