-- An honest history goes on by one event that may follow it.
use Rattle.std.proofs.Common.{◌≡◌, ℕ, List, [], ◌∷◌, ◌++◌, Option, Some, None, refl, sym, ap, ◌∙◌, inl, inr, ◌⊎◌, subst, append_assoc, append-nil}
use Rattle.std.proofs.lemmas.List.Elements.{Contains-append_left}
use Rattle.std.specs.List.{slice_get}
use Rattle.msg_wire.specs.Messages.{messages, parting_of, parting_within}
use Rattle.msg_wire.specs.declared.message.Message.{Message}
use Rattle.net_link.specs.Events.{is_at}
use Rattle.net_link.specs.declared.event.NetEvent.{NetEvent}
use Rattle.net_link.specs.declared.event.NetEvent.TheVariants.{Dialled, Handled}
use Rattle.member_core.specs.Honest.{IsAnswer, IsDialled, IsHonest, MayFollow, MayHandle, WasPlain}
use Rattle.member_core.specs.Logs.{SetState, set_after}
use Rattle.member_core.proofs.Runs.{reply_one, request_later, set_after-nil}

-- ---- where an event stands in a history with one more

nil-cons : {X : Type 0} (before after : List X) (x : X) → [] ≡ before ++ x ∷ after → ⊥
nil-cons [] after x e = cc
nil-cons (y ∷ before) after x e = cc

nil-front : {X : Type 0} (before after : List X) → [] ≡ before ++ after → before ≡ []
nil-front [] after e = refl
nil-front (y ∷ before) after e = absurd cc

later_of : {X : Type 0} (y b : X) (ys bs : List X) (e x : X) → y ≡ b → ((bs ≡ ys) × (x ≡ e)) ⊎ ((rest : List X) × (ys ≡ bs ++ x ∷ rest))
    → ((b ∷ bs ≡ y ∷ ys) × (x ≡ e)) ⊎ ((rest : List X) × (y ∷ ys ≡ (b ∷ bs) ++ x ∷ rest))
later_of y b ys bs e x same where_is =
    elim where_is [
      | inl at ↦ inl ((λ i. sym same i ∷ at.0 i), at.1)
      | inr in_front ↦ inr (in_front.0, (λ i. same i ∷ in_front.1 i))
    ]

-- It is the last one, or stands among the others.
last_or_before : {X : Type 0} (history before after : List X) (e x : X) → history ++ e ∷ [] ≡ before ++ x ∷ after → ((before ≡ history) × (x ≡ e)) ⊎ ((rest : List X) × (history ≡ before ++ x ∷ rest))
last_or_before [] [] after e x is = let same : x ≡ e = cc in inl (refl, same)
last_or_before [] (b ∷ bs) after e x is = let none : [] ≡ bs ++ x ∷ after = cc in absurd (nil-cons bs after x none)
last_or_before (y ∷ ys) [] after e x is = let same : y ≡ x = cc in inr (ys, ap (λ z. z ∷ ys) same)
last_or_before (y ∷ ys) (b ∷ bs) after e x is =
    let head : y ≡ b = cc in
    let tail : ys ++ e ∷ [] ≡ bs ++ x ∷ after = cc in
    later_of y b ys bs e x head (last_or_before ys bs after e x tail)

-- A front of it is all of it, or a front of the others.
all_or_before : {X : Type 0} (history before after : List X) (e : X) → history ++ e ∷ [] ≡ before ++ after → (before ≡ history ++ e ∷ []) ⊎ ((rest : List X) × (history ≡ before ++ rest))
all_or_before history before [] e is = inl (sym (is ∙ append-nil before))
all_or_before history before (x ∷ after) e is =
    elim (last_or_before history before after e x is) [
      | inl at ↦ inr ([], sym at.0 ∙ sym (append-nil before))
      | inr in_front ↦ inr (x ∷ in_front.0, in_front.1)
    ]

-- ---- what stays said of a longer history

plain_later : (history : List NetEvent) (e : NetEvent) (s n : ℕ) → WasPlain history s n → WasPlain (history ++ e ∷ []) s n
plain_later history e s n p = record {
  before = p.before;
  after = p.after ++ e ∷ [];
  effect = p.effect;
  here = ap (λ l. l ++ e ∷ []) p.here ∙ append_assoc p.before (Handled ((set_after p.before).last) s n p.effect ∷ p.after) (e ∷ []);
  plain = p.plain;
}

pub answer_later : (history : List NetEvent) (e : NetEvent) (s n : ℕ) (reply : Message) → IsAnswer history s n reply → IsAnswer (history ++ e ∷ []) s n reply
answer_later history e s n reply a = record {
  member = a.member;
  effect = a.effect;
  handled = Contains-append_left history (e ∷ []) (Handled a.member s n a.effect) a.handled;
  request = a.request;
  whole = request_later history (e ∷ []) s n a.request a.whole;
  to = a.to;
  ok = λ write says. plain_later history e s n (a.ok write says);
}

-- ---- the empty history

messages-nil : messages [] ≡ []
unfolding parting_of parting_within
messages-nil = refl

pub honest-nil : IsHonest []
honest-nil = record {
  dialled_once = λ before after s address is. absurd (nil-cons before after (Dialled s address) is);
  dialled = λ before after e s is at. absurd (nil-cons before after e is);
  handled = λ before after m s n effect is. absurd (nil-cons before after (Handled m s n effect) is);
  answered = λ before after s n reply is whole.
      let came : (set_after before).came s ≡ [] = ap (λ h. (set_after h).came s) (nil-front before after is) ∙ ap (λ (w : SetState). w.came s) set_after-nil in
      let none : slice_get (messages ((set_after before).came s)) n ≡ None = ap (λ bytes. slice_get (messages bytes) n) came ∙ ap (λ (ms : List Message). slice_get ms n) messages-nil in
      let clash : None ≡ Some reply = sym none ∙ whole in
      absurd cc;
}

-- ---- one more event

answered_at : (history : List NetEvent) (e : NetEvent) → IsHonest history → MayFollow history e → (s n : ℕ) (reply : Message) (o : Option Message)
    → slice_get (messages ((set_after history).came s)) n ≡ o → slice_get (messages ((set_after (history ++ e ∷ [])).came s)) n ≡ Some reply → IsAnswer (history ++ e ∷ []) s n reply
answered_at history e honest may s n reply None none whole = may.answered s n reply whole none
answered_at history e honest may s n reply (Some old) was whole =
    let same : Some old ≡ Some reply = sym (reply_one history e s n old was) ∙ whole in
    let is_same : old ≡ reply = cc in
    answer_later history e s n reply (honest.answered history [] s n reply (sym (append-nil history)) (was ∙ same))

pub honest-more : (history : List NetEvent) (e : NetEvent) → IsHonest history → MayFollow history e → IsHonest (history ++ e ∷ [])
honest-more history e honest may = record {
  dialled_once = λ before after s address is.
      elim (last_or_before history before after e (Dialled s address) is) [
        | inl at ↦ λ dialled. may.dialled_once s address (sym at.1) (subst (λ h. IsDialled h s) at.0 dialled)
        | inr in_front ↦ honest.dialled_once before in_front.0 s address in_front.1
      ];
  dialled = λ before after x s is at_stream.
      elim (last_or_before history before after e x is) [
        | inl at ↦ subst (λ h. IsDialled h s) (λ i. sym at.0 i ++ sym at.1 i ∷ []) (may.dialled s (ap (λ y. is_at y s) (sym at.1) ∙ at_stream))
        | inr in_front ↦ honest.dialled before in_front.0 x s in_front.1 at_stream
      ];
  handled = λ before after m s n effect is.
      elim (last_or_before history before after e (Handled m s n effect) is) [
        | inl at ↦ subst (λ h. MayHandle h m s n effect) (sym at.0) (may.handled m s n effect (sym at.1))
        | inr in_front ↦ honest.handled before in_front.0 m s n effect in_front.1
      ];
  answered = λ before after s n reply is whole.
      elim (all_or_before history before after e is) [
        | inl all ↦ subst (λ h. IsAnswer h s n reply) (sym all)
            (answered_at history e honest may s n reply (slice_get (messages ((set_after history).came s)) n) refl (subst (λ h. slice_get (messages ((set_after h).came s)) n ≡ Some reply) all whole))
        | inr in_front ↦ honest.answered before in_front.0 s n reply in_front.1 whole
      ];
}
