-- What a history says of a stream, as calls add to it.
use Rattle.std.proofs.Common.{◌≡◌, ℕ, Bool, true, false, List, [], ◌∷◌, ◌++◌, refl, ap, sym, ◌∙◌, cond, eqb, eq-eqb, inl, inr, ◌⊎◌, subst, arith}
use Rattle.std.proofs.lemmas.List.Elements.{All-head, All-tail, Contains-append_right}
use Rattle.std.proofs.lemmas.Bool.Decides.{eqb_tells}
use Rattle.std.proofs.lemmas.List.Sums.{fold-append}
use Rattle.std.specs.List.{Contains, filter, fold}
use Rattle.net_link.specs.Events.{is_call, is_at, IsFresh, Adds}
use Rattle.net_link.specs.Seen.{Seen, unseen, with_event, after, seen}
use Rattle.net_link.specs.declared.event.NetEvent.{NetEvent}
use Rattle.net_link.specs.declared.event.NetEvent.TheVariants as event

-- Members' events say nothing of a stream.
pub after-member : (s : ℕ) (v : Seen) (e : NetEvent) → is_call e ≡ false → after s v e ≡ v
after-member s v (event.Handled m t n f) h = elim (eqb t s) as (λ b. cond b v v ≡ v) [ true ↦ refl | false ↦ refl ]
after-member s v (event.Elected m) h = refl
after-member s v (event.Followed m) h = refl
after-member s v (event.Dialled t a) h = cc
after-member s v (event.NoDial a) h = cc
after-member s v (event.Out t b) h = cc
after-member s v (event.Came t b) h = cc
after-member s v (event.Ended t) h = cc
after-member s v (event.Fault t) h = cc
after-member s v (event.Closed t) h = cc
after-member s v (event.Dry t) h = cc
after-member s v (event.Full t) h = cc

pub fold-after-filter : (s : ℕ) (h : List NetEvent) (v : Seen) → fold (after s) v h ≡ fold (after s) v (filter is_call h)
fold-after-filter s [] v = refl
fold-after-filter s (e ∷ h) v =
    elim (is_call e) as (λ b. is_call e ≡ b → fold (after s) (after s v e) h ≡ fold (after s) v (cond b (e ∷ filter is_call h) (filter is_call h))) [
      | true ↦ λ _. fold-after-filter s h (after s v e)
      | false ↦ λ member. rw (after-member s v e member) (fold-after-filter s h v)
    ] refl

-- A call's own events, one after another, behind what was seen.
pub seen-Adds : (s : ℕ) {events old new : List NetEvent} → Adds events old new → seen s new ≡ fold (after s) (seen s old) events
unfolding seen
seen-Adds s {events = events} {old = old} {new = new} adds =
    fold-after-filter s new unseen
    ∙ ap (fold (after s) unseen) adds.own
    ∙ fold-append (after s) unseen (filter is_call old) events
    ∙ ap (λ v. fold (after s) v events) (sym (fold-after-filter s old unseen))

pub fold-fresh : (s : ℕ) (h : List NetEvent) (v : Seen) → IsFresh s h → fold (after s) v h ≡ v
fold-fresh s [] v fresh = refl
fold-fresh s (e ∷ h) v fresh =
    let here : is_at e s ≡ false = All-head (λ x. is_at x s ≡ false) e h fresh in
    rw here (fold-fresh s h v (All-tail (λ x. is_at x s ≡ false) e h fresh))

-- Of a stream that no event names, nothing was seen.
pub seen-fresh : (s : ℕ) (h : List NetEvent) → IsFresh s h → seen s h ≡ unseen
unfolding seen
seen-fresh s h fresh = fold-fresh s h unseen fresh

pub seen-nil : (s : ℕ) → seen s [] ≡ unseen
unfolding seen
seen-nil s = refl

-- A call whose one event names the stream.
pub seen-one : (s : ℕ) (e : NetEvent) {old new : List NetEvent} → is_at e s ≡ true → Adds (e ∷ []) old new → seen s new ≡ with_event (seen s old) e
seen-one s e {old = old} here adds = seen-Adds s adds ∙ ap (λ b. cond b (with_event (seen s old) e) (seen s old)) here

-- A call whose one event names another stream, or none.
pub seen-other : (s : ℕ) (e : NetEvent) {old new : List NetEvent} → is_at e s ≡ false → Adds (e ∷ []) old new → seen s new ≡ seen s old
seen-other s e {old = old} here adds = seen-Adds s adds ∙ ap (λ b. cond b (with_event (seen s old) e) (seen s old)) here

-- A call without an event of its own.
pub seen-none : (s : ℕ) {old new : List NetEvent} → Adds [] old new → seen s new ≡ seen s old
seen-none s adds = seen-Adds s adds

pub seen-out : (s : ℕ) (bytes : List ℕ) {old new : List NetEvent} → Adds (event.Out s bytes ∷ []) old new
    → seen s new ≡ record (seen s old) { out = (seen s old).out ++ bytes; waits = false }
seen-out s bytes adds = seen-one s (event.Out s bytes) (eq-eqb s s refl) adds

pub seen-came : (s : ℕ) (bytes : List ℕ) {old new : List NetEvent} → Adds (event.Came s bytes ∷ []) old new
    → seen s new ≡ record (seen s old) { came = (seen s old).came ++ bytes; waits = false }
seen-came s bytes adds = seen-one s (event.Came s bytes) (eq-eqb s s refl) adds

pub seen-ended : (s : ℕ) {old new : List NetEvent} → Adds (event.Ended s ∷ []) old new → seen s new ≡ record (seen s old) { ended = true }
seen-ended s adds = seen-one s (event.Ended s) (eq-eqb s s refl) adds

pub seen-fault : (s : ℕ) {old new : List NetEvent} → Adds (event.Fault s ∷ []) old new → seen s new ≡ record (seen s old) { fault = true }
seen-fault s adds = seen-one s (event.Fault s) (eq-eqb s s refl) adds

pub seen-dry : (s : ℕ) {old new : List NetEvent} → Adds (event.Dry s ∷ []) old new → seen s new ≡ record (seen s old) { waits = true }
seen-dry s adds = seen-one s (event.Dry s) (eq-eqb s s refl) adds

pub seen-full : (s : ℕ) {old new : List NetEvent} → Adds (event.Full s ∷ []) old new → seen s new ≡ record (seen s old) { waits = true }
seen-full s adds = seen-one s (event.Full s) (eq-eqb s s refl) adds

pub seen-closed : (s t : ℕ) {old new : List NetEvent} → Adds (event.Closed t ∷ []) old new → seen s new ≡ seen s old
seen-closed s t {old = old} adds = seen-Adds s adds ∙ elim (eqb t s) as (λ b. cond b (seen s old) (seen s old) ≡ seen s old) [ true ↦ refl | false ↦ refl ]

pub seen-dialled : (s t : ℕ) (address : List ℕ) {old new : List NetEvent} → Adds (event.Dialled t address ∷ []) old new → seen s new ≡ seen s old
seen-dialled s t address {old = old} adds = seen-Adds s adds ∙ elim (eqb t s) as (λ b. cond b (seen s old) (seen s old) ≡ seen s old) [ true ↦ refl | false ↦ refl ]

pub seen-no_dial : (s : ℕ) (address : List ℕ) {old new : List NetEvent} → Adds (event.NoDial address ∷ []) old new → seen s new ≡ seen s old
seen-no_dial s address adds = seen-Adds s adds

Contains-head : (e : NetEvent) (h : List NetEvent) → Contains (e ∷ h) e
Contains-head e h = (0, omega arith, refl)

Contains-tail : (e x : NetEvent) (h : List NetEvent) → Contains h x → Contains (e ∷ h) x
Contains-tail e x h found = Contains-append_right (e ∷ []) h x found

-- An event that does not change what is read of a view left it so.
same-after : (read : Seen → Bool) (s : ℕ) (v : Seen) (e : NetEvent) → read (with_event v e) ≡ read v → read (after s v e) ≡ true → read v ≡ true
same-after read s v e same h =
    elim (is_at e s) as (λ b. read (cond b (with_event v e) v) ≡ true → read v ≡ true) [ true ↦ λ p. sym same ∙ p | false ↦ λ p. p ] h

-- Where an event leaves a stream ended, it was so before, or the event says it.
ended-after : (s : ℕ) (v : Seen) (e : NetEvent) → (after s v e).ended ≡ true → (v.ended ≡ true) ⊎ (e ≡ event.Ended s)
ended-after s v (event.Ended t) h = elim (eqb_tells t s) [ inl here ↦ inr (ap (λ n. event.Ended n) here.1) | inr there ↦ inl (rw there.0 at h) ]
ended-after s v e h = inl (same-after (λ w. w.ended) s v e refl h)

ended-fold : (s : ℕ) (h : List NetEvent) (v : Seen) → (fold (after s) v h).ended ≡ true → (v.ended ≡ true) ⊎ Contains h (event.Ended s)
ended-fold s [] v e = inl e
ended-fold s (x ∷ h) v e =
    elim (ended-fold s h (after s v x) e) [
      | inl now ↦ elim (ended-after s v x now) [ inl before ↦ inl before | inr is ↦ inr (subst (λ (y : NetEvent). Contains (y ∷ h) (event.Ended s)) (sym is) (Contains-head (event.Ended s) h)) ]
      | inr later ↦ inr (Contains-tail x (event.Ended s) h later)
    ]

-- Where a stream was seen to end, the event stands in the history.
pub ended-stands : (s : ℕ) (h : List NetEvent) → (seen s h).ended ≡ true → Contains h (event.Ended s)
unfolding seen
ended-stands s h e = elim (ended-fold s h unseen e) [ inl none ↦ cc | inr stands ↦ stands ]

-- Where an event leaves a stream with a fault, it was so before, or the event says it.
fault-after : (s : ℕ) (v : Seen) (e : NetEvent) → (after s v e).fault ≡ true → (v.fault ≡ true) ⊎ (e ≡ event.Fault s)
fault-after s v (event.Fault t) h = elim (eqb_tells t s) [ inl here ↦ inr (ap (λ n. event.Fault n) here.1) | inr there ↦ inl (rw there.0 at h) ]
fault-after s v e h = inl (same-after (λ w. w.fault) s v e refl h)

fault-fold : (s : ℕ) (h : List NetEvent) (v : Seen) → (fold (after s) v h).fault ≡ true → (v.fault ≡ true) ⊎ Contains h (event.Fault s)
fault-fold s [] v e = inl e
fault-fold s (x ∷ h) v e =
    elim (fault-fold s h (after s v x) e) [
      | inl now ↦ elim (fault-after s v x now) [ inl before ↦ inl before | inr is ↦ inr (subst (λ (y : NetEvent). Contains (y ∷ h) (event.Fault s)) (sym is) (Contains-head (event.Fault s) h)) ]
      | inr later ↦ inr (Contains-tail x (event.Fault s) h later)
    ]

-- Where a stream was seen to fail, the event stands in the history.
pub fault-stands : (s : ℕ) (h : List NetEvent) → (seen s h).fault ≡ true → Contains h (event.Fault s)
unfolding seen
fault-stands s h e = elim (fault-fold s h unseen e) [ inl none ↦ cc | inr stands ↦ stands ]
