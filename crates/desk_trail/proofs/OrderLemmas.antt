-- Moments, what must come next, and longer lists.
use Rattle.std.proofs.Common.{◌≡◌, ◌≤◌, ℕ, zero, suc, Bool, true, false, ◌&&◌, List, [], ◌∷◌, ◌++◌, length, take, drop, Option, None, Some, refl, sym, ap, ◌∙◌, subst, arith, ◌⊎◌, inl, inr}
use Rattle.std.specs.Prelude.{slice_get, is_some}
use Rattle.std.specs.Option.{option_map}
use Rattle.std.specs.List.{list_all}
use Rattle.std.proofs.lemmas.List.{append_assoc}
use Rattle.entry_judge.specs.declared.timed.Timed.{Timed}
use Rattle.entry_judge.specs.Groups.{entries_of}
use Rattle.entry_judge.specs.Judge.{Legal, state_after}
use Rattle.entry_judge.specs.LegalLaws.{Legal-rest}
use Rattle.entry_judge.specs.Moments.{NeverFalls}
use Rattle.desk_trail.specs.declared.entry.Entry.{Entry}
use Rattle.desk_trail.specs.declared.entry.Entry.TheVariants as entry
use Rattle.desk_trail.specs.declared.step.Step.{Step}
use Rattle.desk_trail.specs.Clients.{Client}
use Rattle.desk_trail.specs.Facts.{ArePlaced, Fact, Lists, fact_of, facts_of, timed_fact}
use Rattle.desk_trail.specs.Facts as fact
use Rattle.desk_trail.specs.Legal.{InTime, Point, StandsAt, owes, point_after}
use Rattle.desk_trail.specs.Orders.{ArePaid, Extends, is_time}
use Rattle.desk_trail.specs.Owed.{InTurn, IsHead, IsOwed, Owed, left_owed}

-- ---- The entry behind a front

pub last-stands : (client : Client) (p : Point) (ts : List (Timed Fact)) (t : Timed Fact) →
    Legal (StandsAt client) (point_after client) p (ts ++ t ∷ []) → StandsAt client (state_after (point_after client) p ts) t
last-stands client p ts t l = (Legal-rest (StandsAt client) (point_after client) p ts (t ∷ []) l).0

-- ---- Moments

InTime-rises : (owed : List Owed) (ahead moment : ℕ) → InTime owed ahead moment → ahead ≤ moment
InTime-rises [] ahead moment h = h
InTime-rises (d ∷ ds) ahead moment h = omega (arith, h)

pub never-falls : (client : Client) (p : Point) (ts : List (Timed Fact)) → Legal (StandsAt client) (point_after client) p ts → NeverFalls p.moment ts
never-falls client p [] l = tt
never-falls client p (t ∷ ts) l = (InTime-rises p.owed p.moment t.at l.0.time, never-falls client (point_after client p t) ts l.1)

InTime-once : (owed : List Owed) (ahead moment : ℕ) (d : Owed) (ds : List Owed) → owed ≡ d ∷ ds → InTime owed ahead moment → moment ≡ ahead
InTime-once owed ahead moment d ds e h = subst (λ o. InTime o ahead moment) e h

pub at-once : (client : Client) (p : Point) (t : Timed Fact) (d : Owed) (ds : List Owed) → StandsAt client p t → p.owed ≡ d ∷ ds → t.at ≡ p.moment
at-once client p t d ds s e = InTime-once p.owed p.moment t.at d ds e s.time

-- ---- What must come next

-- where it is no cluster time, an entry is the one that must come next, and then is owed no more
abbrev Pays : List Owed → Fact → Type 0
Pays [] f = IsHead f
Pays (d ∷ ds) f = IsOwed d f

turn : (owed : List Owed) (f : Fact) → InTurn owed f → (left_owed owed f ≡ owed) × (is_time f ≡ true) ⊎ (left_owed owed f ≡ drop 1 owed) × Pays owed f
turn owed (fact.Time stamp) h = inl (refl, refl)
turn [] f h = inr (refl, h)
turn (d ∷ ds) f h = inr (refl, h)

Pays-now : (owed : List Owed) (f : Fact) → InTurn owed f → is_time f ≡ false → Pays owed f
Pays-now owed f h n = elim (turn owed f h) [ inl w ↦ absurd (let t = w.1 in cc) | inr w ↦ w.1 ]

pub comes-next : (client : Client) (p : Point) (t : Timed Fact) (d : Owed) (ds : List Owed) → StandsAt client p t → p.owed ≡ d ∷ ds →
    is_time t.what ≡ false → IsOwed d t.what
comes-next client p t d ds s e n = subst (λ o. Pays o t.what) e (Pays-now p.owed t.what s.turn n)

pub is-head : (client : Client) (p : Point) (t : Timed Fact) → StandsAt client p t → p.owed ≡ [] → is_time t.what ≡ false → IsHead t.what
is-head client p t s e n = subst (λ o. Pays o t.what) e (Pays-now p.owed t.what s.turn n)

-- what is owed is paid, with more that is owed ahead of it
ArePaid-more : (ds : List Owed) (f : Fact) (fs : List Fact) → ArePaid ds fs → ArePaid ds (f ∷ fs)
ArePaid-more [] f fs h = tt
ArePaid-more (d ∷ ds) f fs h = inr h

ArePaid-one : (d : Owed) (ds : List Owed) (f : Fact) (fs : List Fact) → IsOwed d f → ArePaid ds fs → ArePaid (d ∷ ds) (f ∷ fs)
ArePaid-one d ds f fs i h = inl (i, h)

append-none : (xs ys : List Owed) → xs ++ ys ≡ [] → ys ≡ []
append-none [] ys e = e
append-none (x ∷ xs) ys e = absurd (cc)

paid-turn : (more base owed o : List Owed) (f : Fact) (fs : List Fact) → owed ≡ more ++ base → left_owed owed f ≡ drop 1 owed → Pays owed f →
    ((before behind : List Owed) → o ++ left_owed owed f ≡ before ++ behind → ArePaid behind fs) → ArePaid base (f ∷ fs)
paid-turn [] [] owed o f fs e w p ih = tt
paid-turn [] (d ∷ ds) owed o f fs e w p ih =
    ArePaid-one d ds f fs (subst (λ x. Pays x f) e p) (ih o ds (ap (λ x. o ++ x) (w ∙ ap (λ x. drop 1 x) e)))
paid-turn (m ∷ ms) base owed o f fs e w p ih =
    ArePaid-more base f fs (ih (o ++ ms) base (ap (λ x. o ++ x) (w ∙ ap (λ x. drop 1 x) e) ∙ sym (append_assoc o ms base)))

paid-step : (more base owed o : List Owed) (f : Fact) (fs : List Fact) → owed ≡ more ++ base → InTurn owed f →
    ((before behind : List Owed) → o ++ left_owed owed f ≡ before ++ behind → ArePaid behind fs) → ArePaid base (f ∷ fs)
paid-step more base owed o f fs e h ih = elim (turn owed f h) [
  | inl w ↦ ArePaid-more base f fs (ih (o ++ more) base (ap (λ x. o ++ x) (w.0 ∙ e) ∙ sym (append_assoc o more base)))
  | inr w ↦ paid-turn more base owed o f fs e w.0 w.1 ih
]

pub paid-behind : (client : Client) (p : Point) (more base : List Owed) (ts : List (Timed Fact)) → Legal (StandsAt client) (point_after client) p ts →
    p.owed ≡ more ++ base → (state_after (point_after client) p ts).owed ≡ [] → ArePaid base (entries_of ts)
paid-behind client p more base [] l e none = subst (λ ds. ArePaid ds []) (sym (append-none more base (sym e ∙ none))) tt
paid-behind client p more base (t ∷ ts) l e none =
    paid-step more base p.owed (owes client t.at p.state t.what) t.what (entries_of ts) e l.0.turn
    (λ before behind g. paid-behind client (point_after client p t) before behind ts l.1 g none)

-- ---- Longer lists

slice_get-longer : {A : Type 0} (xs ys : List A) (i : ℕ) (x : A) → take (length xs) ys ≡ xs → slice_get xs i ≡ Some x → slice_get ys i ≡ Some x
slice_get-longer [] ys i x e h = absurd (cc)
slice_get-longer (a ∷ more) [] i x e h = absurd (cc)
slice_get-longer (a ∷ more) (b ∷ bs) zero x e h = let same : b ≡ a = cc in ap (λ z. Some z) same ∙ h
slice_get-longer (a ∷ more) (b ∷ bs) (suc i) x e h = slice_get-longer more bs i x (let rest : take (length more) bs ≡ more = cc in rest) h

map-longer : {A B : Type 0} (g : A → B) (o p : Option A) (y : B) → ((x : A) → o ≡ Some x → p ≡ Some x) → option_map g o ≡ Some y → option_map g p ≡ Some y
map-longer g None p y k h = absurd (cc)
map-longer g (Some x) p y k h = ap (λ q. option_map g q) (k x refl) ∙ h

at-longer : {A B : Type 0} (g : A → B) (xs ys : List A) (i : ℕ) (y : B) → take (length xs) ys ≡ xs → option_map g (slice_get xs i) ≡ Some y →
    option_map g (slice_get ys i) ≡ Some y
at-longer g xs ys i y e h = map-longer g (slice_get xs i) (slice_get ys i) y (λ x k. slice_get-longer xs ys i x e k) h

fact-longer : (old new : Lists) → Extends old new → (e : Entry) (f : Fact) → fact_of old e ≡ Some f → fact_of new e ≡ Some f
fact-longer old new x (entry.Named host) f h = at-longer (λ a. fact.Named host a) old.names new.names host f x.names h
fact-longer old new x (entry.Offered event taken) f h = at-longer (λ e. fact.Offered event e taken) old.events new.events event f x.events h
fact-longer old new x (entry.Leased op session fresh) f h = at-longer (λ id. fact.Leased op session id fresh) old.sessions new.sessions session f x.sessions h
fact-longer old new x (entry.Asked request) f h = at-longer (λ r. fact.Asked request r) old.requests new.requests request f x.requests h
fact-longer old new x e f h = h

timed-longer : (old new : Lists) → Extends old new → (s : Step) (t : Timed Fact) → timed_fact old s ≡ Some t → timed_fact new s ≡ Some t
timed-longer old new x s t h =
    map-longer (λ (f : Fact). record { at = s.moment; what = f }) (fact_of old s.entry) (fact_of new s.entry) t (λ f k. fact-longer old new x s.entry f k) h

-- where something stands at a step's place, the same stands there by longer lists
same-timed : (o p : Option (Timed Fact)) → ((t : Timed Fact) → o ≡ Some t → p ≡ Some t) → is_some o ≡ true → p ≡ o
same-timed None p k h = absurd (cc)
same-timed (Some t) p k h = k t refl

and-parts : (a b : Bool) → (a && b) ≡ true → (a ≡ true) × (b ≡ true)
and-parts true b h = (refl, h)
and-parts false b h = absurd (cc)

pub facts-longer : (old new : Lists) → Extends old new → (steps : List Step) → ArePlaced old steps → facts_of new steps ≡ facts_of old steps
facts-longer old new x [] h = refl
facts-longer old new x (s ∷ ss) h =
    let w = and-parts (is_some (timed_fact old s)) (list_all (λ s. is_some (timed_fact old s)) ss) h in
    let here : timed_fact new s ≡ timed_fact old s = same-timed (timed_fact old s) (timed_fact new s) (timed-longer old new x s) w.0 in
    let rest : facts_of new ss ≡ facts_of old ss = facts-longer old new x ss w.1 in
    rw (here, rest) refl

pub placed-longer : (old new : Lists) → Extends old new → (steps : List Step) → ArePlaced old steps → ArePlaced new steps
placed-longer old new x [] h = refl
placed-longer old new x (s ∷ ss) h =
    let w = and-parts (is_some (timed_fact old s)) (list_all (λ s. is_some (timed_fact old s)) ss) h in
    let here : timed_fact new s ≡ timed_fact old s = same-timed (timed_fact old s) (timed_fact new s) (timed-longer old new x s) w.0 in
    rw (here, w.0) (placed-longer old new x ss w.1)
