-- Calls on one stream say nothing of another.
use Rattle.std.proofs.Common.{◌≡◌, ◌≢◌, ℕ, true, false, List, [], ◌∷◌, ◌++◌, refl, sym, ◌∙◌, subst, eqb, ne_eqb, eqb-true, rules}
use Rattle.std.proofs.lemmas.List.Elements.{All-append, All-head, All-tail}
use Rattle.std.specs.List.{All, fold}
use Rattle.net_link.specs.Events.{is_at, Adds, OnlyAt, StayAt}
use Rattle.net_link.specs.Seen.{Seen, after, seen}
use Rattle.net_link.specs.declared.event.NetEvent.{NetEvent}
use Rattle.net_link.specs.declared.event.NetEvent.TheVariants as event
use Rattle.net_link.proofs.EventLemmas.{Adds-none, Adds-trans}
use Rattle.net_link.proofs.SeenLemmas.{seen-Adds}

number-apart : (u s t : ℕ) → eqb u s ≡ true → t ≢ s → eqb u t ≡ false
number-apart u s t here apart = ne_eqb u t (λ same. apart (sym same ∙ eqb-true u s here))

-- An event of one stream is none of another.
pub at-apart : (e : NetEvent) (s t : ℕ) → is_at e s ≡ true → t ≢ s → is_at e t ≡ false
at-apart (event.Dialled u a) s t here apart = number-apart u s t here apart
at-apart (event.NoDial a) s t here apart = refl
at-apart (event.Out u b) s t here apart = number-apart u s t here apart
at-apart (event.Came u b) s t here apart = number-apart u s t here apart
at-apart (event.Ended u) s t here apart = number-apart u s t here apart
at-apart (event.Fault u) s t here apart = number-apart u s t here apart
at-apart (event.Closed u) s t here apart = number-apart u s t here apart
at-apart (event.Dry u) s t here apart = number-apart u s t here apart
at-apart (event.Full u) s t here apart = number-apart u s t here apart
at-apart (event.Handled m u n f) s t here apart = number-apart u s t here apart
at-apart (event.Elected m) s t here apart = refl
at-apart (event.Followed m) s t here apart = refl

-- Events of one stream leave another one's view as it was.
pub fold-elsewhere : (s t : ℕ) (events : List NetEvent) (v : Seen) → All (λ e. is_at e s ≡ true) events → t ≢ s → fold (after t) v events ≡ v
fold-elsewhere s t [] v here apart = refl
fold-elsewhere s t (e ∷ events) v here apart =
    let first : is_at e t ≡ false = at-apart e s t (All-head (λ x. is_at x s ≡ true) e events here) apart in
    rw first (fold-elsewhere s t events v (All-tail (λ x. is_at x s ≡ true) e events here) apart)

pub seen-elsewhere : (s t : ℕ) {old new : List NetEvent} → OnlyAt s old new → t ≢ s → seen t new ≡ seen t old
seen-elsewhere s t {old = old} only apart = seen-Adds t only.adds ∙ fold-elsewhere s t only.events (seen t old) only.here apart

-- No call, one call, and calls one after another.
pub OnlyAt-none : (s : ℕ) (h : List NetEvent) → OnlyAt s h h
OnlyAt-none s h = record { events = []; adds = Adds-none h; here = search rules }

pub OnlyAt-one : (s : ℕ) (e : NetEvent) {old new : List NetEvent} → is_at e s ≡ true → Adds (e ∷ []) old new → OnlyAt s old new
OnlyAt-one s e here adds = record { events = e ∷ []; adds = adds; here = search (rules, here) }

pub OnlyAt-trans : {s : ℕ} {a b c : List NetEvent} → OnlyAt s a b → OnlyAt s b c → OnlyAt s a c
OnlyAt-trans {s = s} p q = record {
  events = p.events ++ q.events;
  adds = Adds-trans p.adds q.adds;
  here = All-append (λ e. is_at e s ≡ true) p.events q.events p.here q.here;
}

-- Any list of calls on one stream.
pub OnlyAt-all : (s : ℕ) (old : List NetEvent) (between : List (List NetEvent)) (new : List NetEvent) → StayAt s old between new → OnlyAt s old new
OnlyAt-all s old [] new same = subst (λ (h : List NetEvent). OnlyAt s old h) same (OnlyAt-none s old)
OnlyAt-all s old (h ∷ later) new calls = OnlyAt-trans calls.0 (OnlyAt-all s h later new calls.1)
