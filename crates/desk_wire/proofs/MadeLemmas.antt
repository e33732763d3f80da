-- Calls of a net, one after another.
use Rattle.std.proofs.Common.{◌≡◌, ℕ, Bool, true, List, [], ◌∷◌, ◌++◌, refl, sym, ap, ◌∙◌, subst, append_assoc, append-nil, eq-eqb, rules}
use Rattle.std.proofs.lemmas.Grind.{flat_map-append}
use Rattle.std.proofs.lemmas.List.Elements.{All-append, All-head, All-tail}
use Rattle.std.specs.List.{All, flat_map}
use Rattle.net_link.specs.Events.{Adds}
use Rattle.net_link.specs.declared.event.NetEvent.{NetEvent}
use Rattle.net_link.specs.declared.event.NetEvent.TheVariants as event
use Rattle.net_link.proofs.EventLemmas.{Adds-none, Adds-trans}
use Rattle.desk_wire.specs.Made.{Made, bytes_in, bytes_out, is_read, is_turn, is_write}

pub Made-none : (kind : NetEvent → Bool) (h : List NetEvent) → Made kind [] [] [] h h
Made-none kind h = record { turns = []; adds = Adds-none h; only = search rules; is_out = refl; is_in = refl }

-- A call whose answer is the last.
pub Made-last : (kind : NetEvent → Bool) (last : List NetEvent) {a b : List NetEvent} → Adds last a b → Made kind [] [] last a b
Made-last kind last adds = record { turns = []; adds = adds; only = search rules; is_out = refl; is_in = refl }

-- A call of the kind.
pub Made-one : (kind : NetEvent → Bool) (e : NetEvent) (out came : List ℕ) {a b : List NetEvent} → kind e ≡ true → bytes_out e ≡ out → bytes_in e ≡ came → Adds (e ∷ []) a b → Made kind out came [] a b
Made-one kind e out came of_kind is_out is_in adds = record {
  turns = e ∷ [];
  adds = adds;
  only = search (rules, of_kind);
  is_out = append-nil (bytes_out e) ∙ is_out;
  is_in = append-nil (bytes_in e) ∙ is_in;
}

pub Made-trans : (kind : NetEvent → Bool) (out came more_out more_came : List ℕ) (last : List NetEvent) {a b c : List NetEvent} → Made kind out came [] a b
    → Made kind more_out more_came last b c → Made kind (out ++ more_out) (came ++ more_came) last a c
Made-trans kind out came more_out more_came last {a = a} {c = c} p q = record {
  turns = p.turns ++ q.turns;
  adds =
      let same : (p.turns ++ []) ++ (q.turns ++ last) ≡ (p.turns ++ q.turns) ++ last
      = ap (λ (l : List NetEvent). l ++ (q.turns ++ last)) (append-nil p.turns) ∙ sym (append_assoc p.turns q.turns last) in
      subst (λ (l : List NetEvent). Adds l a c) same (Adds-trans p.adds q.adds);
  only = All-append (λ e. kind e ≡ true) p.turns q.turns p.only q.only;
  is_out = flat_map-append bytes_out p.turns q.turns ∙ ap (λ (l : List ℕ). l ++ flat_map bytes_out q.turns) p.is_out ∙ ap (λ (l : List ℕ). out ++ l) q.is_out;
  is_in = flat_map-append bytes_in p.turns q.turns ∙ ap (λ (l : List ℕ). l ++ flat_map bytes_in q.turns) p.is_in ∙ ap (λ (l : List ℕ). came ++ l) q.is_in;
}

-- The last answer is of the kind.
pub Made-joined : (kind : NetEvent → Bool) (e : NetEvent) (out came : List ℕ) {a b : List NetEvent} → kind e ≡ true → bytes_out e ≡ [] → bytes_in e ≡ []
    → Made kind out came (e ∷ []) a b → Made kind out came [] a b
Made-joined kind e out came {a = a} {b = b} of_kind no_out no_in p = record {
  turns = p.turns ++ e ∷ [];
  adds = subst (λ (l : List NetEvent). Adds l a b) (sym (append-nil (p.turns ++ e ∷ []))) p.adds;
  only = All-append (λ x. kind x ≡ true) p.turns (e ∷ []) p.only (search (rules, of_kind));
  is_out = flat_map-append bytes_out p.turns (e ∷ []) ∙ ap (λ (l : List ℕ). flat_map bytes_out p.turns ++ (l ++ [])) no_out ∙ append-nil (flat_map bytes_out p.turns) ∙ p.is_out;
  is_in = flat_map-append bytes_in p.turns (e ∷ []) ∙ ap (λ (l : List ℕ). flat_map bytes_in p.turns ++ (l ++ [])) no_in ∙ append-nil (flat_map bytes_in p.turns) ∙ p.is_in;
}

pub All-wider : (p q : NetEvent → Bool) → ((e : NetEvent) → p e ≡ true → q e ≡ true) → (events : List NetEvent) → All (λ e. p e ≡ true) events → All (λ e. q e ≡ true) events
All-wider p q wider [] all = search rules
All-wider p q wider (e ∷ events) all =
    let here : q e ≡ true = wider e (All-head (λ x. p x ≡ true) e events all) in
    let there : All (λ x. q x ≡ true) events = All-wider p q wider events (All-tail (λ x. p x ≡ true) e events all) in
    search (rules, here, there)

-- Calls of a kind are of a wider one.
pub Made-wider : (kind wider : NetEvent → Bool) {out came : List ℕ} {last a b : List NetEvent} → ((e : NetEvent) → kind e ≡ true → wider e ≡ true) → Made kind out came last a b → Made wider out came last a b
Made-wider kind wider more p = record { turns = p.turns; adds = p.adds; only = All-wider kind wider more p.turns p.only; is_out = p.is_out; is_in = p.is_in }

pub turn-write : (s : ℕ) (e : NetEvent) → is_write s e ≡ true → is_turn s e ≡ true
turn-write s (event.Out t bytes) here = here
turn-write s (event.Dialled t a) here = cc
turn-write s (event.NoDial a) here = cc
turn-write s (event.Came t b) here = cc
turn-write s (event.Ended t) here = cc
turn-write s (event.Fault t) here = cc
turn-write s (event.Closed t) here = cc
turn-write s (event.Dry t) here = cc
turn-write s (event.Full t) here = cc
turn-write s (event.Handled m t n f) here = cc
turn-write s (event.Elected m) here = cc
turn-write s (event.Followed m) here = cc

pub turn-read : (s : ℕ) (e : NetEvent) → is_read s e ≡ true → is_turn s e ≡ true
turn-read s (event.Came t bytes) here = here
turn-read s (event.Dialled t a) here = cc
turn-read s (event.NoDial a) here = cc
turn-read s (event.Out t b) here = cc
turn-read s (event.Ended t) here = cc
turn-read s (event.Fault t) here = cc
turn-read s (event.Closed t) here = cc
turn-read s (event.Dry t) here = cc
turn-read s (event.Full t) here = cc
turn-read s (event.Handled m t n f) here = cc
turn-read s (event.Elected m) here = cc
turn-read s (event.Followed m) here = cc

pub at_itself : (s : ℕ) → (let is : Bool = is_write s (event.Out s []) in is) ≡ true
at_itself s = eq-eqb s s refl
