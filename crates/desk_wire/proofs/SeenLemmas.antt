-- What a history says of a stream behind an exchange on it.
use Rattle.std.proofs.Common.{◌≡◌, ℕ, true, List, [], ◌∷◌, ◌++◌, refl, sym, ap, ◌∙◌, append_assoc, append-nil, eq-eqb, rules, eqb}
use Rattle.std.proofs.lemmas.List.Elements.{All-append, All-head, All-tail}
use Rattle.std.proofs.lemmas.List.Sums.{fold-append}
use Rattle.std.specs.List.{All, flat_map, fold}
use Rattle.net_link.specs.Events.{is_at}
use Rattle.net_link.specs.Seen.{Seen, seen, after}
use Rattle.net_link.specs.declared.event.NetEvent.{NetEvent}
use Rattle.net_link.specs.declared.event.NetEvent.TheVariants as event
use Rattle.net_link.proofs.SeenLemmas.{seen-Adds}
use Rattle.desk_wire.specs.Exchange.{exchange_end, waiting}
use Rattle.desk_wire.specs.Made.{bytes_in, bytes_out, is_turn, Made}
use Rattle.desk_wire.specs.declared.answers.Pulled.{Pulled}
use Rattle.desk_wire.specs.declared.answers.Pulled.TheVariants as pulled

-- So many more bytes went out and came.
pub record Moved (before now : Seen) (out came : List ℕ) : Type 0 where
  pub is_out : now.out ≡ before.out ++ out
  pub is_in : now.came ≡ before.came ++ came

turn-moves : (s : ℕ) (v : Seen) (e : NetEvent) → is_turn s e ≡ true → Moved v (after s v e) (bytes_out e) (bytes_in e)
turn-moves s v (event.Out t bytes) here = rw here (record { is_out = refl; is_in = sym (append-nil v.came) })
turn-moves s v (event.Came t bytes) here = rw here (record { is_out = sym (append-nil v.out); is_in = refl })
turn-moves s v (event.Full t) here = rw here (record { is_out = sym (append-nil v.out); is_in = sym (append-nil v.came) })
turn-moves s v (event.Dry t) here = rw here (record { is_out = sym (append-nil v.out); is_in = sym (append-nil v.came) })
turn-moves s v (event.Dialled t a) here = cc
turn-moves s v (event.NoDial a) here = cc
turn-moves s v (event.Ended t) here = cc
turn-moves s v (event.Fault t) here = cc
turn-moves s v (event.Closed t) here = cc
turn-moves s v (event.Handled m t n f) here = cc
turn-moves s v (event.Elected m) here = cc
turn-moves s v (event.Followed m) here = cc

pub turns-move : (s : ℕ) (v : Seen) (turns : List NetEvent) → All (λ e. is_turn s e ≡ true) turns → Moved v (fold (after s) v turns) (flat_map bytes_out turns) (flat_map bytes_in turns)
turns-move s v [] all = record { is_out = sym (append-nil v.out); is_in = sym (append-nil v.came) }
turns-move s v (e ∷ turns) all =
    let first = turn-moves s v e (All-head (λ x. is_turn s x ≡ true) e turns all) in
    let later = turns-move s (after s v e) turns (All-tail (λ x. is_turn s x ≡ true) e turns all) in
    record {
      is_out = later.is_out ∙ ap (λ (l : List ℕ). l ++ flat_map bytes_out turns) first.is_out ∙ append_assoc v.out (bytes_out e) (flat_map bytes_out turns);
      is_in = later.is_in ∙ ap (λ (l : List ℕ). l ++ flat_map bytes_in turns) first.is_in ∙ append_assoc v.came (bytes_in e) (flat_map bytes_in turns);
    }

itself : (s : ℕ) → eqb s s ≡ true
itself s = eq-eqb s s refl

-- The last answer moves nothing.
pub record Stays (before now : Seen) : Type 0 where
  pub is_out : now.out ≡ before.out
  pub is_in : now.came ≡ before.came

pub end-stays : (s : ℕ) (v : Seen) (unsent : List ℕ) (answer : Pulled) → Stays v (fold (after s) v (exchange_end s unsent answer))
end-stays s v unsent (pulled.Whole message) = record { is_out = refl; is_in = refl }
end-stays s v [] pulled.NotYet = rw (itself s) (record { is_out = refl; is_in = refl })
end-stays s v (x ∷ unsent) pulled.NotYet = rw (itself s) (record { is_out = refl; is_in = refl })
end-stays s v unsent pulled.End = rw (itself s) (record { is_out = refl; is_in = refl })
end-stays s v unsent pulled.Fault = rw (itself s) (record { is_out = refl; is_in = refl })
end-stays s v unsent (pulled.Bad first) = record { is_out = refl; is_in = refl }
end-stays s v unsent pulled.Memory = record { is_out = refl; is_in = refl }

end-here : (s : ℕ) (unsent : List ℕ) (answer : Pulled) → All (λ e. is_at e s ≡ true) (exchange_end s unsent answer)
end-here s unsent (pulled.Whole message) = search rules
end-here s [] pulled.NotYet = search (rules, itself s)
end-here s (x ∷ unsent) pulled.NotYet = search (rules, itself s)
end-here s unsent pulled.End = search (rules, itself s)
end-here s unsent pulled.Fault = search (rules, itself s)
end-here s unsent (pulled.Bad first) = search rules
end-here s unsent pulled.Memory = search rules

turn-here : (s : ℕ) (e : NetEvent) → is_turn s e ≡ true → is_at e s ≡ true
turn-here s (event.Out t bytes) here = here
turn-here s (event.Came t bytes) here = here
turn-here s (event.Full t) here = here
turn-here s (event.Dry t) here = here
turn-here s (event.Dialled t a) here = cc
turn-here s (event.NoDial a) here = cc
turn-here s (event.Ended t) here = cc
turn-here s (event.Fault t) here = cc
turn-here s (event.Closed t) here = cc
turn-here s (event.Handled m t n f) here = cc
turn-here s (event.Elected m) here = cc
turn-here s (event.Followed m) here = cc

turns-here : (s : ℕ) (turns : List NetEvent) → All (λ e. is_turn s e ≡ true) turns → All (λ e. is_at e s ≡ true) turns
turns-here s [] all = search rules
turns-here s (e ∷ turns) all =
    let first : is_at e s ≡ true = turn-here s e (All-head (λ x. is_turn s x ≡ true) e turns all) in
    let later : All (λ x. is_at x s ≡ true) turns = turns-here s turns (All-tail (λ x. is_turn s x ≡ true) e turns all) in
    search (rules, first, later)

-- All that was asked of the net names the stream.
pub made-here : (s : ℕ) (out came unsent : List ℕ) (answer : Pulled) {a b : List NetEvent} (made : Made (is_turn s) out came (exchange_end s unsent answer) a b)
    → All (λ e. is_at e s ≡ true) (made.turns ++ exchange_end s unsent answer)
made-here s out came unsent answer made =
    All-append (λ e. is_at e s ≡ true) made.turns (exchange_end s unsent answer) (turns-here s made.turns made.only) (end-here s unsent answer)

-- What is seen behind the exchange: its turns, and then its end.
seen-made : (s : ℕ) (out came unsent : List ℕ) (answer : Pulled) {a b : List NetEvent} (made : Made (is_turn s) out came (exchange_end s unsent answer) a b)
    → seen s b ≡ fold (after s) (fold (after s) (seen s a) made.turns) (exchange_end s unsent answer)
seen-made s out came unsent answer {a = a} made = seen-Adds s made.adds ∙ fold-append (after s) (seen s a) made.turns (exchange_end s unsent answer)

-- The bytes that went out and came are those that the exchange sent and took.
pub made-moves : (s : ℕ) (out came unsent : List ℕ) (answer : Pulled) {a b : List NetEvent} → Made (is_turn s) out came (exchange_end s unsent answer) a b → Moved (seen s a) (seen s b) out came
made-moves s out came unsent answer {a = a} made =
    let v : Seen = fold (after s) (seen s a) made.turns in
    let moves = turns-move s (seen s a) made.turns made.only in
    let stays = end-stays s v unsent answer in
    record {
      is_out = ap (λ w. w.out) (seen-made s out came unsent answer made) ∙ stays.is_out ∙ moves.is_out ∙ ap (λ (l : List ℕ). (seen s a).out ++ l) made.is_out;
      is_in = ap (λ w. w.came) (seen-made s out came unsent answer made) ∙ stays.is_in ∙ moves.is_in ∙ ap (λ (l : List ℕ). (seen s a).came ++ l) made.is_in;
    }

pub made-ended : (s : ℕ) (out came unsent : List ℕ) {a b : List NetEvent} → Made (is_turn s) out came (exchange_end s unsent pulled.End) a b → (seen s b).ended ≡ true
made-ended s out came unsent {a = a} made =
    ap (λ w. w.ended) (seen-made s out came unsent pulled.End made)
    ∙ (let is : (after s (fold (after s) (seen s a) made.turns) (event.Ended s)).ended ≡ true = rw (itself s) refl in is)

pub made-fault : (s : ℕ) (out came unsent : List ℕ) {a b : List NetEvent} → Made (is_turn s) out came (exchange_end s unsent pulled.Fault) a b → (seen s b).fault ≡ true
made-fault s out came unsent {a = a} made =
    ap (λ w. w.fault) (seen-made s out came unsent pulled.Fault made)
    ∙ (let is : (after s (fold (after s) (seen s a) made.turns) (event.Fault s)).fault ≡ true = rw (itself s) refl in is)

waiting-waits : (s : ℕ) (v : Seen) (unsent : List ℕ) → (after s v (waiting s unsent)).waits ≡ true
waiting-waits s v [] = rw (itself s) refl
waiting-waits s v (x ∷ unsent) = rw (itself s) refl

pub made-waits : (s : ℕ) (out came unsent : List ℕ) {a b : List NetEvent} → Made (is_turn s) out came (exchange_end s unsent pulled.NotYet) a b → (seen s b).waits ≡ true
made-waits s out came unsent {a = a} made =
    ap (λ w. w.waits) (seen-made s out came unsent pulled.NotYet made) ∙ waiting-waits s (fold (after s) (seen s a) made.turns) unsent
