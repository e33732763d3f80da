-- What a call asked of the net concerned its stream, and what the stream's view gained.
use Rattle.std.proofs.Common.{◌≡◌, ℕ, true, List, [], ◌∷◌, ◌++◌, refl, sym, ap, ◌∙◌, subst, eq-eqb, eqb}
use Rattle.std.proofs.lemmas.List.Sums.{fold-append}
use Rattle.std.specs.List.{fold}
use Rattle.net_link.specs.Events.{OnlyAt}
use Rattle.net_link.specs.Seen.{SaidNotYet, Seen, after, gained, unseen}
use Rattle.net_link.specs.declared.event.NetEvent.{NetEvent}
use Rattle.net_link.proofs.GainLemmas.{gained-events}
use Rattle.desk_wire.specs.Exchange.{exchange_end}
use Rattle.desk_wire.specs.Gains.{Gains, turned_as}
use Rattle.desk_wire.specs.Made.{Made, is_read, is_turn, is_write}
use Rattle.desk_wire.specs.Pull.{pull_end}
use Rattle.desk_wire.specs.Push.{push_end}
use Rattle.desk_wire.specs.declared.answers.Pulled.{Pulled}
use Rattle.desk_wire.specs.declared.answers.Pulled.TheVariants as pulled
use Rattle.desk_wire.specs.declared.answers.Pushed.{Pushed}
use Rattle.desk_wire.specs.declared.answers.Pushed.TheVariants as pushed
use Rattle.desk_wire.proofs.MadeLemmas.{Made-wider, turn-read, turn-write}
use Rattle.desk_wire.proofs.SeenLemmas.{end-stays, made-here, turns-move}
use Rattle.desk_wire.proofs.TradeLemmas.{end-pulled}

-- All that a turn, an exchange, a push or a pull asked of the net concerned its stream.
pub OnlyAt-made : (s : ℕ) (out came unsent : List ℕ) (answer : Pulled) {a b : List NetEvent} → Made (is_turn s) out came (exchange_end s unsent answer) a b → OnlyAt s a b
OnlyAt-made s out came unsent answer made = record { events = made.turns ++ exchange_end s unsent answer; adds = made.adds; here = made-here s out came unsent answer made }

-- A pull is a turn where all is sent.
pub turn-pulled : (s : ℕ) (came : List ℕ) (answer : Pulled) {a b : List NetEvent} → Made (is_read s) [] came (pull_end s answer) a b → Made (is_turn s) [] came (exchange_end s [] answer) a b
turn-pulled s came answer {a = a} {b = b} made =
    let wider : Made (is_turn s) [] came (pull_end s answer) a b = Made-wider (is_read s) (is_turn s) (turn-read s) made in
    subst (λ (l : List NetEvent). Made (is_turn s) [] came l a b) (sym (end-pulled s [] answer refl)) wider

end-pushed : (s : ℕ) (answer : Pushed) → exchange_end s (0 ∷ []) (turned_as answer) ≡ push_end s answer
end-pushed s pushed.Done = refl
end-pushed s pushed.NotYet = refl
end-pushed s pushed.Fault = refl
end-pushed s pushed.Memory = refl

pub turn-pushed : (s : ℕ) (sent : List ℕ) (answer : Pushed) {a b : List NetEvent} → Made (is_write s) sent [] (push_end s answer) a b
    → Made (is_turn s) sent [] (exchange_end s (0 ∷ []) (turned_as answer)) a b
turn-pushed s sent answer {a = a} {b = b} made =
    let wider : Made (is_turn s) sent [] (push_end s answer) a b = Made-wider (is_write s) (is_turn s) (turn-write s) made in
    subst (λ (l : List NetEvent). Made (is_turn s) sent [] l a b) (sym (end-pushed s answer)) wider

itself : (s : ℕ) → eqb s s ≡ true
itself s = eq-eqb s s refl

end-ended : (s : ℕ) (v : Seen) (unsent : List ℕ) (answer : Pulled) → answer ≡ pulled.End → (fold (after s) v (exchange_end s unsent answer)).ended ≡ true
end-ended s v unsent (pulled.Whole message) is = absurd cc
end-ended s v unsent pulled.NotYet is = absurd cc
end-ended s v unsent pulled.End is = rw (itself s) refl
end-ended s v unsent pulled.Fault is = absurd cc
end-ended s v unsent (pulled.Bad first) is = absurd cc
end-ended s v unsent pulled.Memory is = absurd cc

end-fault : (s : ℕ) (v : Seen) (unsent : List ℕ) (answer : Pulled) → answer ≡ pulled.Fault → (fold (after s) v (exchange_end s unsent answer)).fault ≡ true
end-fault s v unsent (pulled.Whole message) is = absurd cc
end-fault s v unsent pulled.NotYet is = absurd cc
end-fault s v unsent pulled.End is = absurd cc
end-fault s v unsent pulled.Fault is = rw (itself s) refl
end-fault s v unsent (pulled.Bad first) is = absurd cc
end-fault s v unsent pulled.Memory is = absurd cc

end-waits : (s : ℕ) (v : Seen) (unsent : List ℕ) (answer : Pulled) → answer ≡ pulled.NotYet → (fold (after s) v (exchange_end s unsent answer)).waits ≡ true
end-waits s v unsent (pulled.Whole message) is = absurd cc
end-waits s v [] pulled.NotYet is = rw (itself s) refl
end-waits s v (x ∷ unsent) pulled.NotYet is = rw (itself s) refl
end-waits s v unsent pulled.End is = absurd cc
end-waits s v unsent pulled.Fault is = absurd cc
end-waits s v unsent (pulled.Bad first) is = absurd cc
end-waits s v unsent pulled.Memory is = absurd cc

gained-made : (s : ℕ) (out came unsent : List ℕ) (answer : Pulled) {a b : List NetEvent} (made : Made (is_turn s) out came (exchange_end s unsent answer) a b)
    → gained s a b ≡ fold (after s) (fold (after s) unseen made.turns) (exchange_end s unsent answer)
gained-made s out came unsent answer made = gained-events s made.adds ∙ fold-append (after s) unseen made.turns (exchange_end s unsent answer)

-- What the stream's view gained.
pub Gains-made : (s : ℕ) (out came unsent : List ℕ) (answer : Pulled) {a b : List NetEvent} → Made (is_turn s) out came (exchange_end s unsent answer) a b → Gains s out came answer a b
Gains-made s out came unsent answer made =
    let v : Seen = fold (after s) unseen made.turns in
    let is = gained-made s out came unsent answer made in
    let moves = turns-move s unseen made.turns made.only in
    let stays = end-stays s v unsent answer in
    record {
      is_out = ap (λ w. w.out) is ∙ stays.is_out ∙ moves.is_out ∙ made.is_out;
      is_in = ap (λ w. w.came) is ∙ stays.is_in ∙ moves.is_in ∙ made.is_in;
      ended = λ e. ap (λ w. w.ended) is ∙ end-ended s v unsent answer e;
      fault = λ e. ap (λ w. w.fault) is ∙ end-fault s v unsent answer e;
      waits = λ e. record { grows = made.adds.grows; last = ap (λ w. w.waits) is ∙ end-waits s v unsent answer e };
    }

-- Where a turn's answer is that there is nothing yet, the net said so in this call.
pub SaidNotYet-made : (s : ℕ) (out came unsent : List ℕ) {a b : List NetEvent} → Made (is_turn s) out came (exchange_end s unsent pulled.NotYet) a b → SaidNotYet s a b
SaidNotYet-made s out came unsent made = (Gains-made s out came unsent pulled.NotYet made).waits refl
