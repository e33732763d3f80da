-- Turns of an exchange, one after another.
use Rattle.std.proofs.Common.{◌≡◌, ◌≢◌, ℕ, true, List, [], ◌∷◌, ◌++◌, refl, sym, ap, ◌∙◌, subst, append_assoc, append-nil, eq-eqb}
use Rattle.net_link.specs.declared.event.NetEvent.{NetEvent}
use Rattle.net_link.specs.declared.event.NetEvent.TheVariants as event
use Rattle.desk_wire.specs.Exchange.{Exchanges, MustWait, Trades, exchange_end, waiting}
use Rattle.desk_wire.specs.Made.{InOrder, Made, bytes_in, bytes_out, is_read, is_turn, is_write}
use Rattle.desk_wire.specs.Pull.{HandsOut, Pulls, pull_end}
use Rattle.desk_wire.specs.Push.{Pushes}
use Rattle.desk_wire.specs.State.{State}
use Rattle.desk_wire.specs.declared.answers.Pulled.{Pulled}
use Rattle.desk_wire.specs.declared.answers.Pulled.TheVariants as pulled
use Rattle.desk_wire.specs.declared.answers.Pushed.TheVariants as pushed
use Rattle.desk_wire.proofs.OrderLemmas.{InOrder-both, InOrder-none, InOrder-push, InOrder-trans, InOrder-waited}
use Rattle.desk_wire.proofs.PushLemmas.{nothing_left}
use Rattle.desk_wire.proofs.MadeLemmas.{Made-joined, Made-none, Made-trans, Made-wider, turn-read, turn-write}

pub Exchanges-none : (tells : Type 0) (w : State) (h : List NetEvent) → Exchanges tells w w h h pulled.Memory
Exchanges-none tells w h = record {
  sent = [];
  came = [];
  joined = refl;
  behind = λ some. refl;
  gives = sym (append-nil w.held);
  told = λ t. Made-none (is_turn w.stream) h;
  order = λ t. InOrder-none w.stream w.unsent h;
}

Trades-at : (bytes other : List ℕ) (w : State) (answer : Pulled) → bytes ≡ other → Trades bytes w answer → Trades other w answer
Trades-at bytes other w answer same trades = subst (λ (l : List ℕ). Trades l w answer) same trades

-- A turn behind others that brought nothing yet.
pub Exchanges-trans : (tells : Type 0) (u v w : State) (a b c : List NetEvent) (answer : Pulled) → v.stream ≡ u.stream → Exchanges tells u v a b pulled.Memory
    → Exchanges tells v w b c answer → Exchanges tells u w a c answer
Exchanges-trans tells u v w a b c answer at p q = record {
  sent = p.sent ++ q.sent;
  came = p.came ++ q.came;
  joined = append_assoc p.sent q.sent w.unsent ∙ ap (λ (l : List ℕ). p.sent ++ l) q.joined ∙ p.joined;
  behind = λ some.
      let before : v.unsent ≢ [] = λ none. some (nothing_left q.sent w.unsent (q.joined ∙ none)) in
      ap (λ (l : List ℕ). l ++ q.came) (p.behind before) ∙ q.behind some;
  gives = Trades-at (v.held ++ q.came) (u.held ++ (p.came ++ q.came)) w answer (ap (λ (l : List ℕ). l ++ q.came) p.gives ∙ append_assoc u.held p.came q.came) q.gives;
  told = λ t.
      let later : Made (is_turn u.stream) q.sent q.came (exchange_end u.stream w.unsent answer) b c
      = subst (λ (s : ℕ). Made (is_turn s) q.sent q.came (exchange_end s w.unsent answer) b c) at (q.told t) in
      Made-trans (is_turn u.stream) p.sent p.came q.sent q.came (exchange_end u.stream w.unsent answer) (p.told t) later;
  order = λ t.
      let later : InOrder u.stream v.unsent w.unsent (exchange_end u.stream w.unsent answer) b c
      = subst (λ (s : ℕ). InOrder s v.unsent w.unsent (exchange_end s w.unsent answer) b c) at (q.order t) in
      InOrder-trans u.stream u.unsent v.unsent w.unsent (exchange_end u.stream w.unsent answer) (λ none. nothing_left p.sent v.unsent (p.joined ∙ none))
      (λ none. nothing_left q.sent w.unsent (q.joined ∙ none)) (p.order t) later;
}

waiting-turn : (s : ℕ) (unsent : List ℕ) → is_turn s (waiting s unsent) ≡ true
waiting-turn s [] = eq-eqb s s refl
waiting-turn s (x ∷ unsent) = eq-eqb s s refl

waiting-out : (s : ℕ) (unsent : List ℕ) → bytes_out (waiting s unsent) ≡ []
waiting-out s [] = refl
waiting-out s (x ∷ unsent) = refl

waiting-in : (s : ℕ) (unsent : List ℕ) → bytes_in (waiting s unsent) ≡ []
waiting-in s [] = refl
waiting-in s (x ∷ unsent) = refl

-- A turn that brought nothing yet is one of those before the next.
pub Exchanges-waited : (tells : Type 0) (u v : State) (a b : List NetEvent) → Exchanges tells u v a b pulled.NotYet → Exchanges tells u v a b pulled.Memory
Exchanges-waited tells u v a b p = record {
  sent = p.sent;
  came = p.came;
  joined = p.joined;
  behind = p.behind;
  gives = p.gives.0;
  told = λ t.
      Made-joined (is_turn u.stream) (waiting u.stream v.unsent) p.sent p.came (waiting-turn u.stream v.unsent) (waiting-out u.stream v.unsent) (waiting-in u.stream v.unsent) (p.told t);
  order = λ t. InOrder-waited u.stream u.unsent v.unsent (λ none. nothing_left p.sent v.unsent (p.joined ∙ none)) (p.order t);
}

waiting-full : (s : ℕ) (unsent : List ℕ) → unsent ≢ [] → waiting s unsent ≡ event.Full s
waiting-full s [] some = absurd (some refl)
waiting-full s (x ∷ unsent) some = refl

-- A push that did not send all.
pub Exchanges-full : (tells : Type 0) (u v : State) (a b : List NetEvent) → v.held ≡ u.held → v.unsent ≢ [] → Pushes tells u.stream u.unsent v.unsent a b pushed.NotYet
    → Exchanges tells u v a b pulled.NotYet
Exchanges-full tells u v a b same some p = record {
  sent = p.sent;
  came = [];
  joined = p.joined;
  behind = λ _. refl;
  gives = (same ∙ sym (append-nil u.held), λ none. absurd (some none));
  told = λ t. rw (waiting-full u.stream v.unsent some) (Made-wider (is_write u.stream) (is_turn u.stream) (turn-write u.stream) (p.told t));
  order = λ t. rw (waiting-full u.stream v.unsent some) (InOrder-push u.stream u.unsent v.unsent p.sent (event.Full u.stream ∷ []) (p.told t) (p.idle t));
}

pub Exchanges-fault : (tells : Type 0) (u v : State) (a b : List NetEvent) → v.held ≡ u.held → v.unsent ≢ [] → Pushes tells u.stream u.unsent v.unsent a b pushed.Fault
    → Exchanges tells u v a b pulled.Fault
Exchanges-fault tells u v a b same some p = record {
  sent = p.sent;
  came = [];
  joined = p.joined;
  behind = λ _. refl;
  gives = (same ∙ sym (append-nil u.held), λ none. absurd (some none));
  told = λ t. Made-wider (is_write u.stream) (is_turn u.stream) (turn-write u.stream) (p.told t);
  order = λ t. InOrder-push u.stream u.unsent v.unsent p.sent (event.Fault u.stream ∷ []) (p.told t) (p.idle t);
}

pub Exchanges-memory : (tells : Type 0) (u v : State) (a b : List NetEvent) → v.held ≡ u.held → Pushes tells u.stream u.unsent v.unsent a b pushed.Memory
    → Exchanges tells u v a b pulled.Memory
Exchanges-memory tells u v a b same p = record {
  sent = p.sent;
  came = [];
  joined = p.joined;
  behind = λ _. refl;
  gives = same ∙ sym (append-nil u.held);
  told = λ t. Made-wider (is_write u.stream) (is_turn u.stream) (turn-write u.stream) (p.told t);
  order = λ t. InOrder-push u.stream u.unsent v.unsent p.sent [] (p.told t) (p.idle t);
}

-- What a pull hands out where all is sent.
Trades-pulled : (bytes : List ℕ) (w : State) (answer : Pulled) → w.unsent ≡ [] → HandsOut bytes w.held answer → Trades bytes w answer
Trades-pulled bytes w (pulled.Whole message) none hands = (hands.0, hands.1, none)
Trades-pulled bytes w pulled.NotYet none hands = (hands.0, λ _. hands.1)
Trades-pulled bytes w pulled.End none hands = (hands.0, hands.1, none)
Trades-pulled bytes w pulled.Fault none hands = (hands.0, λ _. hands.1)
Trades-pulled bytes w (pulled.Bad first) none hands = (hands.0, hands.1, none)
Trades-pulled bytes w pulled.Memory none hands = hands.0

pub end-pulled : (s : ℕ) (unsent : List ℕ) (answer : Pulled) → unsent ≡ [] → exchange_end s unsent answer ≡ pull_end s answer
end-pulled s unsent (pulled.Whole message) none = refl
end-pulled s unsent pulled.NotYet none = ap (λ (l : List ℕ). waiting s l ∷ []) none
end-pulled s unsent pulled.End none = refl
end-pulled s unsent pulled.Fault none = refl
end-pulled s unsent (pulled.Bad first) none = refl
end-pulled s unsent pulled.Memory none = refl

-- A push that sent all, and a pull behind it.
pub Exchanges-pulled : (tells : Type 0) (u v w : State) (a b c : List NetEvent) (inbox_before inbox_now : List ℕ) (ended : Type 0) (answer : Pulled) → v.stream ≡ u.stream → v.held ≡ u.held
    → v.unsent ≡ [] → w.unsent ≡ v.unsent → Pushes tells u.stream u.unsent v.unsent a b pushed.Done → Pulls tells v.stream v.held w.held b c inbox_before inbox_now ended answer
    → Exchanges tells u w a c answer
Exchanges-pulled tells u v w a b c inbox_before inbox_now ended answer at same all kept p q =
    let none : w.unsent ≡ [] = kept ∙ all in
    record {
      sent = p.sent;
      came = q.came;
      joined = ap (λ (l : List ℕ). p.sent ++ l) kept ∙ p.joined;
      behind = λ some. absurd (some none);
      gives = Trades-pulled (u.held ++ q.came) w answer none (subst (λ (l : List ℕ). HandsOut (l ++ q.came) w.held answer) same q.gives);
      told = λ t.
          let wrote : Made (is_turn u.stream) p.sent [] [] a b = Made-wider (is_write u.stream) (is_turn u.stream) (turn-write u.stream) (p.told t) in
          let reads : Made (is_read u.stream) [] q.came (pull_end u.stream answer) b c
          = subst (λ (s : ℕ). Made (is_read s) [] q.came (pull_end s answer) b c) at (q.told t) in
          let read : Made (is_turn u.stream) [] q.came (pull_end u.stream answer) b c = Made-wider (is_read u.stream) (is_turn u.stream) (turn-read u.stream) reads in
          let both : Made (is_turn u.stream) (p.sent ++ []) q.came (pull_end u.stream answer) a c
          = Made-trans (is_turn u.stream) p.sent [] [] q.came (pull_end u.stream answer) wrote read in
          let last : Made (is_turn u.stream) p.sent q.came (pull_end u.stream answer) a c
          = subst (λ (l : List ℕ). Made (is_turn u.stream) l q.came (pull_end u.stream answer) a c) (append-nil p.sent) both in
          subst (λ (l : List NetEvent). Made (is_turn u.stream) p.sent q.came l a c) (sym (end-pulled u.stream w.unsent answer none)) last;
      order = λ t.
          let reads : Made (is_read u.stream) [] q.came (pull_end u.stream answer) b c
          = subst (λ (s : ℕ). Made (is_read s) [] q.came (pull_end s answer) b c) at (q.told t) in
          let both : InOrder u.stream u.unsent w.unsent (pull_end u.stream answer) a c
          = InOrder-both u.stream u.unsent w.unsent p.sent q.came (pull_end u.stream answer) none (p.told t) (p.idle t) reads in
          subst (λ (l : List NetEvent). InOrder u.stream u.unsent w.unsent l a c) (sym (end-pulled u.stream w.unsent answer none)) both;
    }

-- Why a turn had to wait: a push that did not send all, and a pull behind one that did.
pub MustWait-full : (unsent : List ℕ) (full : Type 0) (inbox : List ℕ) (ended : Type 0) → unsent ≢ [] → full → MustWait unsent full inbox ended
MustWait-full [] full inbox ended some is_full = absurd (some refl)
MustWait-full (x ∷ unsent) full inbox ended some is_full = is_full

pub MustWait-dry : (unsent : List ℕ) (full : Type 0) (inbox : List ℕ) (ended : Type 0) → unsent ≡ [] → (inbox ≡ []) × ¬ ended → MustWait unsent full inbox ended
MustWait-dry unsent full inbox ended none dry = subst (λ (l : List ℕ). MustWait l full inbox ended) (sym none) dry
