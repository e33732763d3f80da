-- A turn on a stream, and a push: what the net told, and what of it was heard.
use Rattle.std.specs.Prelude.{IfSome, IsSome}
use Rattle.std.proofs.Common.{◌≡◌, ◌≢◌, ℕ, ℤ, Bool, true, false, List, [], ◌∷◌, ◌++◌, Option, None, Some, refl, sym, ap, ◌∙◌, subst, append_assoc, append-nil, arith}
use Rattle.msg_wire.specs.Fronts.{IsFront, IsRefused}
use Rattle.msg_wire.specs.Messages.{Begins}
use Rattle.msg_wire.proofs.Partings.{Begins-more}
use Rattle.net_link.specs.Seen.{seen}
use Rattle.net_link.specs.declared.event.NetEvent.{NetEvent}
use Rattle.desk_wire.specs.Exchange.{Exchanges, Trades, exchange_end}
use Rattle.desk_wire.specs.Gains.{turned_as}
use Rattle.desk_wire.specs.Made.{Made, is_turn, is_write}
use Rattle.desk_wire.specs.Push.{Pushes}
use Rattle.desk_wire.specs.State.{State}
use Rattle.desk_wire.specs.declared.answers.Pulled.{Pulled}
use Rattle.desk_wire.specs.declared.answers.Pulled.TheVariants as pulled
use Rattle.desk_wire.specs.declared.answers.Pushed.{Pushed}
use Rattle.desk_wire.specs.declared.answers.Pushed.TheVariants as pushed
use Rattle.wired_trail.specs.Turns.{Sends}
use Rattle.desk_wire.proofs.GainLemmas.{OnlyAt-made, turn-pushed}
use Rattle.desk_wire.proofs.MadeLemmas.{Made-none}
use Rattle.desk_wire.proofs.SeenLemmas.{made-ended, made-fault, made-moves, made-waits}
use Rattle.net_link.specs.Events.{OnlyAt}
use Rattle.net_link.proofs.EventLemmas.{Adds-none}
use Rattle.desk_trail.specs.declared.request.Request.{Request}
use Rattle.desk_trail.specs.Streams.{Account}
use Rattle.wired_trail.specs.Hearing.{Gave, Heard}
use Rattle.wired_trail.specs.Inside.{Fits, Holds, Waits, pending_behind}
use Rattle.wired_trail.specs.Wired.{bytes_answered, bytes_of}
use Rattle.wired_trail.specs.declared.lines.Line.{Line}
use Rattle.wired_trail.proofs.FitLemmas.{Heard-wired}

-- ---- What the bytes are behind a turn

-- what is held is a front where no byte came, or where all was sent
front-behind : (held came unsent now : List ℕ) → IsFront held → now ≡ held ++ came → (unsent ≡ [] → IsFront now) → (unsent ≢ [] → came ≡ []) → IsFront now
front-behind held came [] now front is idle behind = idle refl
front-behind held came (x ∷ xs) now front is idle behind =
    subst IsFront (sym (is ∙ ap (λ (l : List ℕ). held ++ l) (behind (λ e. cc)) ∙ append-nil held)) front

gave : (s : ℕ) (before now : State) (old new : List NetEvent) (answer : Pulled) (sent came front : List ℕ) (r : Request) → IsFront before.held →
    (now.unsent ≢ [] → came ≡ []) → Trades (before.held ++ came) now answer → Made (is_turn s) sent came (exchange_end s now.unsent answer) old new →
    front ++ now.unsent ≡ r.bytes → Gave answer (seen s new) r front (before.held ++ came)
gave s before now old new (pulled.Whole m) sent came front r asks behind trades made cut =
    (trades.0, sym (append-nil front) ∙ ap (λ (l : List ℕ). front ++ l) (sym trades.2) ∙ cut)
gave s before now old new pulled.NotYet sent came front r asks behind trades made cut =
    (subst IsFront trades.0 (front-behind before.held came now.unsent now.held asks trades.0 trades.1 behind), made-waits s sent came now.unsent made)
gave s before now old new pulled.End sent came front r asks behind trades made cut =
    (subst IsFront trades.0 trades.1, made-ended s sent came now.unsent made)
gave s before now old new pulled.Fault sent came front r asks behind trades made cut =
    (subst IsFront trades.0 (front-behind before.held came now.unsent now.held asks trades.0 trades.1 behind), made-fault s sent came now.unsent made)
gave s before now old new (pulled.Bad first) sent came front r asks behind trades made cut =
    subst (λ (l : List ℕ). IsRefused l first) trades.0 trades.1
gave s before now old new pulled.Memory sent came front r asks behind trades made cut = tt

-- what a turn heard
pub heard : (tells : Type 0) (s : ℕ) (before now : State) (old new : List NetEvent) (answer : Pulled) (id : ℤ) (a : Account) → tells → before.stream ≡ s →
    Exchanges tells before now old new answer → Holds before (seen s old) a → Waits id a → Heard answer id (seen s new) a
heard tells s before now old new answer id a t own e h w =
    let made : Made (is_turn s) e.sent e.came (exchange_end s now.unsent answer) old new
    = subst (λ n. Made (is_turn n) e.sent e.came (exchange_end n now.unsent answer) old new) own (e.told t) in
    let moves = made-moves s e.sent e.came now.unsent answer made in
    let cut : (h.front ++ e.sent) ++ now.unsent ≡ w.request.bytes
    = append_assoc h.front e.sent now.unsent ∙ ap (λ (l : List ℕ). h.front ++ l) e.joined ∙ h.cut ∙ ap bytes_of w.waits in
    record {
      request = w.request;
      waits = w.waits;
      same = w.same;
      going = h.going;
      answers = h.answers;
      rest = before.held ++ e.came;
      front = h.front ++ e.sent;
      came = subst (λ (l : List ℕ). Begins l h.answers (before.held ++ e.came)) (sym moves.is_in) (Begins-more (seen s old).came h.answers before.held e.came h.came);
      said = h.said;
      out = moves.is_out ∙ ap (λ (l : List ℕ). l ++ e.sent) h.out ∙ append_assoc (bytes_answered a.answered) h.front e.sent;
      cut = record { more = now.unsent; joined = cut };
      gave = gave s before now old new answer e.sent e.came (h.front ++ e.sent) w.request h.asks_on e.behind e.gives made cut;
    }

-- ---- What is kept of the stream behind it

turned-holds : (tells : Type 0) (s : ℕ) (before now : State) (old new : List NetEvent) (a : Account) → tells → before.stream ≡ s → Exchanges tells before now old new pulled.NotYet →
    Holds before (seen s old) a → Holds now (seen s new) a
turned-holds tells s before now old new a t own e h =
    let made : Made (is_turn s) e.sent e.came (exchange_end s now.unsent pulled.NotYet) old new
    = subst (λ n. Made (is_turn n) e.sent e.came (exchange_end n now.unsent pulled.NotYet) old new) own (e.told t) in
    let moves = made-moves s e.sent e.came now.unsent pulled.NotYet made in
    let begins : Begins (seen s new).came h.answers (before.held ++ e.came)
    = subst (λ (l : List ℕ). Begins l h.answers (before.held ++ e.came)) (sym moves.is_in) (Begins-more (seen s old).came h.answers before.held e.came h.came) in
    record {
      answers = h.answers;
      front = h.front ++ e.sent;
      came = subst (Begins (seen s new).came h.answers) (sym e.gives.0) begins;
      said = h.said;
      out = moves.is_out ∙ ap (λ (l : List ℕ). l ++ e.sent) h.out ∙ append_assoc (bytes_answered a.answered) h.front e.sent;
      cut = append_assoc h.front e.sent now.unsent ∙ ap (λ (l : List ℕ). h.front ++ l) e.joined ∙ h.cut;
      going = h.going;
      asks_on = front-behind before.held e.came now.unsent now.held h.asks_on e.gives.0 e.gives.1 e.behind;
    }

-- the wire goes on, or its message is to be told, or nothing more is asked
pub turned-fits : (tells : Type 0) (s : ℕ) (before now : State) (old new : List NetEvent) (answer : Pulled) (id : ℤ) (a : Account) → tells → before.stream ≡ s →
    Exchanges tells before now old new answer → Holds before (seen s old) a → Waits id a → Fits (pending_behind answer id) now (seen s new) a
turned-fits tells s before now old new (pulled.Whole m) id a t own e h w =
    (Heard-wired (pulled.Whole m) id (seen s new) a (heard tells s before now old new (pulled.Whole m) id a t own e h w), e.gives.1, e.gives.2)
turned-fits tells s before now old new pulled.NotYet id a t own e h w = (turned-holds tells s before now old new a t own e h, w)
turned-fits tells s before now old new pulled.End id a t own e h w = Heard-wired pulled.End id (seen s new) a (heard tells s before now old new pulled.End id a t own e h w)
turned-fits tells s before now old new pulled.Fault id a t own e h w = Heard-wired pulled.Fault id (seen s new) a (heard tells s before now old new pulled.Fault id a t own e h w)
turned-fits tells s before now old new (pulled.Bad f) id a t own e h w = Heard-wired (pulled.Bad f) id (seen s new) a (heard tells s before now old new (pulled.Bad f) id a t own e h w)
turned-fits tells s before now old new pulled.Memory id a t own e h w = Heard-wired pulled.Memory id (seen s new) a (heard tells s before now old new pulled.Memory id a t own e h w)

-- ---- A turn that does nothing

pub idle-turn : (tells : Type 0) (w : State) (h : List NetEvent) → Exchanges tells w w h h pulled.Memory
idle-turn tells w h = record {
  sent = [];
  came = [];
  joined = refl;
  behind = λ e. refl;
  gives = sym (append-nil w.held);
  told = λ t. Made-none (is_turn w.stream) h;
  order = λ t. record { writes = []; reads = []; adds = Adds-none h; only_writes = λ k d q. absurd (omega (arith, q)); only_reads = λ k d q. absurd (omega (arith, q)); idle = λ e. refl; behind = λ e. refl };
}

-- ---- A push

pub pushed-holds : (tells : Type 0) (s : ℕ) (w : State) (rest : List ℕ) (shut : Bool) (old new : List NetEvent) (answer : Pushed) (a : Account) → tells →
    Pushes tells s w.unsent rest old new answer → Holds w (seen s old) a → Holds (record w { unsent = rest; is_shut = shut }) (seen s new) a
pushed-holds tells s w rest shut old new answer a t p h =
    let moves = made-moves s p.sent [] (0 ∷ []) (turned_as answer) (turn-pushed s p.sent answer (p.told t)) in
    record {
      answers = h.answers;
      front = h.front ++ p.sent;
      came = subst (λ (l : List ℕ). Begins l h.answers w.held) (sym (moves.is_in ∙ append-nil (seen s old).came)) h.came;
      said = h.said;
      out = moves.is_out ∙ ap (λ (l : List ℕ). l ++ p.sent) h.out ∙ append_assoc (bytes_answered a.answered) h.front p.sent;
      cut = append_assoc h.front p.sent rest ∙ ap (λ (l : List ℕ). h.front ++ l) p.joined ∙ h.cut;
      going = h.going;
      asks_on = h.asks_on;
    }

pub turn-only : (tells : Type 0) (s : ℕ) (before now : State) (old new : List NetEvent) (answer : Pulled) → tells → before.stream ≡ s →
    Exchanges tells before now old new answer → OnlyAt s old new
turn-only tells s before now old new answer t own e =
    OnlyAt-made s e.sent e.came now.unsent answer (subst (λ n. Made (is_turn n) e.sent e.came (exchange_end n now.unsent answer) old new) own (e.told t))

pub push-only : (tells : Type 0) (s : ℕ) (unsent rest : List ℕ) (old new : List NetEvent) (answer : Pushed) → tells → Pushes tells s unsent rest old new answer → OnlyAt s old new
push-only tells s unsent rest old new answer t p = OnlyAt-made s p.sent [] (0 ∷ []) (turned_as answer) (turn-pushed s p.sent answer (p.told t))

-- ---- The lines of a turn

-- a line that was there, and the one behind the call
pub record TwoLines (before : Line) (p : Option Line) (P : Line → Line → Type 0) : Type 0 where
  pub now : Line
  pub is : p ≡ Some now
  pub so : P before now

pub two-lines : (o p : Option Line) (P : Line → Line → Type 0) (before : Line) → o ≡ Some before → IsSome p → IfSome o (λ b. IfSome p (λ n. P b n)) → TwoLines before p P
two-lines o None P before was still so = absurd (let clash : false ≡ true = still in cc)
two-lines o (Some n) P before was still so = record { now = n; is = refl; so = subst (λ x. IfSome x (λ b. P b n)) was so }

-- ---- A push that does nothing

pub idle-sends : (tells : Type 0) (s : ℕ) (l : Line) (h : List NetEvent) → l.wire.is_shut ≡ false → Sends tells s pushed.Memory l (Some l) h h
idle-sends tells s l h going = record {
  rest = l.wire.unsent;
  between = h;
  pushes = record { sent = []; joined = refl; told = λ t. Made-none (is_write s) h; idle = λ t e. Adds-none h };
  left = ap (λ (b : Bool). Some (record l { wire = record l.wire { is_shut = b } })) going;
  closed = λ t. Adds-none h;
}
