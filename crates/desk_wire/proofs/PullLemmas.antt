-- Reads of what is lacking, one after another.
use Rattle.std.proofs.Common.{◌≡◌, ℕ, List, [], ◌∷◌, ◌++◌, ◌≤◌, ◌-◌, ◌<◌, take, length, refl, sym, ap, ◌∙◌, subst, append_assoc, append-nil, arith, length-append, Some}
use Rattle.std.proofs.lemmas.List.{take_all, nil_from_length}
use Rattle.net_link.specs.Calls.{read_events}
use Rattle.net_link.specs.Events.{Adds}
use Rattle.net_link.specs.Inbox.{ReadsInbox}
use Rattle.net_link.specs.Prefix.{IsPrefixOf}
use Rattle.net_link.specs.Turns.{added, AddsUpTo}
use Rattle.net_link.specs.declared.event.NetEvent.{NetEvent}
use Rattle.net_link.specs.declared.event.NetEvent.TheVariants as event
use Rattle.net_link.specs.declared.net.Came.{Came}
use Rattle.net_link.specs.declared.net.Came.TheVariants as came
use Rattle.net_link.proofs.PrefixLemmas.{IsPrefixOf-same}
use Rattle.msg_wire.specs.Framing.{Framed}
use Rattle.msg_wire.specs.Reading.{flaw}
use Rattle.msg_wire.specs.declared.fault.MsgFault.{MsgFault}
use Rattle.msg_wire.specs.declared.fault.MsgFault.TheVariants as fault
use Rattle.msg_wire.specs.declared.message.Message.{Message}
use Rattle.msg_wire.specs.Fronts.{HasNoneTooMany, IsRefused}
use Rattle.desk_wire.specs.Made.{Made, is_read}
use Rattle.desk_wire.specs.Pull.{Empties, HandsOut, Pulls, pull_end}
use Rattle.desk_wire.specs.State.{State}
use Rattle.desk_wire.specs.declared.answers.Pulled.{Pulled}
use Rattle.desk_wire.specs.declared.answers.Pulled.TheVariants as pulled
use Rattle.desk_wire.proofs.FrontLemmas.{asks-more, asks-most, none_too_many-front}
use Rattle.desk_wire.proofs.MadeLemmas.{Made-last, Made-none, Made-one, Made-trans, at_itself}

Empties-none : (inbox : List ℕ) (ended : Type 0) (answer : Pulled) → (answer ≡ pulled.NotYet → ⊥) → (answer ≡ pulled.End → ⊥) → Empties inbox inbox ended [] answer
Empties-none inbox ended answer not_dry not_end = record { from_front = IsPrefixOf-same inbox; dry = λ e. absurd (not_dry e); ends = λ e. absurd (not_end e) }

-- Nothing was read, and the bytes that are held are handed out, refused or kept.
Pulls-judged : (tells : Type 0) (s : ℕ) (before held : List ℕ) (h : List NetEvent) (inbox : List ℕ) (ended : Type 0) (answer : Pulled) → pull_end s answer ≡ []
    → (answer ≡ pulled.NotYet → ⊥) → (answer ≡ pulled.End → ⊥) → HandsOut before held answer → Pulls tells s before held h h inbox inbox ended answer
Pulls-judged tells s before held h inbox ended answer none not_dry not_end gives = record {
  came = [];
  gives = subst (λ (l : List ℕ). HandsOut l held answer) (sym (append-nil before)) gives;
  told = λ t. rw none (Made-none (is_read s) h);
  inbox = λ t. Empties-none inbox ended answer not_dry not_end;
}

Pulls-whole : (tells : Type 0) (s : ℕ) (before : List ℕ) (h : List NetEvent) (inbox : List ℕ) (ended : Type 0) (message : Message) → Framed before message
    → Pulls tells s before [] h h inbox inbox ended (pulled.Whole message)
Pulls-whole tells s before h inbox ended message framed =
    Pulls-judged tells s before [] h inbox ended (pulled.Whole message) refl (λ e. cc) (λ e. cc) (framed, refl)

Pulls-bad : (tells : Type 0) (s : ℕ) (before : List ℕ) (h : List NetEvent) (inbox : List ℕ) (ended : Type 0) (first : MsgFault) → IsRefused before first
    → Pulls tells s before before h h inbox inbox ended (pulled.Bad first)
Pulls-bad tells s before h inbox ended first refused =
    Pulls-judged tells s before before h inbox ended (pulled.Bad first) refl (λ e. cc) (λ e. cc) (refl, refused)

Pulls-memory : (tells : Type 0) (s : ℕ) (before : List ℕ) (h : List NetEvent) (inbox : List ℕ) (ended : Type 0) → HasNoneTooMany before
    → Pulls tells s before before h h inbox inbox ended pulled.Memory
Pulls-memory tells s before h inbox ended early =
    Pulls-judged tells s before before h inbox ended pulled.Memory refl (λ e. cc) (λ e. cc) (refl, early)

-- Bytes came behind those that were held, and are held.
pub record Meanwhile (tells : Type 0) (stream : ℕ) (before held : List ℕ) (old new : List NetEvent) (inbox_before inbox_now : List ℕ) : Type 0 where
  pub came : List ℕ
  pub joined : held ≡ before ++ came
  pub told : tells → Made (is_read stream) [] came [] old new
  pub from_front : tells → IsPrefixOf inbox_before (came ++ inbox_now)

pub Meanwhile-none : (tells : Type 0) (s : ℕ) (held : List ℕ) (h : List NetEvent) (inbox : List ℕ) → Meanwhile tells s held held h h inbox inbox
Meanwhile-none tells s held h inbox = record {
  came = [];
  joined = sym (append-nil held);
  told = λ t. Made-none (is_read s) h;
  from_front = λ t. IsPrefixOf-same inbox;
}

-- The answer that a read's answer is, where it gave nothing.
abbrev pub pulled_as : Came → Pulled
pulled_as (came.Got n) = pulled.Memory
pulled_as came.NotYet = pulled.NotYet
pulled_as came.End = pulled.End
pulled_as came.Failed = pulled.Fault
pulled_as came.Memory = pulled.Memory

nothing_more : (before now : List ℕ) → now ≡ before ++ added before now → length (added before now) ≡ 0 → (now ≡ before) × (added before now ≡ [])
nothing_more before now joined none =
    let nil = nil_from_length (added before now) none in
    (joined ∙ ap (λ (l : List ℕ). before ++ l) nil ∙ append-nil before, nil)

-- One read that added bytes.
Meanwhile-got : (tells : Type 0) (s n most : ℕ) (before now : List ℕ) (a b : List NetEvent) (inbox_before inbox_now : List ℕ) (ended : Type 0)
    → now ≡ before ++ added before now → AddsUpTo most (added before now) (came.Got n)
    → (tells → Adds (read_events s (added before now) (came.Got n)) a b) → (tells → ReadsInbox inbox_before inbox_now ended (added before now) (came.Got n))
    → Meanwhile tells s before now a b inbox_before inbox_now
Meanwhile-got tells s n most before now a b inbox_before inbox_now ended joined adds told inbox =
    let all : take n (added before now) ≡ added before now = take_all n (added before now) (omega (arith, adds.2)) in
    record {
      came = added before now;
      joined = joined;
      told = λ t. Made-one (is_read s) (event.Came s (take n (added before now))) [] (added before now) (at_itself s) refl all (told t);
      from_front = λ t. subst (λ (l : List ℕ). IsPrefixOf inbox_before (l ++ inbox_now)) all (inbox t);
    }

-- One read that added none.
Pulls-none : (tells : Type 0) (s need : ℕ) (before now : List ℕ) (a b : List NetEvent) (inbox_before inbox_now : List ℕ) (ended : Type 0) (answer : Came)
    → ((n : ℕ) → answer ≡ came.Got n → ⊥) → flaw before ≡ Some (fault.Short need) → now ≡ before ++ added before now → length (added before now) ≡ 0
    → (tells → Adds (read_events s (added before now) answer) a b) → (tells → ReadsInbox inbox_before inbox_now ended (added before now) answer)
    → Pulls tells s before now a b inbox_before inbox_now ended (pulled_as answer)
Pulls-none tells s need before now a b inbox_before inbox_now ended (came.Got n) other short joined none told inbox = absurd (other n refl)
Pulls-none tells s need before now a b inbox_before inbox_now ended came.NotYet other short joined none told inbox =
    let same = (nothing_more before now joined none).0 in
    record {
      came = [];
      gives = (same ∙ sym (append-nil before), record { need = need; short = ap flaw same ∙ short });
      told = λ t. Made-last (is_read s) (event.Dry s ∷ []) (told t);
      inbox = λ t. record {
        from_front = record { more = inbox_now; joined = ap (λ (l : List ℕ). l ++ inbox_now) (inbox t).0 };
        dry = λ e. ((inbox t).1, (inbox t).2);
        ends = λ e. absurd cc;
      };
    }
Pulls-none tells s need before now a b inbox_before inbox_now ended came.End other short joined none told inbox =
    let same = (nothing_more before now joined none).0 in
    record {
      came = [];
      gives = (same ∙ sym (append-nil before), record { need = need; short = ap flaw same ∙ short });
      told = λ t. Made-last (is_read s) (event.Ended s ∷ []) (told t);
      inbox = λ t. record {
        from_front = record { more = inbox_now; joined = ap (λ (l : List ℕ). l ++ inbox_now) (inbox t).0 };
        dry = λ e. absurd cc;
        ends = λ e. ((inbox t).1, (inbox t).2);
      };
    }
Pulls-none tells s need before now a b inbox_before inbox_now ended came.Failed other short joined none told inbox =
    let same = (nothing_more before now joined none).0 in
    record {
      came = [];
      gives = (same ∙ sym (append-nil before), record { need = need; short = ap flaw same ∙ short });
      told = λ t. Made-last (is_read s) (event.Fault s ∷ []) (told t);
      inbox = λ t. record { from_front = inbox t; dry = λ e. absurd cc; ends = λ e. absurd cc };
    }
Pulls-none tells s need before now a b inbox_before inbox_now ended came.Memory other short joined none told inbox =
    let same = (nothing_more before now joined none).0 in
    record {
      came = [];
      gives = (same ∙ sym (append-nil before), subst HasNoneTooMany (sym same) (none_too_many-front before need short));
      told = λ t. Made-last (is_read s) [] (told t);
      inbox = λ t. record { from_front = inbox t; dry = λ e. absurd cc; ends = λ e. absurd cc };
    }

from_front-trans : (a b c more further : List ℕ) → IsPrefixOf a (more ++ b) → IsPrefixOf b (further ++ c) → IsPrefixOf a ((more ++ further) ++ c)
from_front-trans a b c more further p q = record {
  more = p.more ++ q.more;
  joined =
      sym (append_assoc a p.more q.more) ∙ ap (λ (l : List ℕ). l ++ q.more) p.joined ∙ append_assoc more b q.more ∙ ap (λ (l : List ℕ). more ++ l) q.joined
      ∙ sym (append_assoc more further c);
}

-- A call behind others that brought nothing yet.
pub Pulls-after : (tells : Type 0) (s : ℕ) (x y z : List ℕ) (a b c : List NetEvent) (inbox_a inbox_b inbox_c : List ℕ) (ended : Type 0) (answer : Pulled)
    → Meanwhile tells s x y a b inbox_a inbox_b → Pulls tells s y z b c inbox_b inbox_c ended answer → Pulls tells s x z a c inbox_a inbox_c ended answer
Pulls-after tells s x y z a b c inbox_a inbox_b inbox_c ended answer p q = record {
  came = p.came ++ q.came;
  gives = subst (λ (l : List ℕ). HandsOut l z answer) (ap (λ (l : List ℕ). l ++ q.came) p.joined ∙ append_assoc x p.came q.came) q.gives;
  told = λ t. Made-trans (is_read s) [] p.came [] q.came (pull_end s answer) (p.told t) (q.told t);
  inbox = λ t. record {
    from_front = from_front-trans inbox_a inbox_b inbox_c p.came q.came (p.from_front t) (q.inbox t).from_front;
    dry = (q.inbox t).dry;
    ends = (q.inbox t).ends;
  };
}

Meanwhile-trans : (tells : Type 0) (s : ℕ) (x y z : List ℕ) (a b c : List NetEvent) (inbox_a inbox_b inbox_c : List ℕ)
    → Meanwhile tells s x y a b inbox_a inbox_b → Meanwhile tells s y z b c inbox_b inbox_c → Meanwhile tells s x z a c inbox_a inbox_c
Meanwhile-trans tells s x y z a b c inbox_a inbox_b inbox_c p q = record {
  came = p.came ++ q.came;
  joined = q.joined ∙ ap (λ (l : List ℕ). l ++ q.came) p.joined ∙ append_assoc x p.came q.came;
  told = λ t. Made-trans (is_read s) [] p.came [] q.came [] (p.told t) (q.told t);
  from_front = λ t. from_front-trans inbox_a inbox_b inbox_c p.came q.came (p.from_front t) (q.from_front t);
}

-- A wire of which only what is held changed.
abbrev pub SameBut : State → State → Type 0
SameBut old new = let now : State = record old { held = new.held } in new ≡ now

SameBut-at : (u v w : State) → SameBut u v → w ≡ v → SameBut u w
SameBut-at u v w kept same = subst (λ x. SameBut u x) (sym same) kept

Meanwhile-at : (tells : Type 0) (s : ℕ) (x y z : List ℕ) (a b : List NetEvent) (inbox_a inbox_b : List ℕ) → z ≡ y → Meanwhile tells s x y a b inbox_a inbox_b
    → Meanwhile tells s x z a b inbox_a inbox_b
Meanwhile-at tells s x y z a b inbox_a inbox_b same p = subst (λ (l : List ℕ). Meanwhile tells s x l a b inbox_a inbox_b) (sym same) p

-- One more read of a wire, which added bytes.
pub Meanwhile-next : (tells : Type 0) (u v w z : State) (n most : ℕ) (a b c : List NetEvent) (inbox_a inbox_b inbox_c : ℕ → List ℕ) (ended : ℕ → Type 0)
    → SameBut u v → w ≡ v → z.held ≡ w.held ++ added w.held z.held → AddsUpTo most (added w.held z.held) (came.Got n)
    → (tells → Adds (read_events w.stream (added w.held z.held) (came.Got n)) b c)
    → (tells → ReadsInbox (inbox_b w.stream) (inbox_c w.stream) (ended w.stream) (added w.held z.held) (came.Got n))
    → Meanwhile tells u.stream u.held v.held a b (inbox_a u.stream) (inbox_b u.stream)
    → Meanwhile tells u.stream u.held z.held a c (inbox_a u.stream) (inbox_c u.stream)
Meanwhile-next tells u v w z n most a b c inbox_a inbox_b inbox_c ended kept same joined adds told inbox before =
    let at : w.stream ≡ u.stream = ap (λ x. x.stream) (SameBut-at u v w kept same) in
    let read : Meanwhile tells w.stream w.held z.held b c (inbox_b w.stream) (inbox_c w.stream)
    = Meanwhile-got tells w.stream n most w.held z.held b c (inbox_b w.stream) (inbox_c w.stream) (ended w.stream) joined adds told inbox in
    let here : Meanwhile tells u.stream w.held z.held b c (inbox_b u.stream) (inbox_c u.stream)
    = subst (λ (s : ℕ). Meanwhile tells s w.held z.held b c (inbox_b s) (inbox_c s)) at read in
    let earlier : Meanwhile tells u.stream u.held w.held a b (inbox_a u.stream) (inbox_b u.stream)
    = Meanwhile-at tells u.stream u.held v.held w.held a b (inbox_a u.stream) (inbox_b u.stream) (ap (λ x. x.held) same) before in
    Meanwhile-trans tells u.stream u.held w.held z.held a b c (inbox_a u.stream) (inbox_b u.stream) (inbox_c u.stream) earlier here

-- One more read of a wire, which added none.
pub Pulls-next : (tells : Type 0) (u v w z : State) (need : ℕ) (answer : Came) (a b c : List NetEvent) (inbox_a inbox_b inbox_c : ℕ → List ℕ) (ended : ℕ → Type 0)
    → ((n : ℕ) → answer ≡ came.Got n → ⊥)
    → SameBut u v → w ≡ v → flaw v.held ≡ Some (fault.Short need) → z.held ≡ w.held ++ added w.held z.held → length (added w.held z.held) ≡ 0
    → (tells → Adds (read_events w.stream (added w.held z.held) answer) b c)
    → (tells → ReadsInbox (inbox_b w.stream) (inbox_c w.stream) (ended w.stream) (added w.held z.held) answer)
    → Meanwhile tells u.stream u.held v.held a b (inbox_a u.stream) (inbox_b u.stream)
    → Pulls tells u.stream u.held z.held a c (inbox_a u.stream) (inbox_c u.stream) (ended u.stream) (pulled_as answer)
Pulls-next tells u v w z need answer a b c inbox_a inbox_b inbox_c ended other kept same short joined none told inbox before =
    let at : w.stream ≡ u.stream = ap (λ x. x.stream) (SameBut-at u v w kept same) in
    let read : Pulls tells w.stream w.held z.held b c (inbox_b w.stream) (inbox_c w.stream) (ended w.stream) (pulled_as answer)
    = Pulls-none tells w.stream need w.held z.held b c (inbox_b w.stream) (inbox_c w.stream) (ended w.stream) answer other (ap (λ x. flaw x.held) same ∙ short) joined none told inbox in
    let here : Pulls tells u.stream w.held z.held b c (inbox_b u.stream) (inbox_c u.stream) (ended u.stream) (pulled_as answer)
    = subst (λ (s : ℕ). Pulls tells s w.held z.held b c (inbox_b s) (inbox_c s) (ended s) (pulled_as answer)) at read in
    let earlier : Meanwhile tells u.stream u.held w.held a b (inbox_a u.stream) (inbox_b u.stream)
    = Meanwhile-at tells u.stream u.held v.held w.held a b (inbox_a u.stream) (inbox_b u.stream) (ap (λ x. x.held) same) before in
    Pulls-after tells u.stream u.held w.held z.held a b c (inbox_a u.stream) (inbox_b u.stream) (inbox_c u.stream) (ended u.stream) (pulled_as answer) earlier here

-- The message that is held is handed out.
pub Pulls-whole-after : (tells : Type 0) (s : ℕ) (before held left : List ℕ) (a b : List NetEvent) (inbox_before inbox_now : List ℕ) (ended : Type 0) (message : Message)
    → Meanwhile tells s before held a b inbox_before inbox_now → Framed held message → left ≡ []
    → Pulls tells s before left a b inbox_before inbox_now ended (pulled.Whole message)
Pulls-whole-after tells s before held left a b inbox_before inbox_now ended message p framed none =
    subst (λ (l : List ℕ). Pulls tells s before l a b inbox_before inbox_now ended (pulled.Whole message)) (sym none)
    (Pulls-after tells s before held [] a b b inbox_before inbox_now inbox_now ended (pulled.Whole message) p (Pulls-whole tells s held b inbox_now ended message framed))

-- The bytes that are held are refused.
pub Pulls-bad-after : (tells : Type 0) (s : ℕ) (before held left : List ℕ) (a b : List NetEvent) (inbox_before inbox_now : List ℕ) (ended : Type 0) (first : MsgFault)
    → Meanwhile tells s before held a b inbox_before inbox_now → IsRefused held first → left ≡ held
    → Pulls tells s before left a b inbox_before inbox_now ended (pulled.Bad first)
Pulls-bad-after tells s before held left a b inbox_before inbox_now ended first p refused same =
    subst (λ (l : List ℕ). Pulls tells s before l a b inbox_before inbox_now ended (pulled.Bad first)) (sym same)
    (Pulls-after tells s before held held a b b inbox_before inbox_now inbox_now ended (pulled.Bad first) p (Pulls-bad tells s held b inbox_now ended first refused))

-- There was no memory to read the bytes that are held.
pub Pulls-memory-after : (tells : Type 0) (s : ℕ) (before held left : List ℕ) (a b : List NetEvent) (inbox_before inbox_now : List ℕ) (ended : Type 0)
    → Meanwhile tells s before held a b inbox_before inbox_now → HasNoneTooMany held → left ≡ held
    → Pulls tells s before left a b inbox_before inbox_now ended pulled.Memory
Pulls-memory-after tells s before held left a b inbox_before inbox_now ended p early same =
    subst (λ (l : List ℕ). Pulls tells s before l a b inbox_before inbox_now ended pulled.Memory) (sym same)
    (Pulls-after tells s before held held a b b inbox_before inbox_now inbox_now ended pulled.Memory p (Pulls-memory tells s held b inbox_now ended early))

-- A read that added bytes leaves fewer to come.
pub pulling-ends : (x w z : List ℕ) (need n : ℕ) → w ≡ x → flaw x ≡ Some (fault.Short need) → z ≡ w ++ added w z → AddsUpTo (need - length w) (added w z) (came.Got n)
    → 48000000 - length z < 48000000 - length x
pulling-ends x w z need n same short joined adds =
    let most : need ≤ 48000000 = asks-most x need short in
    let more : length x < need = asks-more x need short in
    omega (arith, most, more, ap length same, ap length joined, length-append w (added w z), adds.0, adds.1, adds.2)
