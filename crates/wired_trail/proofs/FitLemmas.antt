-- One stream: what a net told of it, what the trail says of it, and its wire.
use Rattle.std.proofs.Common.{◌≡◌, ◌≢◌, inl, inr, ℕ, ℤ, Bool, true, false, List, [], ◌∷◌, ◌++◌, Option, None, Some, refl, sym, ap, ◌∙◌, subst, append_assoc, append-nil}
use Rattle.std.specs.Prelude.{unwrap_or}
use Rattle.std.specs.Option.{option_map}
use Rattle.msg_wire.specs.Framing.{Framed}
use Rattle.msg_wire.specs.Fronts.{IsFront, IsRefusal, IsRefused}
use Rattle.msg_wire.specs.Messages.{Begins}
use Rattle.msg_wire.specs.Places.{IsFaultyAt, place_of}
use Rattle.msg_wire.specs.declared.fault.MsgFault.{MsgFault}
use Rattle.msg_wire.specs.declared.fault.MsgFault.TheVariants as fault
use Rattle.msg_wire.specs.declared.message.Message.{Message}
use Rattle.msg_wire.proofs.Asked.{flaw-nil}
use Rattle.msg_wire.proofs.Partings.{Begins-append}
use Rattle.net_link.specs.Prefix.{IsPrefixOf}
use Rattle.net_link.specs.Seen.{Seen}
use Rattle.desk_wire.specs.State.{State}
use Rattle.desk_wire.specs.declared.answers.Pulled.{Pulled}
use Rattle.desk_wire.specs.declared.answers.Pulled.TheVariants as pulled
use Rattle.desk_trail.specs.declared.request.Request.{Request}
use Rattle.desk_trail.specs.Streams.{Account, Exchange, Result, Says, Unanswered, exchange_of, with_result}
use Rattle.desk_trail.specs.Streams as told
use Rattle.wired_trail.specs.Hearing.{Heard, IsSaid}
use Rattle.wired_trail.specs.Inside.{Fits, FitsAt, Holds, queued_on, told_on}
use Rattle.wired_trail.specs.Lines.{with_unsent}
use Rattle.wired_trail.specs.Wired.{Answers, Explains, IsExplained, IsNoAnswer, IsStreamWired, Means, bytes_answered, bytes_of}
use Rattle.wired_trail.specs.declared.lines.Line.{Line}
use Rattle.wired_trail.specs.declared.pending.Pending.{Pending}
use Rattle.wired_trail.specs.declared.pending.Pending.TheVariants as is

-- ---- Whatever is pending

pub front-nil : IsFront []
front-nil = record { need = 16; short = flaw-nil }

unexplained : (v : Seen) (rest : List ℕ) (last : Option Request) (how : Option Unanswered) → how ≡ None → IsExplained v rest last how
unexplained v rest last None e = tt
unexplained v rest last (Some h) e = absurd cc

pub Holds-wired : (w : State) (v : Seen) (a : Account) → Holds w v a → IsStreamWired v a
Holds-wired w v a h = record {
  answers = h.answers;
  rest = w.held;
  front = h.front;
  came = h.came;
  said = h.said;
  out = h.out;
  cut = record { more = w.unsent; joined = h.cut };
  explained = unexplained v w.held a.last a.how h.going;
}

pub Heard-wired : (answer : Pulled) (id : ℤ) (v : Seen) (a : Account) → Heard answer id v a → IsStreamWired v a
Heard-wired answer id v a h = record {
  answers = h.answers;
  rest = h.rest;
  front = h.front;
  came = h.came;
  said = h.said;
  out = h.out;
  cut = subst (λ o. IsPrefixOf h.front (bytes_of o)) (sym h.waits) h.cut;
  explained = unexplained v h.rest a.last a.how h.going;
}

pub fits-wired : (p : Pending) (w : State) (v : Seen) (a : Account) → Fits p w v a → IsStreamWired v a
fits-wired is.Nothing w v a f = Holds-wired w v a f.0
fits-wired (is.Reply id) w v a f = Holds-wired w v a f.0
fits-wired is.Message w v a f = f.0
fits-wired is.Over w v a f = f

pub at-wired : (l : Option Line) (p : Option Pending) (v : Seen) (a : Account) → FitsAt l p v a → IsStreamWired v a
at-wired (Some line) (Some p) v a f = fits-wired p line.wire v a f
at-wired (Some line) None v a f = f
at-wired None (Some p) v a f = f
at-wired None None v a f = f

-- a stream of which nothing more is asked
pub at-over : (l : Option Line) (v : Seen) (a : Account) → IsStreamWired v a → FitsAt l (Some is.Over) v a
at-over (Some line) v a w = w
at-over None v a w = w

pub at-gone : (p : Option Pending) (v : Seen) (a : Account) → IsStreamWired v a → FitsAt None p v a
at-gone (Some p) v a w = w
at-gone None v a w = w

-- ---- One more answer

Answers-snoc : (ms : List Message) (xs : List Exchange) (m : Message) (x : Exchange) → Answers ms xs → m.to ≡ x.request.id → Means m x.says →
    Answers (ms ++ m ∷ []) (xs ++ x ∷ [])
Answers-snoc [] [] m x h to means = (to, means, tt)
Answers-snoc [] (y ∷ ys) m x h to means = absurd h
Answers-snoc (n ∷ ns) [] m x h to means = absurd h
Answers-snoc (n ∷ ns) (y ∷ ys) m x h to means = (h.0, h.1, Answers-snoc ns ys m x h.2 to means)

bytes-snoc : (xs : List Exchange) (x : Exchange) → bytes_answered (xs ++ x ∷ []) ≡ bytes_answered xs ++ x.request.bytes
bytes-snoc [] x = append-nil x.request.bytes
bytes-snoc (y ∷ ys) x =
    ap (λ (l : List ℕ). y.request.bytes ++ l) (bytes-snoc ys x) ∙ sym (append_assoc y.request.bytes (bytes_answered ys) x.request.bytes)

pub begins-snoc : (came : List ℕ) (ms : List Message) (rest : List ℕ) (m : Message) → Begins came ms rest → Framed rest m → Begins came (ms ++ m ∷ []) []
begins-snoc came ms rest m b framed =
    Begins-append came ms rest (m ∷ []) [] b ([], record { text = rest; parts = sym (append-nil rest); framed = framed }, refl)

-- what was heard, and answered
pub answered : (m : Message) (id : ℤ) (v : Seen) (a : Account) (says : Says) → Heard (pulled.Whole m) id v a → m.to ≡ id → Means m says →
    (w : State) → w.held ≡ [] → w.unsent ≡ [] → Holds w v (with_result a (told.Answered says)) × ((with_result a (told.Answered says)).last ≡ None)
answered m id v a says h to means w held unsent =
    let x : Exchange = record { request = h.request; says = says } in
    let is : exchange_of says a.last ≡ x ∷ [] = ap (exchange_of says) h.waits in (
      record {
        answers = h.answers ++ m ∷ [];
        front = [];
        came = subst (Begins v.came (h.answers ++ m ∷ [])) (sym held) (begins-snoc v.came h.answers h.rest m h.came h.gave.0);
        said =
            subst (λ (l : List Exchange). Answers (h.answers ++ m ∷ []) (a.answered ++ l)) (sym is)
            (Answers-snoc h.answers a.answered m x h.said (to ∙ sym h.same) means);
        out =
            h.out ∙ ap (λ (l : List ℕ). bytes_answered a.answered ++ l) h.gave.1 ∙ sym (bytes-snoc a.answered x)
            ∙ ap (λ (l : List Exchange). bytes_answered (a.answered ++ l)) (sym is) ∙ sym (append-nil (bytes_answered (a.answered ++ exchange_of says a.last)));
        cut = unsent;
        going = h.going;
        asks_on = subst IsFront (sym held) front-nil;
      },
      refl,
    )

abbrev shut_wire : State
shut_wire = record { stream = 0; unsent = []; held = []; is_shut = true }

pub answered-wired : (m : Message) (id : ℤ) (v : Seen) (a : Account) (says : Says) → Heard (pulled.Whole m) id v a → m.to ≡ id → Means m says →
    IsStreamWired v (with_result a (told.Answered says))
answered-wired m id v a says h to means =
    Holds-wired shut_wire v (with_result a (told.Answered says)) (answered m id v a says h to means shut_wire refl refl).0

-- ---- No answer

refusal-place : (f : MsgFault) (at : ℕ) → IsRefusal f → at ≡ unwrap_or (place_of f) 0 → place_of f ≡ Some at
refusal-place (fault.Short need) at r e = absurd r
refusal-place fault.Memory at r e = absurd r
refusal-place (fault.Length got) at r e = ap (λ n. Some n) (sym e)
refusal-place (fault.Opcode got) at r e = ap (λ n. Some n) (sym e)
refusal-place (fault.Flags bit) at r e = ap (λ n. Some n) (sym e)
refusal-place (fault.Sections x) at r e = ap (λ n. Some n) (sym e)
refusal-place (fault.Body x inner) at r e = ap (λ n. Some n) (sym e)

faulty : (rest : List ℕ) (f : MsgFault) (at : ℕ) → IsRefused rest f → at ≡ unwrap_or (place_of f) 0 → IsFaultyAt rest at
faulty rest f at r e = record { first = f; is_flaw = r.is_flaw; is_place = refusal-place f at r.refusal e }

another : (m : Message) (id : ℤ) (r : Request) (rest : List ℕ) (at : ℕ) → r.id ≡ id → Framed rest m → m.to ≢ id → at ≡ 8 → IsNoAnswer r.id rest at
another m id r rest at same framed other e =
    inr (record { message = m; framed = framed; other = λ q. other (q ∙ same); is_place = e })

explains : (answer : Pulled) (id : ℤ) (v : Seen) (a : Account) (how : Unanswered) (h : Heard answer id v a) → IsSaid answer id (told.Ended how) →
    Explains v h.rest h.request how
explains (pulled.Whole m) id v a (told.Bad at) h s = another m id h.request h.rest at h.same h.gave.0 s.0 s.1
explains (pulled.Whole m) id v a (told.Lost true past) h s = (8, another m id h.request h.rest 8 h.same h.gave.0 s refl)
explains (pulled.Whole m) id v a (told.Lost false past) h s = absurd s
explains (pulled.Whole m) id v a told.Cut h s = absurd s
explains (pulled.Whole m) id v a told.Fault h s = absurd s
explains (pulled.Whole m) id v a told.Late h s = absurd s
explains pulled.NotYet id v a told.Late h s = h.gave
explains pulled.NotYet id v a (told.Lost false past) h s = (h.gave.0, inr (inr (h.gave.1, s)))
explains pulled.NotYet id v a (told.Lost true past) h s = absurd s
explains pulled.NotYet id v a told.Cut h s = absurd s
explains pulled.NotYet id v a told.Fault h s = absurd s
explains pulled.NotYet id v a (told.Bad at) h s = absurd s
explains pulled.End id v a told.Cut h s = h.gave
explains pulled.End id v a (told.Lost false past) h s = (h.gave.0, inl h.gave.1)
explains pulled.End id v a (told.Lost true past) h s = absurd s
explains pulled.End id v a told.Fault h s = absurd s
explains pulled.End id v a told.Late h s = absurd s
explains pulled.End id v a (told.Bad at) h s = absurd s
explains pulled.Fault id v a told.Fault h s = h.gave
explains pulled.Fault id v a (told.Lost false past) h s = (h.gave.0, inr (inl h.gave.1))
explains pulled.Fault id v a (told.Lost true past) h s = absurd s
explains pulled.Fault id v a told.Cut h s = absurd s
explains pulled.Fault id v a told.Late h s = absurd s
explains pulled.Fault id v a (told.Bad at) h s = absurd s
explains (pulled.Bad f) id v a (told.Bad at) h s = inl (faulty h.rest f at h.gave s)
explains (pulled.Bad f) id v a (told.Lost true past) h s = (unwrap_or (place_of f) 0, inl (faulty h.rest f (unwrap_or (place_of f) 0) h.gave refl))
explains (pulled.Bad f) id v a (told.Lost false past) h s = absurd s
explains (pulled.Bad f) id v a told.Cut h s = absurd s
explains (pulled.Bad f) id v a told.Fault h s = absurd s
explains (pulled.Bad f) id v a told.Late h s = absurd s
explains pulled.Memory id v a how h s = absurd s

pub ended-wired : (answer : Pulled) (id : ℤ) (v : Seen) (a : Account) (how : Unanswered) → Heard answer id v a → IsSaid answer id (told.Ended how) →
    IsStreamWired v (with_result a (told.Ended how))
ended-wired answer id v a how h s = record {
  answers = h.answers;
  rest = h.rest;
  front = h.front;
  came = h.came;
  said = h.said;
  out = h.out;
  cut = subst (λ o. IsPrefixOf h.front (bytes_of o)) (sym h.waits) h.cut;
  explained = subst (λ o. IsExplained v h.rest o (Some how)) (sym h.waits) (explains answer id v a how h s);
}

-- ---- What an entry tells

abbrev pub is_answer : Result → Bool
is_answer (told.Answered says) = true
is_answer (told.Ended how) = false

said-wired : (answer : Pulled) (id : ℤ) (v : Seen) (a : Account) (r : Result) → Heard answer id v a → IsSaid answer id r → IsStreamWired v (with_result a r)
said-wired (pulled.Whole m) id v a (told.Answered says) h s = answered-wired m id v a says h s.0 s.1
said-wired pulled.NotYet id v a (told.Answered says) h s = absurd s
said-wired pulled.End id v a (told.Answered says) h s = absurd s
said-wired pulled.Fault id v a (told.Answered says) h s = absurd s
said-wired (pulled.Bad f) id v a (told.Answered says) h s = absurd s
said-wired pulled.Memory id v a (told.Answered says) h s = absurd s
said-wired answer id v a (told.Ended how) h s = ended-wired answer id v a how h s

answered-fits : (answer : Pulled) (id : ℤ) (w : State) (v : Seen) (a : Account) (says : Says) → Heard answer id v a → IsSaid answer id (told.Answered says) →
    w.held ≡ [] → w.unsent ≡ [] → Fits is.Nothing w v (with_result a (told.Answered says))
answered-fits (pulled.Whole m) id w v a says h s held unsent = answered m id v a says h s.0 s.1 w held unsent
answered-fits pulled.NotYet id w v a says h s held unsent = absurd s
answered-fits pulled.End id w v a says h s held unsent = absurd s
answered-fits pulled.Fault id w v a says h s held unsent = absurd s
answered-fits (pulled.Bad f) id w v a says h s held unsent = absurd s
answered-fits pulled.Memory id w v a says h s held unsent = absurd s

tell-fits : (p : Pending) (r : Result) (answer : Pulled) (id : ℤ) (w : State) (v : Seen) (a : Account) → Fits p w v a → Heard answer id v a → IsSaid answer id r →
    Fits (told_on (is_answer r) p) w v (with_result a r)
tell-fits is.Message (told.Answered says) answer id w v a f h s = answered-fits answer id w v a says h s f.1 f.2
tell-fits is.Nothing (told.Answered says) answer id w v a f h s = said-wired answer id v a (told.Answered says) h s
tell-fits (is.Reply n) (told.Answered says) answer id w v a f h s = said-wired answer id v a (told.Answered says) h s
tell-fits is.Over (told.Answered says) answer id w v a f h s = said-wired answer id v a (told.Answered says) h s
tell-fits is.Message (told.Ended how) answer id w v a f h s = said-wired answer id v a (told.Ended how) h s
tell-fits is.Nothing (told.Ended how) answer id w v a f h s = said-wired answer id v a (told.Ended how) h s
tell-fits (is.Reply n) (told.Ended how) answer id w v a f h s = said-wired answer id v a (told.Ended how) h s
tell-fits is.Over (told.Ended how) answer id w v a f h s = said-wired answer id v a (told.Ended how) h s

pub told-fits : (l : Option Line) (p : Option Pending) (r : Result) (answer : Pulled) (id : ℤ) (v : Seen) (a : Account) → FitsAt l p v a → Heard answer id v a → IsSaid answer id r →
    FitsAt l (option_map (told_on (is_answer r)) p) v (with_result a r)
told-fits (Some line) (Some p) r answer id v a f h s = tell-fits p r answer id line.wire v a f h s
told-fits (Some line) None r answer id v a f h s = said-wired answer id v a r h s
told-fits None (Some p) r answer id v a f h s = said-wired answer id v a r h s
told-fits None None r answer id v a f h s = said-wired answer id v a r h s

-- ---- What is asked

abbrev pub asked : Account → Request → Account
asked a r = record a { last = Some r; how = None }

prefix-nil : (front : List ℕ) → IsPrefixOf front [] → front ≡ []
prefix-nil [] p = refl
prefix-nil (x ∷ xs) p = let q = p.joined in absurd cc

asked-wired : (v : Seen) (a : Account) (r : Request) → a.last ≡ None → IsStreamWired v a → IsStreamWired v (asked a r)
asked-wired v a r none w =
    let nil : w.front ≡ [] = prefix-nil w.front (subst (λ o. IsPrefixOf w.front (bytes_of o)) none w.cut) in
    record {
      answers = w.answers;
      rest = w.rest;
      front = w.front;
      came = w.came;
      said = w.said;
      out = w.out;
      cut = record { more = r.bytes; joined = ap (λ (l : List ℕ). l ++ r.bytes) nil };
      explained = tt;
    }

asked-holds : (w : State) (v : Seen) (a : Account) (r : Request) → a.last ≡ None → w.unsent ≡ [] → Holds w v a → Holds (record w { unsent = r.bytes }) v (asked a r)
asked-holds w v a r none sent h =
    let all : h.front ++ [] ≡ [] = ap (λ (l : List ℕ). h.front ++ l) (sym sent) ∙ h.cut ∙ ap bytes_of none in
    let nil : h.front ≡ [] = sym (append-nil h.front) ∙ all in
    record {
      answers = h.answers;
      front = h.front;
      came = h.came;
      said = h.said;
      out = h.out;
      cut = ap (λ (l : List ℕ). l ++ r.bytes) nil;
      going = refl;
      asks_on = h.asks_on;
    }

asked-fits : (p : Pending) (w : State) (v : Seen) (a : Account) (r : Request) → a.last ≡ None → w.unsent ≡ [] → Fits p w v a →
    Fits (queued_on r.id p) (record w { unsent = r.bytes }) v (asked a r)
asked-fits is.Nothing w v a r none sent f = (asked-holds w v a r none sent f.0, record { request = r; waits = refl; same = refl })
asked-fits (is.Reply id) w v a r none sent f = asked-wired v a r none (Holds-wired w v a f.0)
asked-fits is.Message w v a r none sent f = asked-wired v a r none f.0
asked-fits is.Over w v a r none sent f = asked-wired v a r none f

pub asked-at : (l : Line) (p : Option Pending) (v : Seen) (a : Account) (r : Request) → a.last ≡ None → l.wire.unsent ≡ [] → FitsAt (Some l) p v a →
    FitsAt (Some (with_unsent r.bytes l)) (option_map (queued_on r.id) p) v (asked a r)
asked-at l (Some p) v a r none sent f = asked-fits p l.wire v a r none sent f
asked-at l None v a r none sent f = asked-wired v a r none f
