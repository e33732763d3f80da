-- What a trail says of a stream, against what a net told of it.
use Rattle.std.proofs.Common.{◌≡◌, ◌≢◌, inl, inr, ℕ, Bool, true, false, List, [], ◌∷◌, ◌++◌, Option, None, Some, pos, length, refl, sym, ap, ◌∙◌, subst, arith, append-nil, length-append}
use Rattle.std.specs.Prelude.{Contains}
use Rattle.cmd_outcome.specs.Replies.{reading_of}
use Rattle.cmd_outcome.specs.declared.reading.Reading.{Reading}
use Rattle.msg_wire.specs.Framing.{Framed}
use Rattle.msg_wire.specs.Fronts.{IsFront}
use Rattle.msg_wire.specs.Messages.{Begins, IsFirst}
use Rattle.msg_wire.specs.Places.{IsFaultyAt, place_of}
use Rattle.msg_wire.specs.declared.fault.MsgFault.TheVariants as fault
use Rattle.msg_wire.specs.declared.message.Message.{Message}
use Rattle.msg_wire.proofs.Asked.{flaw-nil, read-flaw}
use Rattle.msg_wire.proofs.Partings.{first-once, read-first}
use Rattle.net_link.specs.Seen.{Seen, seen}
use Rattle.net_link.specs.declared.event.NetEvent.TheVariants as event
use Rattle.net_link.proofs.SeenLemmas.{seen-nil}
use Rattle.desk_trail.specs.Streams.{Exchange, Unanswered}
use Rattle.desk_trail.specs.Streams as told
use Rattle.wired_trail.specs.Wired.{Answers, Explains, HasCome, IsNoAnswer, IsStreamWired}
use Rattle.trail_worked.specs.Histories.{answered, came, came_twice, request, sent, unanswered}

-- ---- What was seen of the stream

abbrev pub view : (out came : List ℕ) (ended fault waits : Bool) → Seen
view out came ended fault waits = record { out = out; came = came; ended = ended; fault = fault; waits = waits }

pub seen-came : (bytes text : List ℕ) → seen 3 (sent bytes (came text)) ≡ view bytes text false false false
unfolding seen
seen-came bytes text = refl

pub seen-twice : (bytes first second : List ℕ) → seen 3 (sent bytes (came_twice first second)) ≡ view bytes (first ++ second) false false false
unfolding seen
seen-twice bytes first second = refl

pub seen-sent : (bytes : List ℕ) → seen 3 (sent bytes []) ≡ view bytes [] false false false
unfolding seen
seen-sent bytes = refl

pub seen-other : (bytes text : List ℕ) → seen 3 (sent bytes (event.Came 4 text ∷ [])) ≡ view bytes [] false false false
unfolding seen
seen-other bytes text = refl

pub seen-ended : (bytes : List ℕ) → seen 3 (sent bytes (event.Ended 3 ∷ [])) ≡ view bytes [] true false false
unfolding seen
seen-ended bytes = refl

pub seen-cut : (bytes text : List ℕ) → seen 3 (sent bytes (event.Came 3 text ∷ event.Ended 3 ∷ [])) ≡ view bytes text true false false
unfolding seen
seen-cut bytes text = refl

pub seen-failed : (bytes : List ℕ) → seen 3 (sent bytes (event.Fault 3 ∷ [])) ≡ view bytes [] false true false
unfolding seen
seen-failed bytes = refl

pub seen-dry : (bytes : List ℕ) → seen 3 (sent bytes (event.Dry 3 ∷ [])) ≡ view bytes [] false false true
unfolding seen
seen-dry bytes = refl

pub seen-full : (bytes : List ℕ) → seen 3 (sent bytes (event.Full 3 ∷ [])) ≡ view bytes [] false false true
unfolding seen
seen-full bytes = refl

pub seen-behind : (bytes text : List ℕ) → seen 3 (sent bytes (event.Came 3 text ∷ event.Dry 3 ∷ [])) ≡ view bytes text false false true
unfolding seen
seen-behind bytes text = refl

-- ---- What fits

pub answered-by : (bytes text : List ℕ) (ended fault waits : Bool) (m : Message) → Framed text m → m.to ≡ pos 1 →
    IsStreamWired (view bytes text ended fault waits) (answered bytes (reading_of m.body))
answered-by bytes text ended fault waits m framed to = record {
  answers = m ∷ [];
  rest = [];
  front = [];
  came = ([], record { text = text; parts = sym (append-nil text); framed = framed }, refl);
  said = (to, refl, tt);
  out = sym (append-nil bytes) ∙ sym (append-nil (bytes ++ []));
  cut = record { more = []; joined = refl };
  explained = tt;
}

pub unanswered-by : (v : Seen) (first second : List ℕ) (how : Unanswered) → v.out ≡ first → Explains v v.came (request (first ++ second)) how →
    IsStreamWired v (unanswered (first ++ second) (Some how))
unanswered-by v first second how out why = record {
  answers = [];
  rest = v.came;
  front = first;
  came = refl;
  said = tt;
  out = out;
  cut = record { more = second; joined = refl };
  explained = why;
}

pub all-sent : (v : Seen) (bytes : List ℕ) (how : Unanswered) → v.out ≡ bytes → Explains v v.came (request bytes) how → IsStreamWired v (unanswered bytes (Some how))
all-sent v bytes how out why =
    subst (λ (l : List ℕ). IsStreamWired v (unanswered l (Some how))) (append-nil bytes)
    (unanswered-by v bytes [] how out (subst (λ (l : List ℕ). Explains v v.came (request l) how) (sym (append-nil bytes)) why))

pub front-nil : IsFront []
front-nil = record { need = 16; short = flaw-nil }

-- ---- What does not

pub record OneAnswer (bytes : List ℕ) (x : Exchange) : Type 0 where
  pub message : Message
  pub rest : List ℕ
  pub first : IsFirst bytes message rest
  pub to : message.to ≡ x.request.id
  pub means : told.Reply (reading_of message.body) ≡ x.says

one-answer : (bytes : List ℕ) (ms : List Message) (rest : List ℕ) (r : Reading) (q : List ℕ) → Begins bytes ms rest → Answers ms (record { request = request q; says = told.Reply r } ∷ []) →
    OneAnswer bytes (record { request = request q; says = told.Reply r })
one-answer bytes [] rest r q b a = absurd a
one-answer bytes (m ∷ []) rest r q b a = record { message = m; rest = b.0; first = b.1; to = a.0; means = ap (λ x. told.Reply x) (sym a.1) }
one-answer bytes (m ∷ n ∷ ms) rest r q b a = absurd a.2

pub the-answer : (v : Seen) (q : List ℕ) (r : Reading) → IsStreamWired v (answered q r) → OneAnswer v.came (record { request = request q; says = told.Reply r })
the-answer v q r w = one-answer v.came w.answers w.rest r q w.came w.said

whole-first : (text : List ℕ) (m : Message) → Framed text m → IsFirst text m []
whole-first text m framed = record { text = text; parts = sym (append-nil text); framed = framed }

pub other-id : (bytes text : List ℕ) (m : Message) (r : Reading) → Framed text m → m.to ≢ pos 1 → IsStreamWired (view bytes text false false false) (answered bytes r) → ⊥
other-id bytes text m r framed other w =
    let a = the-answer (view bytes text false false false) bytes r w in
    let same = (first-once text m a.message [] a.rest (whole-first text m framed) a.first).0 in
    other (ap (λ (x : Message). x.to) same ∙ a.to)

pub other-reading : (bytes text : List ℕ) (m : Message) (r : Reading) → Framed text m → r ≢ reading_of m.body → IsStreamWired (view bytes text false false false) (answered bytes r) → ⊥
other-reading bytes text m r framed other w =
    let a = the-answer (view bytes text false false false) bytes r w in
    let same = (first-once text m a.message [] a.rest (whole-first text m framed) a.first).0 in
    let means : told.Reply (reading_of a.message.body) ≡ told.Reply r = a.means in
    let is : reading_of a.message.body ≡ r = cc in
    other (sym is ∙ ap (λ (x : Message). reading_of x.body) (sym same))

none-first : (m : Message) (rest : List ℕ) → IsFirst [] m rest → ⊥
none-first m rest first =
    let whole = read-first [] m rest first in
    let short = read-flaw [] (fault.Short 16) flaw-nil in
    cc

pub nothing-came : (bytes : List ℕ) (r : Reading) → IsStreamWired (view bytes [] false false false) (answered bytes r) → ⊥
nothing-came bytes r w = let a = the-answer (view bytes [] false false false) bytes r w in none-first a.message a.rest a.first

pub not-sent : (byte : ℕ) (bytes text : List ℕ) (r : Reading) → IsStreamWired (view bytes text false false false) (answered (byte ∷ bytes) r) → ⊥
not-sent byte bytes text r w =
    let whole : length bytes ≡ length (((byte ∷ bytes) ++ []) ++ w.front) = ap length w.out in
    let outer = length-append ((byte ∷ bytes) ++ []) w.front in
    let inner = length-append (byte ∷ bytes) [] in
    omega (arith, whole, outer, inner)

-- where nothing was answered, what came is the rest
no-answers : (bytes : List ℕ) (ms : List Message) (rest : List ℕ) → Begins bytes ms rest → Answers ms [] → bytes ≡ rest
no-answers bytes [] rest b a = b
no-answers bytes (m ∷ ms) rest b a = absurd a

pub the-rest : (v : Seen) (q : List ℕ) (how : Option Unanswered) (w : IsStreamWired v (unanswered q how)) → v.came ≡ w.rest
the-rest v q how w = no-answers v.came w.answers w.rest w.came w.said

pub answered-late : (bytes text : List ℕ) (m : Message) → Framed text m → IsStreamWired (view bytes text false false true) (unanswered bytes (Some told.Late)) → ⊥
answered-late bytes text m framed w =
    let front : IsFront text = subst IsFront (sym (the-rest (view bytes text false false true) bytes (Some told.Late) w)) w.explained.0 in
    let short = read-flaw text (fault.Short front.need) front.short in
    let whole = read-first text m [] (whole-first text m framed) in
    cc

no-fault : (at : ℕ) → IsFaultyAt [] at → ⊥
no-fault at f =
    let both : Some f.first ≡ Some (fault.Short 16) = sym f.is_flaw ∙ flaw-nil in
    let is : f.first ≡ fault.Short 16 = cc in
    let clash : None ≡ Some at = sym (ap place_of is) ∙ f.is_place in
    cc

pub nothing-bad : (bytes : List ℕ) (at : ℕ) → IsStreamWired (view bytes [] true false false) (unanswered bytes (Some (told.Bad at))) → ⊥
nothing-bad bytes at w =
    let why : IsNoAnswer (pos 1) [] at =
    subst (λ (l : List ℕ). IsNoAnswer (pos 1) l at) (sym (the-rest (view bytes [] true false false) bytes (Some (told.Bad at)) w)) w.explained in
    elim why [
      | inl f ↦ no-fault at f
      | inr a ↦ none-first a.message [] (whole-first [] a.message a.framed)
    ]

-- ---- Times

none-began : (ms : List Message) (rest : List ℕ) → Begins [] ms rest → ms ≡ []
none-began [] rest b = refl
none-began (m ∷ ms) rest b = absurd (none-first m b.0 b.1)

none-among : (m : Message) (ms : List Message) → ms ≡ [] → Contains ms m → ⊥
none-among m ms e h =
    let none : Contains [] m = subst (λ (l : List Message). Contains l m) e h in
    let below = none.1 in
    omega (arith, below)

pub no-time : (stamp : ℕ) → HasCome [] stamp → ⊥
no-time stamp c =
    none-among c.message c.messages (none-began c.messages c.rest (subst (λ (v : Seen). Begins v.came c.messages c.rest) (seen-nil c.stream) c.came)) c.among
