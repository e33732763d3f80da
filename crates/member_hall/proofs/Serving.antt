-- The requests of a stream, one after another.
use Rattle.std.proofs.Common.{◌≡◌, ◌≢◌, ◌<◌, ◌≤◌, ◌⊎◌, inl, inr, ℕ, Bool, List, [], ◌∷◌, true, false, Some, None, Option, cond, length, take, drop, refl, sym, ap, ◌∙◌, arith, subst, length-drop}
use Rattle.std.specs.Prelude.{not, fold, ◌&&◌}
use Rattle.std.proofs.lemmas.List.{get_or-set_same, length-take-le, take-append-drop}
use Rattle.msg_wire.specs.Framing.{Framed}
use Rattle.msg_wire.specs.Messages.{IsFirst, behind_messages, messages}
use Rattle.msg_wire.specs.Reading.{flaw}
use Rattle.msg_wire.specs.declared.fault.MsgFault.{MsgFault}
use Rattle.msg_wire.specs.declared.fault.MsgFault.TheVariants as fault
use Rattle.msg_wire.specs.declared.message.Message.{Message}
use Rattle.msg_wire.proofs.Asked.{read-flaw}
use Rattle.msg_wire.proofs.Partings.{messages-begin, none_first, parted, parted-once}
use Rattle.msg_wire.proofs.Whole.{length-Framed}
use Rattle.member_hall.specs.Halls.{HallState, line_at, no_line}
use Rattle.member_hall.specs.Lines.{LineState}
use Rattle.member_hall.specs.Playing.{IsFront, IsNext}
use Rattle.member_hall.specs.Requests.{Scene, request, request_by, rule_of}
use Rattle.member_hall.specs.Turns.{checked_on, end_on, is_fault, next_on, place_in, request_on, rest_length, scene_in, served}
use Rattle.member_hall.specs.declared.place.Place.{Place}
use Rattle.member_hall.specs.declared.rule.Rule.{Rule}
use Rattle.member_hall.specs.declared.rule.Rule.TheVariants as rule

-- ---- what stands at the front of bytes

pub front_read : (bytes : List ℕ) (message : Message) → (message.length ≤ length bytes) × Framed (take message.length bytes) message → IsFront bytes message
front_read bytes message found =
    let first : IsFirst bytes message (drop message.length bytes) = record { text = take message.length bytes; parts = sym (take-append-drop message.length bytes); framed = found.1 } in
    let parts = messages-begin bytes (message ∷ []) (drop message.length bytes) (drop message.length bytes, first, refl) in
    let size = length-Framed (take message.length bytes) message found.1 in
    let taken : length (take message.length bytes) ≡ message.length = length-take-le message.length bytes found.0 in
    record { some = omega arith; fits = found.0; first = parts.0; behind = parts.1 }

pub none_read : (bytes : List ℕ) (e : MsgFault) → flaw bytes ≡ Some e → messages bytes ≡ []
none_read bytes e is =
    (parted-once bytes (messages bytes) [] (behind_messages bytes) bytes (parted bytes) (record { begins = refl; no_more = none_first bytes e (read-flaw bytes e is) })).0

-- ---- a stream that its member ended

all_over : (h : HallState) (s : ℕ) (ms : List Message) → (line_at h.lines s).ended ≡ true → fold (next_on s) h ms ≡ h
unfolding next_on
all_over h s [] over = refl
all_over h s (m ∷ ms) over = ap (λ (g : HallState). fold (next_on s) g ms) (ap (λ (b : Bool). cond b h (request_on s h m)) over) ∙ all_over h s ms over

checked_over : (h : HallState) (s : ℕ) → (line_at h.lines s).ended ≡ true → checked_on s h ≡ h
unfolding checked_on
checked_over h s over = ap (λ (b : Bool). cond (not b && is_fault (flaw (line_at h.lines s).rest)) (end_on s h) h) over

pub serve-over : (h : HallState) (s : ℕ) → (line_at h.lines s).ended ≡ true → served s h ≡ h
unfolding served
serve-over h s over = ap (checked_on s) (all_over h s (messages (line_at h.lines s).rest) over) ∙ checked_over h s over

-- ---- one without a whole request

serve_none : (h : HallState) (s : ℕ) (e : MsgFault) (b : Bool) → (line_at h.lines s).ended ≡ false → flaw (line_at h.lines s).rest ≡ Some e → is_fault (Some e) ≡ b → served s h ≡ cond b (end_on s h) h
unfolding served checked_on
serve_none h s e b goes_on is what =
    ap (λ (ms : List Message). checked_on s (fold (next_on s) h ms)) (none_read (line_at h.lines s).rest e is)
    ∙ (λ i. cond (not (goes_on i) && (ap is_fault is ∙ what) i) (end_on s h) h)

pub serve-short : (h : HallState) (s n : ℕ) → (line_at h.lines s).ended ≡ false → flaw (line_at h.lines s).rest ≡ Some (fault.Short n) → served s h ≡ h
serve-short h s n goes_on is = serve_none h s (fault.Short n) false goes_on is refl

fault_other : (e : MsgFault) → ((n : ℕ) → e ≢ fault.Short n) → is_fault (Some e) ≡ true
fault_other (fault.Short n) other = absurd (other n refl)
fault_other (fault.Length got) other = refl
fault_other (fault.Opcode got) other = refl
fault_other (fault.Flags bit) other = refl
fault_other (fault.Sections at) other = refl
fault_other (fault.Body at inner) other = refl
fault_other fault.Memory other = refl

pub serve-fault : (h : HallState) (s : ℕ) (e : MsgFault) → ((n : ℕ) → e ≢ fault.Short n) → (line_at h.lines s).ended ≡ false → flaw (line_at h.lines s).rest ≡ Some e → served s h ≡ end_on s h
serve-fault h s e other goes_on is = serve_none h s e true goes_on is (fault_other e other)

-- ---- one with a request

-- Its member ends it, or the request is behind it.
rest_by : (at : Place) (message : Message) (s : Scene) (o : Option Rule)
    → (((request_by o at message s).line.ended ≡ true) × ((request_by o at message s).line.rest ≡ [])) ⊎ ((request_by o at message s).line.rest ≡ drop message.length s.line.rest)
rest_by at message s None = inr refl
rest_by at message s (Some rule.Drop) = inl (refl, refl)
rest_by at message s (Some rule.Mute) = inl (refl, refl)
rest_by at message s (Some (rule.Late turns)) = inl (refl, refl)
rest_by at message s (Some (rule.Refuse code retryable no_writes)) = inr refl

rest_behind : (h : HallState) (s : ℕ) (message : Message) → IsNext h s message
    → (((line_at (request_on s h message).lines s).ended ≡ true) × ((line_at (request_on s h message).lines s).rest ≡ [])) ⊎ ((line_at (request_on s h message).lines s).rest ≡ drop message.length (line_at h.lines s).rest)
unfolding request_on
rest_behind h s message next =
    let new : Scene = request (place_in h s) message (scene_in h s) in
    subst (λ (l : LineState). ((l.ended ≡ true) × (l.rest ≡ [])) ⊎ (l.rest ≡ drop message.length (line_at h.lines s).rest)) (sym (get_or-set_same h.lines s new.line no_line next.there))
    (rest_by (place_in h s) message (scene_in h s) (rule_of (scene_in h s).peer message))

pub serve-less : (h : HallState) (s : ℕ) (message : Message) → IsNext h s message → rest_length (request_on s h message) s < rest_length h s
serve-less h s message next =
    let some = next.front.some in
    let fits = next.front.fits in
    elim (rest_behind h s message next) [
      | inl over ↦ let none : rest_length (request_on s h message) s ≡ 0 = ap length over.1 in omega arith
      | inr rest ↦ let size : rest_length (request_on s h message) s ≡ length (drop message.length (line_at h.lines s).rest) = ap length rest in omega (arith, length-drop message.length (line_at h.lines s).rest)
    ]

serve_first : (h : HallState) (s : ℕ) (message : Message) → IsNext h s message → served s h ≡ checked_on s (fold (next_on s) (request_on s h message) (messages (drop message.length (line_at h.lines s).rest)))
unfolding served next_on
serve_first h s message next =
    let later : List Message = messages (drop message.length (line_at h.lines s).rest) in
    ap (λ (ms : List Message). checked_on s (fold (next_on s) h ms)) next.front.first
    ∙ ap (λ (b : Bool). checked_on s (fold (next_on s) (cond b h (request_on s h message)) later)) next.goes_on

pub serve-step : (h : HallState) (s : ℕ) (message : Message) → IsNext h s message → served s (request_on s h message) ≡ served s h
unfolding served
serve-step h s message next =
    let g : HallState = request_on s h message in
    let later : List Message = messages (drop message.length (line_at h.lines s).rest) in
    elim (rest_behind h s message next) [
      | inl over ↦ serve-over g s over.0 ∙ sym (ap (checked_on s) (all_over g s later over.0) ∙ checked_over g s over.0) ∙ sym (serve_first h s message next)
      | inr rest ↦ ap (λ (l : List ℕ). checked_on s (fold (next_on s) g (messages l))) rest ∙ sym (serve_first h s message next)
    ]
