-- The messages that pulls hand out.
use Rattle.std.proofs.Common.{◌≡◌, ◌≢◌, ◌≤◌, ℕ, List, [], ◌∷◌, ◌++◌, None, Some, length, refl, sym, ap, ◌∙◌, subst, append_assoc, append-nil, arith}
use Rattle.std.specs.List.{flat_map}
use Rattle.msg_wire.specs.Fronts.{HasNoneTooMany, IsFront}
use Rattle.msg_wire.specs.Messages.{Begins, IsFirst, IsParted}
use Rattle.msg_wire.specs.Reading.{flaw}
use Rattle.msg_wire.specs.declared.fault.MsgFault.{MsgFault}
use Rattle.msg_wire.specs.declared.fault.MsgFault.TheVariants as fault
use Rattle.msg_wire.specs.declared.message.Message.{Message}
use Rattle.msg_wire.proofs.Asked.{flaw-nil, read-flaw}
use Rattle.msg_wire.proofs.Partings.{none_first, read-first}
use Rattle.msg_wire.proofs.Whole.{flaw-ok}
use Rattle.desk_wire.specs.Messages.{Follow, Sending, Sends, Step, WantedMemory, bytes_queued, bytes_sent, handed, message_in, queued, sent}
use Rattle.desk_wire.specs.Pull.{HandsOut}
use Rattle.desk_wire.specs.declared.answers.Pulled.{Pulled}
use Rattle.desk_wire.specs.declared.answers.Pulled.TheVariants as pulled
use Rattle.desk_wire.proofs.FrontLemmas.{flaw-whole, front-no_message, none_too_many-front, none_too_many-nil}

Begins-same : (bytes other : List ℕ) (messages : List Message) (rest : List ℕ) → other ≡ bytes → Begins bytes messages rest → Begins other messages rest
Begins-same bytes other messages rest same begins = subst (λ (l : List ℕ). Begins l messages rest) (sym same) begins

-- What a pull hands out begins the bytes.
hands-first : (bytes between more : List ℕ) (answer : Pulled) (messages : List Message) (rest : List ℕ) → HandsOut bytes between answer → Begins (between ++ more) messages rest
    → Begins (bytes ++ more) (message_in answer ++ messages) rest
hands-first bytes between more (pulled.Whole message) messages rest hands begins = (
  more,
  record { text = bytes; parts = refl; framed = hands.0 },
  subst (λ (l : List ℕ). Begins (l ++ more) messages rest) hands.1 begins,
)
hands-first bytes between more pulled.NotYet messages rest hands begins = subst (λ (l : List ℕ). Begins (l ++ more) messages rest) hands.0 begins
hands-first bytes between more pulled.End messages rest hands begins = subst (λ (l : List ℕ). Begins (l ++ more) messages rest) hands.0 begins
hands-first bytes between more pulled.Fault messages rest hands begins = subst (λ (l : List ℕ). Begins (l ++ more) messages rest) hands.0 begins
hands-first bytes between more (pulled.Bad first) messages rest hands begins = subst (λ (l : List ℕ). Begins (l ++ more) messages rest) hands.0 begins
hands-first bytes between more pulled.Memory messages rest hands begins = subst (λ (l : List ℕ). Begins (l ++ more) messages rest) hands.0 begins

-- Pulls from bytes that were held.
pub pulls-from : (before : List ℕ) (steps : List Step) (held : List ℕ) → Follow before steps held
    → Begins (before ++ flat_map (λ step. step.came) steps) (flat_map handed steps) held
pulls-from before [] held same = append-nil before ∙ same
pulls-from before (step ∷ steps) held follow =
    let later : Begins (follow.0 ++ flat_map (λ step. step.came) steps) (flat_map handed steps) held = pulls-from follow.0 steps held follow.2 in
    Begins-same _ _ _ held (sym (append_assoc before step.came (flat_map (λ step. step.came) steps)))
    (hands-first (before ++ step.came) follow.0 (flat_map (λ step. step.came) steps) step.answer (flat_map handed steps) held follow.1 later)

-- No message stands at the front of what is held.
abbrev pub NoMessage : List ℕ → Type 0
NoMessage held = (message : Message) (behind : List ℕ) → ¬ IsFirst held message behind

no-message-flaw : (held : List ℕ) (first : MsgFault) → flaw held ≡ Some first → NoMessage held
no-message-flaw held first is_flaw = none_first held first (read-flaw held first is_flaw)

no-message-nil : NoMessage []
no-message-nil = no-message-flaw [] (fault.Short 16) flaw-nil

no-message-front : (held : List ℕ) → IsFront held → NoMessage held
no-message-front held front = no-message-flaw held (fault.Short front.need) front.short

hands-none : (bytes held : List ℕ) (answer : Pulled) → HandsOut bytes held answer → answer ≢ pulled.Memory → NoMessage held
hands-none bytes held (pulled.Whole message) hands other = subst NoMessage (sym hands.1) no-message-nil
hands-none bytes held pulled.NotYet hands other = no-message-front held hands.1
hands-none bytes held pulled.End hands other = no-message-front held hands.1
hands-none bytes held pulled.Fault hands other = no-message-front held hands.1
hands-none bytes held (pulled.Bad first) hands other = no-message-flaw held first hands.1.is_flaw
hands-none bytes held pulled.Memory hands other = absurd (other refl)

-- Behind pulls the last of which did not want memory.
pulls-none : (before : List ℕ) (step : Step) (steps : List Step) (held : List ℕ) → Follow before (step ∷ steps) held → ¬ WantedMemory (step ∷ steps) → NoMessage held
pulls-none before step [] held follow enough = subst NoMessage follow.2 (hands-none (before ++ step.came) follow.0 step.answer follow.1 enough)
pulls-none before step (next ∷ steps) held follow enough = pulls-none follow.0 next steps held follow.2 enough

held-none : (steps : List Step) (held : List ℕ) → Follow [] steps held → ¬ WantedMemory steps → NoMessage held
held-none [] held same enough = subst NoMessage same no-message-nil
held-none (step ∷ steps) held follow enough = pulls-none [] step steps held follow enough

-- All messages that came were handed out.
pub pulls-all : (steps : List Step) (held : List ℕ) → Follow [] steps held → ¬ WantedMemory steps → IsParted (flat_map (λ step. step.came) steps) (flat_map handed steps) held
pulls-all steps held follow enough = record { begins = pulls-from [] steps held follow; no_more = held-none steps held follow enough }

-- No byte behind a message is held.
hands-early : (bytes held : List ℕ) (answer : Pulled) → HandsOut bytes held answer → HasNoneTooMany held
hands-early bytes held (pulled.Whole message) hands = subst HasNoneTooMany (sym hands.1) none_too_many-nil
hands-early bytes held pulled.NotYet hands = none_too_many-front held hands.1.need hands.1.short
hands-early bytes held pulled.End hands = none_too_many-front held hands.1.need hands.1.short
hands-early bytes held pulled.Fault hands = none_too_many-front held hands.1.need hands.1.short
hands-early bytes held (pulled.Bad first) hands = hands.1.early
hands-early bytes held pulled.Memory hands = hands.1

pulls-early : (before : List ℕ) (steps : List Step) (held : List ℕ) → HasNoneTooMany before → Follow before steps held → HasNoneTooMany held
pulls-early before [] held early same = subst HasNoneTooMany same early
pulls-early before (step ∷ steps) held early follow = pulls-early follow.0 steps held (hands-early (before ++ step.came) follow.0 step.answer follow.1) follow.2

some-behind : (bytes : List ℕ) (message : Message) (rest : List ℕ) → IsFirst bytes message rest → bytes ≢ []
some-behind bytes message rest first none =
    let clash : None ≡ Some (fault.Short 16) = sym (flaw-ok bytes message (read-first bytes message rest first)) ∙ ap flaw none ∙ flaw-nil in cc

few-begin : (held : List ℕ) (more : List Message) (rest : List ℕ) → HasNoneTooMany held → Begins held more rest → length more ≤ 1
few-begin held [] rest early begins = omega arith
few-begin held (x ∷ []) rest early begins = omega arith
few-begin held (x ∷ y ∷ more) rest early begins =
    let front : IsFront begins.1.text = early begins.1.text begins.0 begins.1.parts (some-behind begins.0 y begins.2.0 begins.2.1) in
    absurd (front-no_message begins.1.text front (flaw-whole begins.1.text x begins.1.framed))

-- At most one message is still held.
pub pulls-few : (steps : List Step) (held : List ℕ) (more : List Message) (rest : List ℕ) → Follow [] steps held → Begins held more rest → length more ≤ 1
pulls-few steps held more rest follow begins = few-begin held more rest (pulls-early [] steps held none_too_many-nil follow) begins

-- Calls that queue and send, from bytes that were unsent.
pub sends-from : (before : List ℕ) (calls : List Sending) (unsent : List ℕ) → Sends before calls unsent → flat_map bytes_sent calls ++ unsent ≡ before ++ flat_map bytes_queued calls
sends-from before [] unsent same = sym same ∙ sym (append-nil before)
sends-from before (queued bytes ∷ calls) unsent sends = sends-from bytes calls unsent sends.1 ∙ ap (λ (l : List ℕ). l ++ (bytes ++ flat_map bytes_queued calls)) (sym sends.0)
sends-from before (sent bytes ∷ calls) unsent sends =
    append_assoc bytes (flat_map bytes_sent calls) unsent ∙ ap (λ (l : List ℕ). bytes ++ l) (sends-from sends.0 calls unsent sends.2)
    ∙ sym (append_assoc bytes sends.0 (flat_map bytes_queued calls)) ∙ ap (λ (l : List ℕ). l ++ flat_map bytes_queued calls) sends.1
