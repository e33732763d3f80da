-- What is known of the answer of a call that gives what reading gives.
use Rattle.std.proofs.Common.{◌≡◌, ◌≢◌, ◌≤◌, ℕ, List, ◌++◌, length, take, Some, None, Result, Ok, Err, IfOk, IfErr, OnOk, MatchResult, refl, ap, ◌∙◌}
use Rattle.bson_doc.specs.Steps.{fault_of}
use Rattle.bson_doc.proofs.Steps.{Fails-Err, Fails-Ok}
use Rattle.bson_doc.specs.declared.bson_fault.BsonFault.TheVariants as bson_fault
use Rattle.msg_wire.specs.Asking.{IsWhole}
use Rattle.msg_wire.specs.Framing.{Framed}
use Rattle.msg_wire.specs.Reading.{read, flaw}
use Rattle.msg_wire.specs.Steps.{Gives}
use Rattle.msg_wire.specs.declared.fault.MsgFault.{MsgFault}
use Rattle.msg_wire.specs.declared.fault.MsgFault.TheVariants as fault
use Rattle.msg_wire.specs.declared.message.Message.{Message}
use Rattle.msg_wire.proofs.Asked as asked
use Rattle.msg_wire.proofs.PlaceLemmas.{of_bytes}
use Rattle.msg_wire.proofs.Whole as whole

abbrev Answer : Type 0
Answer = Result Message MsgFault

pub found : (bytes : List ℕ) (a : Answer) → Gives (λ m. m) a (read bytes) → IfOk a (λ m. (m.length ≤ length bytes) × Framed (take m.length bytes) m)
found bytes (Ok m) h = whole.read_takes bytes m h
found bytes (Err e) h = tt

pub only : (bytes : List ℕ) (a : Answer) → Gives (λ m. m) a (read bytes) → (text more : List ℕ) (message : Message) → bytes ≡ text ++ more → Framed text message
    → MatchResult a (λ m. m ≡ message) (λ e. e ≡ fault.Memory)
only bytes (Ok m) h text more message split framed = let again : read bytes ≡ Ok message = ap read split ∙ whole.read_again text more message framed in cc
only bytes (Err e) h text more message split framed = Fails-Ok fault.Memory e (read bytes) message h (ap read split ∙ whole.read_again text more message framed)

pub sound : (bytes : List ℕ) (a : Answer) → Gives (λ m. m) a (read bytes) → OnOk a (flaw bytes ≡ None)
sound bytes (Ok m) h = whole.flaw-ok bytes m h
sound bytes (Err e) h = tt

pub flawed : (bytes : List ℕ) (a : Answer) → Gives (λ m. m) a (read bytes) → IfErr a (λ e. e ≢ fault.Memory → flaw bytes ≡ Some e)
unfolding flaw
flawed bytes (Ok m) h = tt
flawed bytes (Err e) h = λ other. ap fault_of (Fails-Err fault.Memory e (read bytes) h other)

-- No fault is that memory ran out inside a document.
pub not_inside : (bytes : List ℕ) (a : Answer) → Gives (λ m. m) a (read bytes) → (at : ℕ) → a ≢ Err (fault.Body at bson_fault.Memory)
not_inside bytes (Ok m) h at e = cc
not_inside bytes (Err f) h at e =
    let same : f ≡ fault.Body at bson_fault.Memory = cc in
    of_bytes bytes (fault.Body at bson_fault.Memory) (flawed bytes (Err f) h (λ memory. cc) ∙ ap Some same) refl

pub all_of_it : (bytes : List ℕ) (a : Answer) → Gives (λ m. m) a (read bytes) → IsWhole bytes → MatchResult a (λ m. Framed bytes m) (λ e. (n : ℕ) → e ≢ fault.Short n)
all_of_it bytes (Ok m) h is_whole = asked.all_of_it bytes is_whole m.length m (whole.read_takes bytes m h).1
all_of_it bytes (Err e) h is_whole = λ n short. asked.not_short bytes is_whole n (flawed bytes (Err e) h (λ memory. cc) ∙ ap Some short)
