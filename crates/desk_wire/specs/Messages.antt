-- What any list of pulls and pushes makes of a wire.
use Rattle.std.specs.Prelude.{◌≡◌, ℕ, List, [], ◌∷◌, ◌++◌}
use Rattle.msg_wire.specs.declared.message.Message.{Message}
use Rattle.desk_wire.specs.Pull.{HandsOut}
use Rattle.desk_wire.specs.declared.answers.Pulled.{Pulled}
use Rattle.desk_wire.specs.declared.answers.Pulled.TheVariants as pulled

-- One pull, by what it did: the bytes that came in it, and its answer.
pub record Step : Type 0 where
  pub came : List ℕ
  pub answer : Pulled

-- The message that a pull hands out, if any.
abbrev pub message_in : Pulled → List Message
message_in (pulled.Whole message) = message ∷ []
message_in _ = []

abbrev pub handed : Step → List Message
handed step = message_in step.answer

-- Pulls one after another, each as the contract of a pull says, from bytes that were held to those that are held now.
abbrev pub Follow : List ℕ → List Step → List ℕ → Type 0
Follow before [] held = before ≡ held
Follow before (step ∷ steps) held = (between : List ℕ) × HandsOut (before ++ step.came) between step.answer × Follow between steps held

-- The last pull wanted memory, so that a message which is there whole may still be held.
abbrev pub WantedMemory : List Step → Type 0
WantedMemory [] = ⊥
WantedMemory (step ∷ []) = step.answer ≡ pulled.Memory
WantedMemory (step ∷ next ∷ steps) = WantedMemory (next ∷ steps)

-- A call of a wire that has to do with what it sends: bytes were queued, when none were unsent, or some were sent.
pub data Sending : Type 0 where
  queued : List ℕ → Sending
  sent : List ℕ → Sending

-- Such calls one after another, from bytes that were unsent to those that are unsent now.
abbrev pub Sends : List ℕ → List Sending → List ℕ → Type 0
Sends before [] unsent = before ≡ unsent
Sends before (queued bytes ∷ calls) unsent = (before ≡ []) × Sends bytes calls unsent
Sends before (sent bytes ∷ calls) unsent = (between : List ℕ) × (bytes ++ between ≡ before) × Sends between calls unsent

-- The bytes that a call queued, and that it sent.
abbrev pub bytes_queued : Sending → List ℕ
bytes_queued (queued bytes) = bytes
bytes_queued (sent bytes) = []

abbrev pub bytes_sent : Sending → List ℕ
bytes_sent (queued bytes) = []
bytes_sent (sent bytes) = bytes
