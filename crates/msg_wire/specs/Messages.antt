-- The messages at the front of bytes, one after another (MongoDB wire protocol: messages follow one another on a
-- connection): a relation over whole byte strings, and a function that gives them.
use Rattle.std.specs.Prelude.{◌≡◌, ℕ, zero, suc, List, [], ◌∷◌, ◌++◌, length, drop, Result, Ok, Err}
use Rattle.msg_wire.specs.Framing.{Framed}
use Rattle.msg_wire.specs.Reading.{read}
use Rattle.msg_wire.specs.declared.fault.MsgFault.{MsgFault}
use Rattle.msg_wire.specs.declared.message.Message.{Message}

-- The bytes are those of the message, and the rest behind it.
pub record IsFirst (bytes : List ℕ) (message : Message) (rest : List ℕ) : Type 0 where
  pub text : List ℕ
  pub parts : bytes ≡ text ++ rest
  pub framed : Framed text message

-- The bytes begin with these messages, one after another, and the rest stands behind them.
abbrev pub Begins : List ℕ → List Message → List ℕ → Type 0
Begins bytes [] rest = bytes ≡ rest
Begins bytes (message ∷ messages) rest = (behind : List ℕ) × IsFirst bytes message behind × Begins behind messages rest

-- The bytes part into these messages, which are all that stand at the front, and the rest, which no message begins.
pub record IsParted (bytes : List ℕ) (messages : List Message) (rest : List ℕ) : Type 0 where
  pub begins : Begins bytes messages rest
  pub no_more : (message : Message) (behind : List ℕ) → ¬ IsFirst rest message behind

-- Messages, and the bytes behind them.
pub record Parting : Type 0 where
  pub messages : List Message
  pub rest : List ℕ

-- The message that was read at the front and the parting of what is behind it; without one no message is there.
abbrev pub with_message : (List ℕ → Parting) → List ℕ → Result Message MsgFault → Parting
with_message part bytes (Ok message) = record {
  messages = message ∷ (part (drop message.length bytes)).messages;
  rest = (part (drop message.length bytes)).rest;
}
with_message part bytes (Err e) = record { messages = []; rest = bytes }

-- So many messages at the most.
unfoldable pub parting_within : ℕ → List ℕ → Parting
parting_within zero bytes = record { messages = []; rest = bytes }
parting_within (suc most) bytes = with_message (parting_within most) bytes (read bytes)

-- The bytes hold no more messages than they are, since each has a byte at least.
unfoldable pub parting_of : List ℕ → Parting
parting_of bytes = parting_within (length bytes) bytes

-- The framed messages at the front of the bytes, one after another.
abbrev pub messages : List ℕ → List Message
messages bytes = (parting_of bytes).messages

-- What stands behind them.
abbrev pub behind_messages : List ℕ → List ℕ
behind_messages bytes = (parting_of bytes).rest
