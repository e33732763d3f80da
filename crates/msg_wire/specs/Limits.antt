-- The limits of a message, and the number of its kind.
use Rattle.std.specs.Prelude.{ℕ}

-- The most bytes that a message has (own: the standard lets the server name the most).
abbrev pub most_message : ℕ
most_message = 48000000

-- The least, which are those of a message with the empty document (MongoDB wire protocol, OP_MSG).
abbrev pub least_message : ℕ
least_message = 26

-- The opCode of OP_MSG (MongoDB wire protocol, Opcodes).
abbrev pub op_msg : ℕ
op_msg = 2013
