-- What the outcomes of a command mean (CRUD specification, results and errors).
use Rattle.std.specs.Prelude.{Bool, true, false}
use Rattle.cmd_outcome.specs.declared.reading.ReplyResult.{ReplyResult}
use Rattle.cmd_outcome.specs.declared.reading.ReplyResult.TheVariants as reply
use Rattle.write_retry.specs.declared.outcome.Outcome.{Outcome}
use Rattle.write_retry.specs.declared.outcome.Outcome.TheVariants as outcome

-- The command was carried out: the reply's `ok` is one, and the reply says nothing that qualifies it.
abbrev pub is_ok : Outcome → Bool
is_ok (outcome.Ok n modified) = true
is_ok _ = false

-- What a reply says.
abbrev pub said_by : ReplyResult → Outcome
said_by (reply.Ok n modified) = outcome.Ok n modified
said_by (reply.WriteErrors count first) = outcome.WriteErrors count first
said_by (reply.Concern code) = outcome.Concern code
said_by (reply.Error code) = outcome.Error code
