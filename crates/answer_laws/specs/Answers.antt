-- What a command's answer rests on.
use Rattle.std.specs.Prelude.{◌≡◌, ℕ, ℤ, List, Contains, Some, slice_get}
use Rattle.entry_judge.specs.declared.timed.Timed.{Timed}
use Rattle.cmd_outcome.specs.declared.reading.Reading.{Reading}
use Rattle.cmd_outcome.specs.declared.reading.ReplyResult.TheVariants as said
use Rattle.write_retry.specs.declared.outcome.Outcome.TheVariants as outcome
use Rattle.desk_trail.specs.declared.request.Purpose.TheVariants as purpose
use Rattle.desk_trail.specs.Clients.{Client}
use Rattle.desk_trail.specs.Facts.{Fact}
use Rattle.desk_trail.specs.Facts as fact
use Rattle.desk_trail.specs.Streams.{Exchange, account}
use Rattle.desk_trail.specs.Streams as told

-- The command was answered ok: so many documents, of which so many were changed (CRUD).
pub record IsReportedOk (facts : List (Timed Fact)) (op : ℕ) : Type 0 where
  pub moment : ℕ
  pub n : ℤ
  pub modified : ℤ
  pub told : Contains facts (record { at = moment; what = fact.Finished op (outcome.Ok n modified) })

-- A request of the command was answered, on some stream, by a reply that says ok (CRUD, Error handling).
pub record HasOkReply (client : Client) (facts : List (Timed Fact)) (op : ℕ) : Type 0 where
  pub stream : ℕ
  pub nth : ℕ
  pub exchange : Exchange
  pub there : slice_get (account client stream facts).answered nth ≡ Some exchange
  pub is_for : exchange.request.purpose ≡ purpose.Command op
  pub reading : Reading
  pub says : exchange.says ≡ told.Reply reading
  pub n : ℤ
  pub modified : ℤ
  pub ok : reading.result ≡ said.Ok n modified
