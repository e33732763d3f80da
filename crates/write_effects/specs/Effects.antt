-- How often a client's commands take effect, by the logs of the members that it talked to.
-- own: the sentence that retries of writes are to keep (Retryable Writes: a write is carried out at most once).
use Rattle.std.specs.Prelude.{◌≡◌, ◌≤◌, ℕ, Bool, true, false, List, ◌++◌, filter, length, slice_get}
use Rattle.std.specs.Option.{option_map_or}
use Rattle.entry_judge.specs.declared.timed.Timed.{Timed}
use Rattle.net_link.specs.declared.event.NetEvent.{NetEvent}
use Rattle.member_core.specs.Logs.{set_after}
use Rattle.member_core.specs.declared.log.LogEntry.{LogEntry}
use Rattle.desk_trail.specs.declared.request.Request.{Request}
use Rattle.desk_trail.specs.Clients.{Client}
use Rattle.desk_trail.specs.Facts.{Fact}
use Rattle.desk_trail.specs.Orders.{asks_for}
use Rattle.request_keys.specs.Requests.{requests_on, writes_at}
use Rattle.answer_laws.specs.Answers.{IsReportedOk}

-- A log's entry names a request of the command: the one of its number on its stream.
abbrev pub names : Client → List (Timed Fact) → ℕ → LogEntry → Bool
names client facts op e = option_map_or (λ (r : Request). asks_for op r.purpose) (slice_get (requests_on client facts e.stream) e.nth) false

-- How often the command took effect, by a log: how many of its entries name a request of it.
abbrev pub effects : Client → List (Timed Fact) → ℕ → List LogEntry → ℕ
effects client facts op log = length (filter (names client facts op) log)

-- A command takes effect at most once, by the log of each member and at every moment; and a write that was answered ok has taken
-- effect once, by the log of the member that was elected last.
pub record TakesEffectOnce (client : Client) (facts : List (Timed Fact)) (history : List NetEvent) (op : ℕ) : Type 0 where
  pub at_most : (before after : List NetEvent) (member : ℕ) → history ≡ before ++ after → effects client facts op ((set_after before).log member) ≤ 1
  pub exactly : writes_at client op ≡ true → IsReportedOk facts op → effects client facts op ((set_after history).log ((set_after history).last)) ≡ 1
