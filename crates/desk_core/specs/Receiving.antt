-- What private functions say of the end of an attempt whose request was queued (Retryable Writes; SDAM, Error handling).
use Rattle.std.specs.Prelude.{◌≡◌, ◌≢◌, ◌≤◌, ◌⊎◌, ℕ, true, List, Option, None, map, option_to_list}
use Rattle.net_link.specs.Causes.{Rose}
use Rattle.write_retry.specs.declared.attempt_end.AttemptEnd.{AttemptEnd}
use Rattle.write_retry.specs.declared.attempt_end.AttemptEnd.TheVariants as attempt
use Rattle.cmd_reply.specs.declared.attempt.AttemptResult.{AttemptResult}
use Rattle.cmd_step.specs.Ends.{IsBehindRequest}
use Rattle.topo_rules.specs.declared.event.TopoEvent.{TopoEvent}
use Rattle.desk_trail.specs.Legal.{is_replied}
use Rattle.desk_trail.specs.Owed.{Owed}
use Rattle.desk_trail.specs.Owed as owed

-- An attempt ended behind its request, as timed out only where its limit is reached; and only a reply has a cluster time.
pub record IsHeard (limit moment : ℕ) (r : AttemptResult) : Type 0 where
  pub behind : IsBehindRequest r.end
  pub late : r.end ≡ attempt.TimedOut → limit ≤ moment
  pub replied : r.time ≢ None → is_replied r.end ≡ true

-- The event is to be offered, where there is one.
abbrev pub offers : Option TopoEvent → List Owed
offers event = map (λ e. owed.Offered e) (option_to_list event)

-- A call of the net failed: one did that counted, or the attempt ended so.
abbrev pub FailsBy : (before now : ℕ) → AttemptEnd → Type 0
FailsBy before now end = Rose before now ⊎ (end ≡ attempt.Fault)
