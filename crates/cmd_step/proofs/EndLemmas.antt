-- An attempt ends behind its request, and a command is answered.
use Rattle.std.proofs.Common.{◌≡◌, ℕ, List, true, Some, refl, sym, ap, ◌∙◌, subst}
use Rattle.std.specs.Prelude.{slice_get, slice_set}
use Rattle.write_retry.specs.Machine.{allows}
use Rattle.write_retry.specs.declared.attempt_end.AttemptEnd.{AttemptEnd}
use Rattle.write_retry.specs.declared.attempt_end.AttemptEnd.TheVariants as attempt
use Rattle.write_retry.specs.declared.outcome.Outcome.{Outcome}
use Rattle.desk_trail.specs.declared.entry.Entry.TheVariants as entry
use Rattle.desk_trail.specs.Attempts.{IsAnswer, IsEnd, end_by, end_event, finished, with_event}
use Rattle.desk_trail.specs.Clients.{Client}
use Rattle.desk_trail.specs.Facts as fact
use Rattle.desk_trail.specs.Legal.{InTime, MayEndAs, MayGoOn, Point, StandsAt, client_after}
use Rattle.desk_trail.specs.Owed.{InTurn, IsHead}
use Rattle.desk_trail.specs.States.{ClientState, CommandState}
use Rattle.wired_trail.specs.Faults.{tells_fault}
use Rattle.cmd_step.specs.Ends.{IsBehindRequest, with_it}
use Rattle.cmd_step.specs.Free.{IsFree}
use Rattle.cmd_step.proofs.ListLemmas.{changed-there, changed-twice}

head : (op : ℕ) (end : AttemptEnd) → IsBehindRequest end → IsHead (fact.Ended op end)
head op (attempt.Replied reading) b = tt
head op attempt.Cut b = tt
head op attempt.Fault b = tt
head op attempt.TimedOut b = tt
head op (attempt.Bad at) b = tt
head op (attempt.Unsent u) b = absurd b

may_end : (client : Client) (p : Point) (moment op : ℕ) (end : AttemptEnd) (c : CommandState) → IsBehindRequest end → slice_get p.state.commands op ≡ Some c →
    IsEnd client moment end c → MayEndAs client p moment op end
may_end client p moment op (attempt.Replied reading) c b there h = (c, there, h)
may_end client p moment op attempt.Cut c b there h = (c, there, h)
may_end client p moment op attempt.Fault c b there h = (c, there, h)
may_end client p moment op attempt.TimedOut c b there h = (c, there, h)
may_end client p moment op (attempt.Bad at) c b there h = (c, there, h)
may_end client p moment op (attempt.Unsent u) c b there h = absurd b

pub StandsAt-ended : (client : Client) (p : Point) (moment op : ℕ) (end : AttemptEnd) (c : CommandState) → IsFree p moment → slice_get p.state.commands op ≡ Some c →
    IsBehindRequest end → IsEnd client moment end c → allows c.op.next (end_event end) ≡ true → StandsAt client p (record { at = moment; what = fact.Ended op end })
StandsAt-ended client p moment op end c free there behind h awaited = record {
  time = subst (λ o. InTime o p.moment moment) (sym free.paid) free.time;
  turn = subst (λ o. InTurn o (fact.Ended op end)) (sym free.paid) (head op end behind);
  going = subst (λ g. MayGoOn g (fact.Ended op end)) (sym free.goes_on) tt;
  rule = may_end client p moment op end c behind there h;
  command = (c, there, awaited);
}

-- only one that ends by a fault tells of one
pub ended-by_fault : (op : ℕ) (end : AttemptEnd) → tells_fault (entry.Ended op end) ≡ true → end ≡ attempt.Fault
ended-by_fault op (attempt.Replied reading) tells = absurd cc
ended-by_fault op attempt.Cut tells = absurd cc
ended-by_fault op attempt.Fault tells = refl
ended-by_fault op attempt.TimedOut tells = absurd cc
ended-by_fault op (attempt.Bad at) tells = absurd cc
ended-by_fault op (attempt.Unsent u) tells = absurd cc

pub behind-ended : (client : Client) (w : ClientState) (moment op : ℕ) (end : AttemptEnd) (c d : CommandState) → slice_get w.commands op ≡ Some c →
    d ≡ with_event (end_event end) (end_by end c) → client_after client moment w (fact.Ended op end) ≡ with_it w op d
behind-ended client w moment op end c d there command =
    ap (λ (cs : List CommandState). let v : ClientState = record w { commands = cs } in v)
    (changed-twice w.commands op c (end_by end) (with_event (end_event end)) there ∙ ap (slice_set w.commands op) (sym command))

pub StandsAt-finished : (client : Client) (p : Point) (moment op : ℕ) (outcome : Outcome) (c : CommandState) → IsFree p moment → slice_get p.state.commands op ≡ Some c →
    IsAnswer outcome c → StandsAt client p (record { at = moment; what = fact.Finished op outcome })
StandsAt-finished client p moment op outcome c free there h = record {
  time = subst (λ o. InTime o p.moment moment) (sym free.paid) free.time;
  turn = subst (λ o. InTurn o (fact.Finished op outcome)) (sym free.paid) tt;
  going = subst (λ g. MayGoOn g (fact.Finished op outcome)) (sym free.goes_on) tt;
  rule = (c, there, h);
  command = tt;
}

pub behind-finished : (client : Client) (w : ClientState) (moment op : ℕ) (outcome : Outcome) (c d : CommandState) → slice_get w.commands op ≡ Some c → d ≡ finished c →
    client_after client moment w (fact.Finished op outcome) ≡ with_it w op d
behind-finished client w moment op outcome c d there command =
    ap (λ (cs : List CommandState). let v : ClientState = record w { commands = cs } in v)
    (changed-there w.commands op c finished there ∙ ap (slice_set w.commands op) (sym command))
