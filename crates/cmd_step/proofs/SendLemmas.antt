-- A command's request is queued, or the command is too large.
use Rattle.std.proofs.Common.{◌≡◌, ℕ, ◌+◌, List, true, Some, length, refl, sym, ap, ◌∙◌, subst}
use Rattle.std.specs.Prelude.{slice_get, slice_set}
use Rattle.write_retry.specs.Machine.{allows, answers_send}
use Rattle.write_retry.specs.declared.attempt_end.AttemptEnd.TheVariants as attempt
use Rattle.write_retry.specs.declared.events.Next.{Next}
use Rattle.write_retry.specs.declared.events.Next.TheVariants as next
use Rattle.write_retry.specs.declared.events.OpEvent.TheVariants as event
use Rattle.write_retry.specs.declared.events.Unsent.{Unsent}
use Rattle.write_retry.specs.declared.events.Unsent.TheVariants as unsent
use Rattle.desk_trail.specs.declared.request.Purpose.{Purpose}
use Rattle.desk_trail.specs.declared.request.Request.{Request}
use Rattle.desk_trail.specs.Attempts.{CommandAllows, asked_by, asked_event, commands_after, with_event}
use Rattle.desk_trail.specs.Facts as fact
use Rattle.desk_trail.specs.Legal.{InTime, MayEndAs, MayGoOn, StandsAt, client_after}
use Rattle.desk_trail.specs.Owed.{InTurn, MayAsk}
use Rattle.desk_trail.specs.Requests.{IsFor, farewell_by}
use Rattle.desk_trail.specs.States.{ClientState, CommandState}
use Rattle.legal_trail.specs.Recorded.{Recorded}
use Rattle.cmd_step.specs.Free.{IsFree}
use Rattle.cmd_step.specs.Sending.{IsNextOf, IsOver, with_request}
use Rattle.cmd_step.proofs.ListLemmas.{changed-twice}

-- ---- Queued

pub StandsAt-sent : (r : Recorded) (moment op : ℕ) (request : Request) (c : CommandState) → IsFree r.point moment → slice_get r.point.state.commands op ≡ Some c →
    c.op.next ≡ next.Send → IsNextOf r op request → StandsAt r.client r.point (record { at = moment; what = fact.Asked (length r.lists.requests) request })
StandsAt-sent r moment op request c free there sends is = let f = fact.Asked (length r.lists.requests) request in record {
  time = subst (λ o. InTime o r.point.moment moment) (sym free.paid) free.time;
  turn = subst (λ o. InTurn o f) (sym free.paid) (subst MayAsk (sym is.is_for) tt);
  going = subst (λ g. MayGoOn g f) (sym free.goes_on) tt;
  rule = record {
    next = sym is.counted;
    id = is.id;
    is_for = subst (λ u. IsFor r.client r.point.state moment r.point.time u request) (sym is.is_for) is.is_of;
  };
  command = subst (λ u. CommandAllows r.point.state (asked_event u)) (sym is.is_for)
      (c, there, subst (λ (n : Next). allows n event.Sent ≡ true) (sym sends) refl);
}

pub behind-sent : (r : Recorded) (moment op : ℕ) (request : Request) (c d : CommandState) → slice_get r.point.state.commands op ≡ Some c → IsNextOf r op request →
    d ≡ with_event event.Sent (record c { asked = Some moment }) →
    client_after r.client moment r.point.state (fact.Asked (length r.lists.requests) request) ≡ with_request r.point.state op d
behind-sent r moment op request c d there is command =
    let w : ClientState = record r.point.state { requests = r.point.state.requests + 1 } in
    ap (λ (y : Purpose). commands_after (asked_event y) (asked_by moment y (farewell_by y request.stream w))) is.is_for
    ∙ ap (λ (cs : List CommandState). let v : ClientState = record w { commands = cs } in v)
    (changed-twice w.commands op c (λ (x : CommandState). record x { asked = Some moment }) (with_event event.Sent) there ∙ ap (slice_set w.commands op) (sym command))

-- ---- Too large

over-head : (r : Recorded) (op : ℕ) (why : Unsent) → IsOver r op why → answers_send why ≡ true
over-head r op (unsent.TooLarge size most) h = refl
over-head r op why h = absurd h

over-ends : (r : Recorded) (moment op : ℕ) (why : Unsent) → IsOver r op why → MayEndAs r.client r.point moment op (attempt.Unsent why)
over-ends r moment op (unsent.TooLarge size most) h = h
over-ends r moment op why h = absurd h

pub over-allowed : (r : Recorded) (op : ℕ) (why : Unsent) (n : Next) → n ≡ next.Send → IsOver r op why → allows n (event.Unsent why) ≡ true
over-allowed r op why n sends h = subst (λ (m : Next). allows m (event.Unsent why) ≡ true) (sym sends) (over-head r op why h)

pub StandsAt-too_large : (r : Recorded) (moment op : ℕ) (why : Unsent) (c : CommandState) → IsFree r.point moment → slice_get r.point.state.commands op ≡ Some c →
    c.op.next ≡ next.Send → IsOver r op why → StandsAt r.client r.point (record { at = moment; what = fact.Ended op (attempt.Unsent why) })
StandsAt-too_large r moment op why c free there sends over = let f = fact.Ended op (attempt.Unsent why) in record {
  time = subst (λ o. InTime o r.point.moment moment) (sym free.paid) free.time;
  turn = subst (λ o. InTurn o f) (sym free.paid) (over-head r op why over);
  going = subst (λ g. MayGoOn g f) (sym free.goes_on) tt;
  rule = over-ends r moment op why over;
  command = (c, there, over-allowed r op why c.op.next sends over);
}
