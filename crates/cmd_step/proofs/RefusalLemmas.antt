-- A command that waits is refused, and its attempt ends.
use Rattle.std.proofs.Common.{◌≡◌, ◌==◌, ℕ, Bool, true, false, List, [], ◌∷◌, ◌++◌, map, Option, None, Some, refl, sym, ap, ◌∙◌, subst}
use Rattle.std.proofs.lemmas.Bool.{eq-eqb}
use Rattle.std.specs.Option.{option_and_then, option_map}
use Rattle.std.specs.Prelude.{slice_get, slice_set, if◌then◌else◌}
use Rattle.pool_book.specs.Entries as pool
use Rattle.pool_book.specs.Entries.{CheckOutFailure, PoolEntry, owes}
use Rattle.pool_book.specs.Pool.{Pool}
use Rattle.write_retry.specs.Machine as machine
use Rattle.write_retry.specs.Machine.{answers_check_out}
use Rattle.write_retry.specs.declared.attempt_end.AttemptEnd.TheVariants as attempt
use Rattle.write_retry.specs.declared.events.OpEvent.TheVariants as event
use Rattle.write_retry.specs.declared.events.Unsent.{Unsent}
use Rattle.write_retry.specs.declared.events.Unsent.TheVariants as unsent
use Rattle.desk_trail.specs.Attempts.{Endpoint, commands_after, end_by, end_owes, endpoint_at, not_lent_offers, with_event}
use Rattle.desk_trail.specs.Clients.{Client}
use Rattle.desk_trail.specs.Facts as fact
use Rattle.desk_trail.specs.Legal.{InTime, MayEndAs, MayGoOn, Point, StandsAt, client_after, point_after}
use Rattle.desk_trail.specs.Owed.{InTurn, Owed, left_owed}
use Rattle.desk_trail.specs.Owed as owed
use Rattle.desk_trail.specs.Pools.{OfHost, PoolAllows, at_host, not_lent_with, owed_in, owed_of, pool_owes, pool_step, pools_after, ticket_with, with_pool}
use Rattle.desk_trail.specs.States.{ClientState, CommandState, Nothing, ServerState, Waits, changed, with_command}
use Rattle.cmd_step.specs.Free.{IsFree}
use Rattle.cmd_step.specs.Places.{IsAnswered, with_both}
use Rattle.cmd_step.specs.Refusals.{refusal_by}
use Rattle.cmd_step.specs.declared.place.At.{At}
use Rattle.cmd_step.proofs.ListLemmas.{changed-there, changed-twice, set-twice, slice_get-set_same}
use Rattle.cmd_step.proofs.PlaceLemmas.{allows, alone, both}

-- ---- What follows of a refusal by itself

pub record Refuses (host ticket : ℕ) (why : Unsent) (f : CheckOutFailure) : Type 0 where
  pub entry : not_lent_with host why (Waits host ticket) ≡ Some (pool.NotLent ticket f)
  pub none : (p : Pool) → owes p (pool.NotLent ticket f) ≡ []
  pub offers : (s : Option Endpoint) → not_lent_offers s why ≡ []
  pub answers : answers_check_out host why ≡ true
  pub ends : (client : Client) (p : Point) (moment op : ℕ) → MayEndAs client p moment op (attempt.Unsent why)
  pub settled : (op : ℕ) (s : Option Endpoint) → end_owes op s (attempt.Unsent why) ≡ []

ticketed : (host ticket : ℕ) (f : CheckOutFailure) → option_map (λ t. pool.NotLent t f) (ticket_with host (Waits host ticket)) ≡ Some (pool.NotLent ticket f)
ticketed host ticket f = ap (λ (b : Bool). option_map (λ t. pool.NotLent t f) (if b then Some ticket else None)) (eq-eqb host host refl)

closed : (host ticket h : ℕ) (f : CheckOutFailure) (b : Bool) → (h == host) ≡ b → (if b then Some pool.Closed else None) ≡ Some f → Refuses host ticket (unsent.PoolClosed h) f
closed host ticket h f true e is =
    let same : pool.Closed ≡ f = (cc) in
    subst (λ (x : CheckOutFailure). Refuses host ticket (unsent.PoolClosed h) x) same
    (record {
      entry = ap (λ (b : Bool). if b then option_map (λ t. pool.NotLent t pool.Closed) (ticket_with host (Waits host ticket)) else None) e ∙ ticketed host ticket pool.Closed;
      none = λ p. refl;
      offers = λ s. refl;
      answers = e;
      ends = λ client p moment op. tt;
      settled = λ op s. refl;
    })
closed host ticket h f false e is = absurd (cc)

pub refuses : (host ticket : ℕ) (why : Unsent) (f : CheckOutFailure) → refusal_by host why ≡ Some f → Refuses host ticket why f
refuses host ticket unsent.PoolLate f is =
    let same : pool.Late ≡ f = (cc) in
    subst (λ (x : CheckOutFailure). Refuses host ticket unsent.PoolLate x) same
    (record {
      entry = ticketed host ticket pool.Late;
      none = λ p. refl;
      offers = λ s. refl;
      answers = refl;
      ends = λ client p moment op. tt;
      settled = λ op s. refl;
    })
refuses host ticket (unsent.PoolCleared g) f is =
    let same : pool.Cleared g ≡ f = (cc) in
    subst (λ (x : CheckOutFailure). Refuses host ticket (unsent.PoolCleared g) x) same
    (record {
      entry = ticketed host ticket (pool.Cleared g);
      none = λ p. refl;
      offers = λ s. refl;
      answers = refl;
      ends = λ client p moment op. tt;
      settled = λ op s. refl;
    })
refuses host ticket (unsent.PoolClosed h) f is = closed host ticket h f (h == host) refl is
refuses host ticket (unsent.Dial bad) f is = absurd (cc)
refuses host ticket (unsent.Greeting code) f is = absurd (cc)
refuses host ticket (unsent.TooLarge size most) f is = absurd (cc)

-- ---- It gets no connection

step : (w : ClientState) (at : At) (ticket : ℕ) (c : CommandState) (why : Unsent) (f : CheckOutFailure) → Refuses at.host ticket why f → slice_get w.commands at.op ≡ Some c →
    c.check_out ≡ Waits at.host ticket → pool_step w (fact.NotLent at.op at.host why) ≡ Some (at.host, pool.NotLent ticket f)
step w at ticket c why f r there waits =
    ap (λ (o : Option CommandState). at_host at.host (option_and_then (not_lent_with at.host why) (option_map (λ (d : CommandState). d.check_out) o))) there
    ∙ ap (λ k. at_host at.host (not_lent_with at.host why k)) waits
    ∙ ap (at_host at.host) r.entry

pub StandsAt-refused : (client : Client) (p : Point) (at : At) (why : Unsent) (f : CheckOutFailure) (t : ServerState) (c : CommandState) → refusal_by at.host why ≡ Some f →
    IsFree p at.moment → IsAnswered p.state at (λ n. pool.NotLent n f) t c → StandsAt client p (record { at = at.moment; what = fact.NotLent at.op at.host why })
StandsAt-refused client p at why f t c is free h = record {
  time = subst (λ o. InTime o p.moment at.moment) (sym free.paid) free.time;
  turn = subst (λ o. InTurn o (fact.NotLent at.op at.host why)) (sym free.paid) tt;
  going = subst (λ g. MayGoOn g (fact.NotLent at.op at.host why)) (sym free.goes_on) tt;
  rule = subst (PoolAllows p.state at.moment) (sym (step p.state at h.ticket c why f (refuses at.host h.ticket why f is) h.places.command h.waits))
      (allows p.state at.moment at.host (pool.NotLent h.ticket f) h.server h.places.server h.idle h.moves.stands);
  command = tt;
}

abbrev left : CommandState → CommandState
left c = record c { check_out = Nothing }

-- the point behind it
pub record IsUnlent (p q : Point) (at : At) (why : Unsent) (t : ServerState) (c : CommandState) : Type 0 where
  pub state : q.state ≡ with_both p.state at t (record c { check_out = Nothing })
  pub owes : q.owed ≡ owed.Ended at.op why ∷ []
  pub now : q.moment ≡ at.moment

pub refused : (client : Client) (p q : Point) (at : At) (why : Unsent) (f : CheckOutFailure) (t : ServerState) (c : CommandState) → refusal_by at.host why ≡ Some f →
    IsFree p at.moment → IsAnswered p.state at (λ n. pool.NotLent n f) t c → q ≡ point_after client p (record { at = at.moment; what = fact.NotLent at.op at.host why }) →
    IsUnlent p q at why t c
refused client p q at why f t c is free h e =
    let w = p.state in
    let r = refuses at.host h.ticket why f is in
    let s = step w at h.ticket c why f r h.places.command h.waits in
    record {
      state = ap (λ (x : Point). x.state) e
          ∙ ap (λ (o : Option OfHost). with_command (pools_after w at.moment o) at.op left) s
          ∙ both w at h.server t c (left c) (with_pool at.moment (pool.NotLent h.ticket f)) (changed w.commands at.op left) h.places.server
          (alone at.moment (pool.NotLent h.ticket f) h.server h.idle (r.none h.server.pool.state) ∙ sym h.moves.moves) (changed-there w.commands at.op c left h.places.command);
      owes = ap (λ (x : Point). x.owed) e
          ∙ ap (λ (o : Option OfHost). (owed.Ended at.op why ∷ (pool_owes w o ++ not_lent_offers (endpoint_at w at.op) why)) ++ left_owed p.owed (fact.NotLent at.op at.host why)) s
          ∙ ap (λ (o : Option ServerState).
          (owed.Ended at.op why ∷ (owed_of at.host o (pool.NotLent h.ticket f) ++ not_lent_offers (endpoint_at w at.op) why)) ++ left_owed p.owed (fact.NotLent at.op at.host why))
          h.places.server
          ∙ ap (λ (es : List PoolEntry).
          (owed.Ended at.op why ∷ (owed_in at.host es h.server.pool.state (pool.NotLent h.ticket f) ++ not_lent_offers (endpoint_at w at.op) why))
          ++ left_owed p.owed (fact.NotLent at.op at.host why)) h.idle
          ∙ ap (λ (es : List PoolEntry).
          (owed.Ended at.op why ∷ (owed_by at.host es ++ not_lent_offers (endpoint_at w at.op) why)) ++ left_owed p.owed (fact.NotLent at.op at.host why)) (r.none h.server.pool.state)
          ∙ ap (λ (os : List Owed). (owed.Ended at.op why ∷ os) ++ left_owed p.owed (fact.NotLent at.op at.host why)) (r.offers (endpoint_at w at.op))
          ∙ ap (λ (os : List Owed). owed.Ended at.op why ∷ left_owed os (fact.NotLent at.op at.host why)) free.paid;
      now = ap (λ (x : Point). x.moment) e;
    }
  where
    owed_by : ℕ → List PoolEntry → List Owed
    owed_by host es = map (λ d. owed.OfPool host) es

-- ---- Its attempt ends

pub StandsAt-unsent : (client : Client) (p q : Point) (at : At) (why : Unsent) (f : CheckOutFailure) (t : ServerState) (c : CommandState) → refusal_by at.host why ≡ Some f →
    IsFree p at.moment → IsAnswered p.state at (λ n. pool.NotLent n f) t c → IsUnlent p q at why t c →
    StandsAt client q (record { at = at.moment; what = fact.Ended at.op (attempt.Unsent why) })
StandsAt-unsent client p q at why f t c is free h m =
    let r = refuses at.host h.ticket why f is in record {
      time = subst (λ o. InTime o q.moment at.moment) (sym m.owes) (sym m.now);
      turn = subst (λ o. InTurn o (fact.Ended at.op (attempt.Unsent why))) (sym m.owes) (refl, refl);
      going = subst (λ g. MayGoOn g (fact.Ended at.op (attempt.Unsent why))) (sym (ap (λ (w : ClientState). w.is_ending) m.state ∙ free.goes_on)) tt;
      rule = r.ends client q at.moment at.op;
      command = (
        left c,
        ap (λ (w : ClientState). slice_get w.commands at.op) m.state ∙ slice_get-set_same p.state.commands at.op (left c) c h.places.command,
        ap (λ n. machine.allows n (event.Unsent why)) h.asks ∙ r.answers,
      );
    }

pub behind-unsent : (client : Client) (p q : Point) (at : At) (why : Unsent) (f : CheckOutFailure) (t : ServerState) (c d : CommandState) →
    IsAnswered p.state at (λ n. pool.NotLent n f) t c → IsUnlent p q at why t c →
    d ≡ with_event (event.Unsent why) (end_by (attempt.Unsent why) (record c { check_out = Nothing })) →
    client_after client at.moment q.state (fact.Ended at.op (attempt.Unsent why)) ≡ with_both p.state at t d
behind-unsent client p q at why f t c d h m command =
    ap (λ (w : ClientState). commands_after (Some (at.op, event.Unsent why)) (with_command w at.op (end_by (attempt.Unsent why)))) m.state
    ∙ ap (λ (cs : List CommandState). let v : ClientState = record (with_both p.state at t (left c)) { commands = cs } in v)
    (changed-twice (slice_set p.state.commands at.op (left c)) at.op (left c) (end_by (attempt.Unsent why)) (with_event (event.Unsent why))
    (slice_get-set_same p.state.commands at.op (left c) c h.places.command)
    ∙ set-twice p.state.commands at.op (left c) (with_event (event.Unsent why) (end_by (attempt.Unsent why) (left c)))
    ∙ ap (slice_set p.state.commands at.op) (sym command))
