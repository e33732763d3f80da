-- A connection that a command dialled settles: it is lent to the command, or it is shut and the command gets none.
use Rattle.std.proofs.Common.{◌≡◌, ◌==◌, ◌&&◌, ℕ, Bool, true, false, List, [], ◌∷◌, ◌++◌, map, Option, None, Some, refl, sym, ap, ◌∙◌, subst}
use Rattle.std.proofs.lemmas.Bool.{eq-eqb}
use Rattle.std.proofs.lemmas.List.{append-nil}
use Rattle.std.specs.Option.{option_and_then, option_map}
use Rattle.std.specs.Prelude.{IfSome, slice_get, if◌then◌else◌}
use Rattle.pool_book.specs.Entries as pool
use Rattle.pool_book.specs.Entries.{PoolEntry, owes, refusal}
use Rattle.pool_book.specs.declared.answers.Settled.TheVariants as settled_of
use Rattle.pool_book.specs.declared.connections.Held.{Held}
use Rattle.pool_book.specs.Answers.{settled_answer}
use Rattle.pool_book.specs.Pool.{Pool, is_closed, is_worthless}
use Rattle.write_retry.specs.Machine as machine
use Rattle.write_retry.specs.declared.events.Next.TheVariants as next
use Rattle.write_retry.specs.declared.events.OpEvent.TheVariants as event
use Rattle.write_retry.specs.declared.events.Unsent.{Unsent}
use Rattle.write_retry.specs.declared.events.Unsent.TheVariants as unsent
use Rattle.desk_trail.specs.Attempts.{Endpoint, commands_after, endpoint_at, not_lent_offers, with_event}
use Rattle.desk_trail.specs.Clients.{Client}
use Rattle.desk_trail.specs.Facts as fact
use Rattle.desk_trail.specs.Legal.{Exceeds, InTime, MayGoOn, Point, StandsAt, point_after}
use Rattle.desk_trail.specs.Owed.{InTurn, Owed, left_owed}
use Rattle.desk_trail.specs.Owed as owed
use Rattle.desk_trail.specs.Pools.{OfHost, PoolAllows, at_host, has_by, not_lent_with, owed_in, owed_of, pool_owes, pool_step, pools_after, ticket_dialling, ticket_with, with_pool}
use Rattle.desk_trail.specs.States.{ClientState, CommandState, Dials, ServerState, changed, with_command}
use Rattle.write_retry.specs.declared.attempt_end.AttemptEnd.TheVariants as attempt
use Rattle.pool_book.specs.declared.answers.CloseReason.{CloseReason}
use Rattle.pool_book.specs.Pool.{shut_reason}
use Rattle.desk_trail.specs.declared.entry.Entry.TheVariants as entry
use Rattle.desk_trail.specs.Written.{an_entry}
use Rattle.legal_trail.specs.Recorded.{Adds, Recorded}
use Rattle.server_state.specs.PoolMoves.{MovesBy}
use Rattle.cmd_step.specs.Free.{IsFree}
use Rattle.cmd_step.specs.Losses.{HasDialled}
use Rattle.cmd_step.specs.Places.{AreAt, with_both}
use Rattle.cmd_step.specs.Settlings.{IsSettled, why_stale}
use Rattle.cmd_step.specs.Times.{MayTell, TellsTime}
use Rattle.cmd_step.specs.declared.place.At.{At}
use Rattle.cmd_step.proofs.ListLemmas.{changed-there, changed-twice}
use Rattle.cmd_step.proofs.LossLemmas.{left}
use Rattle.cmd_step.proofs.PlaceLemmas.{allows, both}
use Rattle.cmd_step.proofs.StepLemmas.{AreAt-moved, Ends, IsDue, IsDue-moved, Moves, Moves-trans, StandsAt-shut_due, StandsAt-unsent, due-there, may-tell, moves-shut, moves-unsent, one, owing, owing-by, paid, paid-by, then-news, unsent_by}

-- ---- It settles

dialling : (host ticket conn : ℕ) → ticket_dialling host conn (Dials host ticket conn) ≡ Some ticket
dialling host ticket conn =
    ap (λ (b : Bool). if b && conn == conn then Some ticket else None) (eq-eqb host host refl) ∙ ap (λ (b : Bool). if b then Some ticket else None) (eq-eqb conn conn refl)

step : (w : ClientState) (at : At) (conn : ℕ) (stale : Bool) (s : ServerState) (c : CommandState) (d : HasDialled at conn s c) → slice_get w.commands at.op ≡ Some c →
    pool_step w (fact.Settled at.op at.host conn stale) ≡ Some (at.host, pool.Settled d.held.ticket conn stale)
step w at conn stale s c d there =
    ap (λ (o : Option CommandState). at_host at.host (option_map (λ t. pool.Settled t conn stale) (option_and_then (ticket_dialling at.host conn)
    (option_map (λ (x : CommandState). x.check_out) o)))) there
    ∙ ap (λ k. at_host at.host (option_map (λ t. pool.Settled t conn stale) (ticket_dialling at.host conn k))) d.dials
    ∙ ap (λ o. at_host at.host (option_map (λ t. pool.Settled t conn stale) o)) (dialling at.host d.held.ticket conn)

pub StandsAt-settled : (client : Client) (p : Point) (at : At) (conn : ℕ) (stale : Bool) (t : ServerState) (c : CommandState) → IsFree p at.moment → IsSettled p.state at conn stale t c →
    StandsAt client p (record { at = at.moment; what = fact.Settled at.op at.host conn stale })
StandsAt-settled client p at conn stale t c free h = record {
  time = subst (λ o. InTime o p.moment at.moment) (sym free.paid) free.time;
  turn = subst (λ o. InTurn o (fact.Settled at.op at.host conn stale)) (sym free.paid) tt;
  going = subst (λ g. MayGoOn g (fact.Settled at.op at.host conn stale)) (sym free.goes_on) tt;
  rule = subst (PoolAllows p.state at.moment) (sym (step p.state at conn stale h.server c h.dialled h.places.command))
      (allows p.state at.moment at.host (pool.Settled h.dialled.held.ticket conn stale) h.server h.places.server h.idle h.moves.stands);
  command = tt;
}

abbrev pub all_due : ℕ → List PoolEntry → List Owed
all_due host es = map (λ (d : PoolEntry). owed.OfPool host) es

pub moves-settled : (client : Client) (p q : Point) (at : At) (conn : ℕ) (stale : Bool) (t : ServerState) (c : CommandState) (es : List PoolEntry) → IsFree p at.moment →
    (h : IsSettled p.state at conn stale t c) → owes h.server.pool.state (pool.Settled h.dialled.held.ticket conn stale) ≡ es →
    q ≡ point_after client p (record { at = at.moment; what = fact.Settled at.op at.host conn stale }) →
    Moves p q at (owing at.moment (pool.Settled h.dialled.held.ticket conn stale) h.server es) c (all_due at.host es)
moves-settled client p q at conn stale t c es free h is e =
    let w = p.state in
    let s = h.server in
    let f = fact.Settled at.op at.host conn stale in
    let en = pool.Settled h.dialled.held.ticket conn stale in
    let by = step w at conn stale s c h.dialled h.places.command in
    record {
      state = ap (λ (x : Point). x.state) e
          ∙ ap (λ (o : Option OfHost). pools_after w at.moment o) by
          ∙ one w at s (owing at.moment en s es) c (with_pool at.moment en) h.places (owing-by at.moment en s es h.idle is);
      owes = ap (λ (x : Point). x.owed) e
          ∙ ap (λ (o : Option OfHost). pool_owes w o ++ left_owed p.owed f) by
          ∙ ap (λ (o : Option ServerState). owed_of at.host o en ++ left_owed p.owed f) h.places.server
          ∙ ap (λ (xs : List PoolEntry). owed_in at.host xs s.pool.state en ++ left_owed p.owed f) h.idle
          ∙ ap (λ (xs : List PoolEntry). all_due at.host xs ++ left_owed p.owed f) is
          ∙ ap (λ (os : List Owed). all_due at.host es ++ left_owed os f) free.paid
          ∙ append-nil (all_due at.host es);
      now = ap (λ (x : Point). x.moment) e;
    }

-- its greeting's cluster time may be told
pub news-settled : (client : Client) (p q : Point) (at : At) (conn : ℕ) (stale : Bool) (news : Option ℕ) (first : Owed) (rest : List Owed) →
    IfSome news (λ stamp. Exceeds stamp p.time) → IsDue q at first rest →
    q ≡ point_after client p (record { at = at.moment; what = fact.Settled at.op at.host conn stale }) → IfSome news (MayTell q at.moment)
news-settled client p q at conn stale None first rest h due e = tt
news-settled client p q at conn stale (Some stamp) first rest h due e =
    may-tell q at first rest stamp p.time due (ap (λ (x : Point). x.is_reply) e) (ap (λ (x : Point). x.time) e) h

-- ---- It is lent

with_ticket : (w : ClientState) (at : At) (ticket conn : ℕ) (c : CommandState) → slice_get w.commands at.op ≡ Some c → c.check_out ≡ Dials at.host ticket conn →
    pool_step w (fact.Lent at.op at.host conn) ≡ Some (at.host, pool.Lent ticket conn)
with_ticket w at ticket conn c there dials =
    ap (λ (o : Option CommandState). at_host at.host (option_map (λ t. pool.Lent t conn) (option_and_then (ticket_with at.host) (option_map (λ (x : CommandState). x.check_out) o)))) there
    ∙ ap (λ k. at_host at.host (option_map (λ t. pool.Lent t conn) (ticket_with at.host k))) dials
    ∙ ap (λ (b : Bool). at_host at.host (option_map (λ t. pool.Lent t conn) (if b then Some ticket else None))) (eq-eqb at.host at.host refl)

-- a command that dialled a connection, of which its pool owes the next entry
pub record IsDialling (p : Point) (at : At) (ticket conn : ℕ) (s : ServerState) (c : CommandState) (first : PoolEntry) (more : List PoolEntry) (rest : List Owed) : Type 0 where
  pub places : AreAt p.state at s c
  pub dials : c.check_out ≡ Dials at.host ticket conn
  pub asks : c.op.next ≡ next.CheckOut at.host
  pub owes : s.pool.owed ≡ first ∷ more
  pub due : IsDue p at (owed.OfPool at.host) rest

pub StandsAt-lent_due : (client : Client) (p : Point) (at : At) (ticket conn : ℕ) (s : ServerState) (c : CommandState) (more : List PoolEntry) (rest : List Owed) →
    IsDialling p at ticket conn s c (pool.Lent ticket conn) more rest → StandsAt client p (record { at = at.moment; what = fact.Lent at.op at.host conn })
StandsAt-lent_due client p at ticket conn s c more rest h = record {
  time = subst (λ o. InTime o p.moment at.moment) (sym h.due.owes) (sym h.due.now);
  turn = subst (λ o. InTurn o (fact.Lent at.op at.host conn)) (sym h.due.owes) refl;
  going = subst (λ g. MayGoOn g (fact.Lent at.op at.host conn)) (sym h.due.goes_on) tt;
  rule = subst (PoolAllows p.state at.moment) (sym (with_ticket p.state at ticket conn c h.places.command h.dials))
      (due-there p.state at.moment at.host (pool.Lent ticket conn) s more h.places.server h.owes);
  command = (c, h.places.command, ap (λ n. machine.allows n event.Lent) h.asks);
}

abbrev pub having : ℕ → CommandState → CommandState
having conn c = record c { check_out = has_by conn c.check_out }

pub moves-lent : (client : Client) (p q : Point) (at : At) (ticket conn : ℕ) (s : ServerState) (c : CommandState) (more : List PoolEntry) (rest : List Owed) →
    IsDialling p at ticket conn s c (pool.Lent ticket conn) more rest → q ≡ point_after client p (record { at = at.moment; what = fact.Lent at.op at.host conn }) →
    Moves p q at (paid s more) (with_event event.Lent (having conn c)) rest
moves-lent client p q at ticket conn s c more rest h e =
    let w = p.state in record {
      state = ap (λ (x : Point). x.state) e
          ∙ ap (λ (o : Option OfHost). commands_after (Some (at.op, event.Lent)) (with_command (pools_after w at.moment o) at.op (having conn)))
          (with_ticket w at ticket conn c h.places.command h.dials)
          ∙ both w at s (paid s more) c (with_event event.Lent (having conn c)) (with_pool at.moment (pool.Lent ticket conn))
          (changed (changed w.commands at.op (having conn)) at.op (with_event event.Lent)) h.places.server (paid-by at.moment (pool.Lent ticket conn) s more h.owes)
          (changed-twice w.commands at.op c (having conn) (with_event event.Lent) h.places.command);
      owes = ap (λ (x : Point). x.owed) e ∙ ap (λ (os : List Owed). left_owed os (fact.Lent at.op at.host conn)) h.due.owes;
      now = ap (λ (x : Point). x.moment) e;
    }

-- ---- It is stale

pub stale-ends : (host : ℕ) (p : Pool) → Ends host (why_stale host p)
stale-ends host p = elim (is_closed p.state) as (λ b. Ends host (if b then unsent.PoolClosed host else unsent.PoolCleared p.generation)) [
  | true ↦ record { answers = eq-eqb host host refl; ends = λ client q moment op. tt; settled = λ op s. refl }
  | false ↦ record { answers = refl; ends = λ client q moment op. tt; settled = λ op s. refl }
]

stale-offers : (host : ℕ) (p : Pool) (s : Option Endpoint) → not_lent_offers s (why_stale host p) ≡ []
stale-offers host p s = elim (is_closed p.state) as (λ b. not_lent_offers s (if b then unsent.PoolClosed host else unsent.PoolCleared p.generation) ≡ []) [
  | true ↦ refl
  | false ↦ refl
]

stale-entry : (host ticket conn : ℕ) (p : Pool) → not_lent_with host (why_stale host p) (Dials host ticket conn) ≡ Some (pool.NotLent ticket (refusal p))
stale-entry host ticket conn p =
    elim (is_closed p.state) as (λ b. not_lent_with host (if b then unsent.PoolClosed host else unsent.PoolCleared p.generation) (Dials host ticket conn)
    ≡ Some (pool.NotLent ticket (if b then pool.Closed else pool.Cleared p.generation))) [
      | true ↦ ap (λ (b : Bool). if b then option_map (λ t. pool.NotLent t pool.Closed) (if b then Some ticket else None) else None) (eq-eqb host host refl)
      | false ↦ ap (λ (b : Bool). option_map (λ t. pool.NotLent t (pool.Cleared p.generation)) (if b then Some ticket else None)) (eq-eqb host host refl)
    ]

refused : (w : ClientState) (at : At) (ticket conn : ℕ) (p : Pool) (c : CommandState) → slice_get w.commands at.op ≡ Some c → c.check_out ≡ Dials at.host ticket conn →
    pool_step w (fact.NotLent at.op at.host (why_stale at.host p)) ≡ Some (at.host, pool.NotLent ticket (refusal p))
refused w at ticket conn p c there dials =
    ap (λ (o : Option CommandState). at_host at.host (option_and_then (not_lent_with at.host (why_stale at.host p)) (option_map (λ (x : CommandState). x.check_out) o))) there
    ∙ ap (λ k. at_host at.host (not_lent_with at.host (why_stale at.host p) k)) dials
    ∙ ap (at_host at.host) (stale-entry at.host ticket conn p)

pub StandsAt-refused_due : (client : Client) (r : Point) (at : At) (ticket conn : ℕ) (p : Pool) (s : ServerState) (c : CommandState) (more : List PoolEntry) (rest : List Owed) →
    IsDialling r at ticket conn s c (pool.NotLent ticket (refusal p)) more rest →
    StandsAt client r (record { at = at.moment; what = fact.NotLent at.op at.host (why_stale at.host p) })
StandsAt-refused_due client r at ticket conn p s c more rest h = record {
  time = subst (λ o. InTime o r.moment at.moment) (sym h.due.owes) (sym h.due.now);
  turn = subst (λ o. InTurn o (fact.NotLent at.op at.host (why_stale at.host p))) (sym h.due.owes) refl;
  going = subst (λ g. MayGoOn g (fact.NotLent at.op at.host (why_stale at.host p))) (sym h.due.goes_on) tt;
  rule = subst (PoolAllows r.state at.moment) (sym (refused r.state at ticket conn p c h.places.command h.dials))
      (due-there r.state at.moment at.host (pool.NotLent ticket (refusal p)) s more h.places.server h.owes);
  command = tt;
}

pub moves-refused : (client : Client) (r q : Point) (at : At) (ticket conn : ℕ) (p : Pool) (s : ServerState) (c : CommandState) (more : List PoolEntry) (rest : List Owed) →
    IsDialling r at ticket conn s c (pool.NotLent ticket (refusal p)) more rest →
    q ≡ point_after client r (record { at = at.moment; what = fact.NotLent at.op at.host (why_stale at.host p) }) →
    Moves r q at (paid s more) (left c) (owed.Ended at.op (why_stale at.host p) ∷ rest)
moves-refused client r q at ticket conn p s c more rest h e =
    let w = r.state in
    let why = why_stale at.host p in
    let f = fact.NotLent at.op at.host why in
    let en = pool.NotLent ticket (refusal p) in
    let by = refused w at ticket conn p c h.places.command h.dials in
    record {
      state = ap (λ (x : Point). x.state) e
          ∙ ap (λ (o : Option OfHost). with_command (pools_after w at.moment o) at.op left) by
          ∙ both w at s (paid s more) c (left c) (with_pool at.moment en) (changed w.commands at.op left) h.places.server (paid-by at.moment en s more h.owes)
          (changed-there w.commands at.op c left h.places.command);
      owes = ap (λ (x : Point). x.owed) e
          ∙ ap (λ (o : Option OfHost). (owed.Ended at.op why ∷ (pool_owes w o ++ not_lent_offers (endpoint_at w at.op) why)) ++ left_owed r.owed f) by
          ∙ ap (λ (o : Option ServerState). (owed.Ended at.op why ∷ (owed_of at.host o en ++ not_lent_offers (endpoint_at w at.op) why)) ++ left_owed r.owed f) h.places.server
          ∙ ap (λ (es : List PoolEntry). (owed.Ended at.op why ∷ (owed_in at.host es s.pool.state en ++ not_lent_offers (endpoint_at w at.op) why)) ++ left_owed r.owed f) h.owes
          ∙ ap (λ (os : List Owed). (owed.Ended at.op why ∷ os) ++ left_owed r.owed f) (stale-offers at.host p (endpoint_at w at.op))
          ∙ ap (λ (os : List Owed). owed.Ended at.op why ∷ left_owed os f) h.due.owes;
      now = ap (λ (x : Point). x.moment) e;
    }

-- ---- All of it

abbrev pub Settled : At → ℕ → Bool → Recorded → Recorded → Type 0
Settled at conn stale r q = Adds an_entry r.lists at.moment (entry.Settled at.op at.host conn stale) (fact.Settled at.op at.host conn stale) r q

-- the server once its connection settled, of whose pool these must come next
abbrev pub between : (w : ClientState) (at : At) (conn : ℕ) (stale : Bool) (t : ServerState) (c : CommandState) → IsSettled w at conn stale t c → List PoolEntry → ServerState
between w at conn stale t c h es = owing at.moment (pool.Settled h.dialled.held.ticket conn stale) h.server es

pub at-settled : (r q : Recorded) (at : At) (conn : ℕ) (stale : Bool) (t : ServerState) (c : CommandState) (es : List PoolEntry) → IsFree r.point at.moment →
    (h : IsSettled r.point.state at conn stale t c) → owes h.server.pool.state (pool.Settled h.dialled.held.ticket conn stale) ≡ es → Settled at conn stale r q →
    Moves r.point q.point at (between r.point.state at conn stale t c h es) c (all_due at.host es)
at-settled r q at conn stale t c es free h is settled = moves-settled r.client r.point q.point at conn stale t c es free h is settled.point_now

pub may-hear : (r q : Recorded) (at : At) (conn : ℕ) (stale : Bool) (t : ServerState) (c : CommandState) (news : Option ℕ) (first : PoolEntry) (more : List PoolEntry) →
    IsFree r.point at.moment → (h : IsSettled r.point.state at conn stale t c) →
    owes h.server.pool.state (pool.Settled h.dialled.held.ticket conn stale) ≡ first ∷ more → IfSome news (λ stamp. Exceeds stamp r.point.time) → Settled at conn stale r q →
    IfSome news (MayTell q.point at.moment)
may-hear r q at conn stale t c news first more free h is exceeds settled =
    news-settled r.client r.point q.point at conn stale news (owed.OfPool at.host) (all_due at.host more) exceeds
    (IsDue-moved r.point q.point at (between r.point.state at conn stale t c h (first ∷ more)) c (owed.OfPool at.host) (all_due at.host more) free.goes_on
    (at-settled r q at conn stale t c (first ∷ more) free h is settled)) settled.point_now

pub at-heard : (r q x : Recorded) (at : At) (conn : ℕ) (stale : Bool) (t : ServerState) (c : CommandState) (news : Option ℕ) (es : List PoolEntry) → IsFree r.point at.moment →
    (h : IsSettled r.point.state at conn stale t c) → owes h.server.pool.state (pool.Settled h.dialled.held.ticket conn stale) ≡ es → Settled at conn stale r q →
    TellsTime at.moment news q x → Moves r.point x.point at (between r.point.state at conn stale t c h es) c (all_due at.host es)
at-heard r q x at conn stale t c news es free h is settled heard =
    then-news at news r.point q x h.server (between r.point.state at conn stale t c h es) c c (all_due at.host es) h.places (at-settled r q at conn stale t c es free h is settled) heard

-- the command dials still, and its pool owes the next entry
pub is-dialling : (p q : Point) (at : At) (conn : ℕ) (s t : ServerState) (c : CommandState) (d : HasDialled at conn s c) (first : PoolEntry) (more : List PoolEntry) (rest : List Owed) →
    AreAt p.state at s c → p.state.is_ending ≡ false → t.pool.owed ≡ first ∷ more → Moves p q at t c (owed.OfPool at.host ∷ rest) → IsDialling q at d.held.ticket conn t c first more rest
is-dialling p q at conn s t c d first more rest places goes is m = record {
  places = AreAt-moved p q at s t c c (owed.OfPool at.host ∷ rest) places m;
  dials = d.dials;
  asks = d.asks;
  owes = is;
  due = IsDue-moved p q at t c (owed.OfPool at.host) rest goes m;
}

-- the client behind it
pub behind-settled : (p q : Point) (at : At) (s t u : ServerState) (d e : CommandState) (os : List Owed) → Moves p q at u d os → t ≡ u → e ≡ d → q.state ≡ with_both p.state at t e
behind-settled p q at s t u d e os m moves command =
    m.state ∙ ap (λ (x : ServerState). with_both p.state at x d) (sym moves) ∙ ap (λ (x : CommandState). with_both p.state at t x) (sym command)

-- ---- Of one that is stale

-- what its pool owes
abbrev pub stale_owes : ℕ → ℕ → Pool → List PoolEntry
stale_owes ticket conn p = pool.ConnShut conn (shut_reason p.state false) ∷ pool.NotLent ticket (refusal p) ∷ []

abbrev pub Shut : At → ℕ → CloseReason → Recorded → Recorded → Type 0
Shut at conn reason r q = Adds an_entry r.lists at.moment (entry.ConnShut at.host conn reason) (fact.ConnShut at.host conn reason) r q

abbrev pub Refused : At → Unsent → Recorded → Recorded → Type 0
Refused at why r q = Adds an_entry r.lists at.moment (entry.NotLent at.op at.host why) (fact.NotLent at.op at.host why) r q

abbrev pub Ended : At → Unsent → Recorded → Recorded → Type 0
Ended at why r q = Adds an_entry r.lists at.moment (entry.Ended at.op (attempt.Unsent why)) (fact.Ended at.op (attempt.Unsent why)) r q

abbrev pub Stale : (w : ClientState) (at : At) (conn : ℕ) (t : ServerState) (c : CommandState) → IsSettled w at conn true t c → List PoolEntry → ServerState
Stale w at conn t c h es = between w at conn true t c h es

-- the reason and the refusal, in the words of the server behind it
pub same-reason : (w : ClientState) (at : At) (conn : ℕ) (t : ServerState) (c : CommandState) (reason : CloseReason) (h : IsSettled w at conn true t c) →
    reason ≡ shut_reason t.pool.state.state false → reason ≡ shut_reason h.server.pool.state.state false
same-reason w at conn t c reason h is = is ∙ ap (λ (x : ServerState). shut_reason x.pool.state.state false) h.moves.moves

pub same-why : (w : ClientState) (at : At) (conn : ℕ) (t : ServerState) (c : CommandState) (why : Unsent) (h : IsSettled w at conn true t c) →
    why ≡ why_stale at.host t.pool.state → why ≡ why_stale at.host h.server.pool.state
same-why w at conn t c why h is = is ∙ ap (λ (x : ServerState). why_stale at.host x.pool.state) h.moves.moves

-- ahead of the shut
pub record IsToShut (r x : Recorded) (at : At) (conn : ℕ) (t : ServerState) (c : CommandState) (reason : CloseReason) : Type 0 where
  pub free : IsFree r.point at.moment
  pub settled : IsSettled r.point.state at conn true t c
  pub moved : Moves r.point x.point at (between r.point.state at conn true t c settled (stale_owes settled.dialled.held.ticket conn settled.server.pool.state)) c
      (owed.OfPool at.host ∷ owed.OfPool at.host ∷ [])
  pub is_reason : reason ≡ shut_reason settled.server.pool.state.state false

owed-shut : (ticket conn : ℕ) (p : Pool) (reason : CloseReason) → reason ≡ shut_reason p.state false →
    stale_owes ticket conn p ≡ pool.ConnShut conn reason ∷ pool.NotLent ticket (refusal p) ∷ []
owed-shut ticket conn p reason e = ap (λ (x : CloseReason). pool.ConnShut conn x ∷ pool.NotLent ticket (refusal p) ∷ []) (sym e)

pub StandsAt-shut : (client : Client) (r x : Recorded) (at : At) (conn : ℕ) (t : ServerState) (c : CommandState) (reason : CloseReason) → IsToShut r x at conn t c reason →
    StandsAt client x.point (record { at = at.moment; what = fact.ConnShut at.host conn reason })
StandsAt-shut client r x at conn t c reason h =
    let k = h.settled in
    let p = k.server.pool.state in
    let s = between r.point.state at conn true t c k (stale_owes k.dialled.held.ticket conn p) in
    StandsAt-shut_due client x.point at conn reason s c (owed.OfPool at.host ∷ []) (pool.NotLent k.dialled.held.ticket (refusal p) ∷ [])
    (AreAt-moved r.point x.point at k.server s c c (owed.OfPool at.host ∷ owed.OfPool at.host ∷ []) k.places h.moved) (owed-shut k.dialled.held.ticket conn p reason h.is_reason)
    (IsDue-moved r.point x.point at s c (owed.OfPool at.host) (owed.OfPool at.host ∷ []) h.free.goes_on h.moved)

pub at-shut : (r x y : Recorded) (at : At) (conn : ℕ) (t : ServerState) (c : CommandState) (reason : CloseReason) (h : IsToShut r x at conn t c reason) → Shut at conn reason x y →
    Moves r.point y.point at (between r.point.state at conn true t c h.settled (pool.NotLent h.settled.dialled.held.ticket (refusal h.settled.server.pool.state) ∷ [])) c
    (owed.OfPool at.host ∷ [])
at-shut r x y at conn t c reason h shut =
    let k = h.settled in
    let p = k.server.pool.state in
    let s = between r.point.state at conn true t c k (stale_owes k.dialled.held.ticket conn p) in
    let more = pool.NotLent k.dialled.held.ticket (refusal p) ∷ [] in
    Moves-trans r.point x.point y.point at s (paid s more) c c (owed.OfPool at.host ∷ owed.OfPool at.host ∷ []) (owed.OfPool at.host ∷ []) h.moved
    (moves-shut x.client x.point y.point at conn reason s c (owed.OfPool at.host ∷ []) more
    (AreAt-moved r.point x.point at k.server s c c (owed.OfPool at.host ∷ owed.OfPool at.host ∷ []) k.places h.moved) (owed-shut k.dialled.held.ticket conn p reason h.is_reason)
    (IsDue-moved r.point x.point at s c (owed.OfPool at.host) (owed.OfPool at.host ∷ []) h.free.goes_on h.moved) shut.point_now)

-- ahead of the refusal
pub record IsToRefuse (r y : Recorded) (at : At) (conn : ℕ) (t : ServerState) (c : CommandState) (why : Unsent) : Type 0 where
  pub free : IsFree r.point at.moment
  pub settled : IsSettled r.point.state at conn true t c
  pub moved : Moves r.point y.point at (between r.point.state at conn true t c settled (pool.NotLent settled.dialled.held.ticket (refusal settled.server.pool.state) ∷ [])) c
      (owed.OfPool at.host ∷ [])
  pub is_why : why ≡ why_stale at.host settled.server.pool.state

abbrev dials : (r y : Recorded) (at : At) (conn : ℕ) (t : ServerState) (c : CommandState) (why : Unsent) → IsToRefuse r y at conn t c why → Type 0
dials r y at conn t c why h =
    IsDialling y.point at h.settled.dialled.held.ticket conn
    (between r.point.state at conn true t c h.settled (pool.NotLent h.settled.dialled.held.ticket (refusal h.settled.server.pool.state) ∷ [])) c
    (pool.NotLent h.settled.dialled.held.ticket (refusal h.settled.server.pool.state)) [] []

still : (r y : Recorded) (at : At) (conn : ℕ) (t : ServerState) (c : CommandState) (why : Unsent) (h : IsToRefuse r y at conn t c why) → dials r y at conn t c why h
still r y at conn t c why h =
    let k = h.settled in
    let en = pool.NotLent k.dialled.held.ticket (refusal k.server.pool.state) in
    is-dialling r.point y.point at conn k.server (between r.point.state at conn true t c k (en ∷ [])) c k.dialled en [] [] k.places h.free.goes_on refl h.moved

pub StandsAt-refused : (client : Client) (r y : Recorded) (at : At) (conn : ℕ) (t : ServerState) (c : CommandState) (why : Unsent) → IsToRefuse r y at conn t c why →
    StandsAt client y.point (record { at = at.moment; what = fact.NotLent at.op at.host why })
StandsAt-refused client r y at conn t c why h =
    let k = h.settled in
    let p = k.server.pool.state in
    let en = pool.NotLent k.dialled.held.ticket (refusal p) in
    subst (λ (u : Unsent). StandsAt client y.point (record { at = at.moment; what = fact.NotLent at.op at.host u })) (sym h.is_why)
    (StandsAt-refused_due client y.point at k.dialled.held.ticket conn p (between r.point.state at conn true t c k (en ∷ [])) c [] [] (still r y at conn t c why h))

pub at-refused : (r y z : Recorded) (at : At) (conn : ℕ) (t : ServerState) (c : CommandState) (why : Unsent) (h : IsToRefuse r y at conn t c why) → Refused at why y z →
    Moves r.point z.point at (between r.point.state at conn true t c h.settled []) (left c) (owed.Ended at.op why ∷ [])
at-refused r y z at conn t c why h refuses =
    let k = h.settled in
    let p = k.server.pool.state in
    let en = pool.NotLent k.dialled.held.ticket (refusal p) in
    let s = between r.point.state at conn true t c k (en ∷ []) in
    subst (λ (u : Unsent). Moves r.point z.point at (paid s []) (left c) (owed.Ended at.op u ∷ [])) (sym h.is_why)
    (Moves-trans r.point y.point z.point at s (paid s []) c (left c) (owed.OfPool at.host ∷ []) (owed.Ended at.op (why_stale at.host p) ∷ []) h.moved
    (moves-refused y.client y.point z.point at k.dialled.held.ticket conn p s c [] [] (still r y at conn t c why h)
    (subst (λ (u : Unsent). z.point ≡ point_after y.client y.point (record { at = at.moment; what = fact.NotLent at.op at.host u })) h.is_why refuses.point_now)))

pub why-ends : (r y : Recorded) (at : At) (conn : ℕ) (t : ServerState) (c : CommandState) (why : Unsent) → IsToRefuse r y at conn t c why → Ends at.host why
why-ends r y at conn t c why h = subst (Ends at.host) (sym h.is_why) (stale-ends at.host h.settled.server.pool.state)

pub StandsAt-ended : (client : Client) (r y z : Recorded) (at : At) (conn : ℕ) (t : ServerState) (c : CommandState) (why : Unsent) (h : IsToRefuse r y at conn t c why) →
    Moves r.point z.point at (between r.point.state at conn true t c h.settled []) (left c) (owed.Ended at.op why ∷ []) →
    StandsAt client z.point (record { at = at.moment; what = fact.Ended at.op (attempt.Unsent why) })
StandsAt-ended client r y z at conn t c why h m =
    let s = between r.point.state at conn true t c h.settled [] in
    StandsAt-unsent client z.point at why s (left c) [] (why-ends r y at conn t c why h)
    (AreAt-moved r.point z.point at h.settled.server s c (left c) (owed.Ended at.op why ∷ []) h.settled.places m) h.settled.dialled.asks
    (IsDue-moved r.point z.point at s (left c) (owed.Ended at.op why) [] h.free.goes_on m)

pub at-ended : (r y z e : Recorded) (at : At) (conn : ℕ) (t : ServerState) (c : CommandState) (why : Unsent) (h : IsToRefuse r y at conn t c why) →
    Moves r.point z.point at (between r.point.state at conn true t c h.settled []) (left c) (owed.Ended at.op why ∷ []) → Ended at why z e →
    Moves r.point e.point at (between r.point.state at conn true t c h.settled []) (unsent_by why (left c)) []
at-ended r y z e at conn t c why h m ended =
    let s = between r.point.state at conn true t c h.settled [] in
    Moves-trans r.point z.point e.point at s s (left c) (unsent_by why (left c)) (owed.Ended at.op why ∷ []) [] m
    (moves-unsent z.client z.point e.point at why s (left c) [] (why-ends r y at conn t c why h)
    (AreAt-moved r.point z.point at h.settled.server s c (left c) (owed.Ended at.op why ∷ []) h.settled.places m)
    (IsDue-moved r.point z.point at s (left c) (owed.Ended at.op why) [] h.free.goes_on m) ended.point_now)

-- ---- What its pool says

pub lent-sound : (p : Pool) (h : Held) → settled_of.Lent ≡ settled_answer p h → is_worthless p.state p.generation h.generation ≡ false
lent-sound p h e =
    elim (is_worthless p.state p.generation h.generation) as (λ b. settled_of.Lent ≡ (if b then settled_of.Stale p.generation else settled_of.Lent) → b ≡ false) [
      | true ↦ λ f. absurd (cc)
      | false ↦ λ f. refl
    ] e

pub stale-worthless : (p : Pool) (h : Held) (generation : ℕ) → settled_of.Stale generation ≡ settled_answer p h → is_worthless p.state p.generation h.generation ≡ true
stale-worthless p h generation e =
    elim (is_worthless p.state p.generation h.generation) as (λ b. settled_of.Stale generation ≡ (if b then settled_of.Stale p.generation else settled_of.Lent) → b ≡ true) [
      | true ↦ λ f. refl
      | false ↦ λ f. absurd (cc)
    ] e

pub is-settled : (w : ClientState) (at : At) (conn : ℕ) (stale : Bool) (s t : ServerState) (c : CommandState) → AreAt w at s c → s.pool.owed ≡ [] → (d : HasDialled at conn s c) →
    MovesBy at.moment (pool.Settled d.held.ticket conn (is_worthless s.pool.state.state s.pool.state.generation d.held.generation)) s t →
    is_worthless s.pool.state.state s.pool.state.generation d.held.generation ≡ stale → IsSettled w at conn stale t c
is-settled w at conn stale s t c places idle d m e = record {
  server = s;
  places = places;
  idle = idle;
  dialled = d;
  moves = subst (λ (b : Bool). MovesBy at.moment (pool.Settled d.held.ticket conn b) s t) e m;
}
