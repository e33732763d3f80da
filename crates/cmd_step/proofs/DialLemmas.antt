-- A command dials a connection.
use Rattle.std.proofs.Common.{◌≡◌, ◌≤◌, ◌==◌, ℕ, ◌+◌, Bool, true, false, cond, List, [], ◌∷◌, ◌++◌, Option, None, Some, refl, sym, ap, ◌∙◌, subst, arith}
use Rattle.std.proofs.lemmas.Bool.{eq-eqb}
use Rattle.std.specs.List.{find}
use Rattle.std.specs.Option.{option_map}
use Rattle.std.specs.Prelude.{slice_set}
use Rattle.pool_book.specs.declared.connections.Held.{Held}
use Rattle.pool_book.specs.Entries as pool
use Rattle.pool_book.specs.Pool.{Pool, held_of}
use Rattle.pool_book.specs.Sound.{times, times_of}
use Rattle.write_retry.specs.declared.events.Unsent.TheVariants as unsent
use Rattle.desk_trail.specs.declared.request.Purpose.{Purpose}
use Rattle.desk_trail.specs.declared.request.Purpose.TheVariants as purpose
use Rattle.desk_trail.specs.declared.request.Request.{Request}
use Rattle.desk_trail.specs.Attempts.{CommandAllows, asked_by, asked_event, broken_by, commands_after}
use Rattle.desk_trail.specs.Clients.{Client}
use Rattle.desk_trail.specs.Facts as fact
use Rattle.desk_trail.specs.Legal.{InTime, IsNewStream, MayGoOn, Point, StandsAt, point_after}
use Rattle.desk_trail.specs.Owed.{InTurn, IsHello, Owed, left_owed}
use Rattle.desk_trail.specs.Owed as owed
use Rattle.desk_trail.specs.Pools.{OfHost, PoolAllows, dials_by, dials_now, pools_after, with_pool}
use Rattle.desk_trail.specs.Requests.{IsFor, farewell_by, id_at}
use Rattle.desk_trail.specs.States.{ClientState, CommandState, ConnStream, ServerState, changed, stream_of, with_command, with_server}
use Rattle.server_state.specs.PoolMoves.{MovesBy}
use Rattle.cmd_step.specs.Dials.{with_dial}
use Rattle.cmd_step.specs.Free.{IsFree}
use Rattle.cmd_step.specs.Losses.{HasDialled, IsToTell, loss_owes}
use Rattle.cmd_step.specs.Places.{IsAnswered, with_both}
use Rattle.cmd_step.specs.declared.place.At.{At}
use Rattle.cmd_step.proofs.ListLemmas.{changed-there, changed-twice}
use Rattle.cmd_step.proofs.LossLemmas.{lost}
use Rattle.cmd_step.proofs.PlaceLemmas.{allows, alone, both, ticketed}
use Rattle.cmd_step.proofs.StepLemmas.{Moves}

abbrev pub dialling : ℕ → ℕ → CommandState → CommandState
dialling moment conn c = dials_now moment conn c

abbrev pub streamed : ℕ → ℕ → ServerState → ServerState
streamed conn stream s = record s { conn_streams = record { conn = conn; stream = stream } ∷ s.conn_streams }

abbrev pub dialled : ℕ → ℕ → pool.PoolEntry
dialled conn n = pool.Dialled n conn

pub StandsAt-dialled : (client : Client) (p : Point) (at : At) (conn : ℕ) (stream : Option ℕ) (t : ServerState) (c : CommandState) → IsFree p at.moment → IsNewStream p.state stream →
    IsAnswered p.state at (λ n. pool.Dialled n conn) t c → StandsAt client p (record { at = at.moment; what = fact.Dialled at.op at.host conn stream })
StandsAt-dialled client p at conn stream t c free fresh h = record {
  time = subst (λ o. InTime o p.moment at.moment) (sym free.paid) free.time;
  turn = subst (λ o. InTurn o (fact.Dialled at.op at.host conn stream)) (sym free.paid) tt;
  going = subst (λ g. MayGoOn g (fact.Dialled at.op at.host conn stream)) (sym free.goes_on) tt;
  rule = (
    fresh,
    subst (PoolAllows p.state at.moment) (sym (ticketed p.state at h.ticket c (dialled conn) h.places.command h.waits))
        (allows p.state at.moment at.host (pool.Dialled h.ticket conn) h.server h.places.server h.idle h.moves.stands),
  );
  command = tt;
}

-- ---- Without a stream

pub moves-failed : (client : Client) (p q : Point) (at : At) (conn : ℕ) (t : ServerState) (c : CommandState) → IsFree p at.moment → IsAnswered p.state at (λ n. pool.Dialled n conn) t c →
    q ≡ point_after client p (record { at = at.moment; what = fact.Dialled at.op at.host conn None }) → Moves p q at t (dialling at.moment conn c) (owed.NoDial at.op at.host ∷ [])
moves-failed client p q at conn t c free h e =
    let w = p.state in
    let f = fact.Dialled at.op at.host conn None in
    let en = pool.Dialled h.ticket conn in record {
      state = ap (λ (x : Point). x.state) e
          ∙ ap (λ (o : Option OfHost). with_command (pools_after w at.moment o) at.op (dialling at.moment conn)) (ticketed w at h.ticket c (dialled conn) h.places.command h.waits)
          ∙ both w at h.server t c (dialling at.moment conn c) (with_pool at.moment en) (changed w.commands at.op (dialling at.moment conn)) h.places.server
          (alone at.moment en h.server h.idle refl ∙ sym h.moves.moves) (changed-there w.commands at.op c (dialling at.moment conn) h.places.command);
      owes = ap (λ (x : Point). x.owed) e ∙ ap (λ (os : List Owed). owed.NoDial at.op at.host ∷ left_owed os f) free.paid;
      now = ap (λ (x : Point). x.moment) e;
    }

pub may-tell_failed : (p q : Point) (at : At) (t : ServerState) (d : CommandState) → p.state.is_ending ≡ false → Moves p q at t d (owed.NoDial at.op at.host ∷ []) →
    IsToTell q at (unsent.Dial false)
may-tell_failed p q at t d goes m = record {
  time = subst (λ o. InTime o q.moment at.moment) (sym m.owes) (sym m.now);
  turn = subst (λ o. InTurn o (fact.NotLent at.op at.host (unsent.Dial false))) (sym m.owes) (refl, refl, refl);
  alone = ap (λ (os : List Owed). left_owed os (fact.NotLent at.op at.host (unsent.Dial false))) m.owes;
  goes_on = ap (λ (w : ClientState). w.is_ending) m.state ∙ goes;
}

-- the connection is pending, as it was dialled
times-more : {X : Type 0} (p : X → Bool) (xs : List X) (y : X) → p y ≡ true → times p (xs ++ y ∷ []) ≡ times p xs + 1
times-more p [] y e = rw e refl
times-more p (z ∷ zs) y e = omega (arith, times-more p zs y e)

find-only : {X : Type 0} (p : X → Bool) (xs : List X) (y : X) → p y ≡ true → times p xs ≡ 0 → find p (xs ++ y ∷ []) ≡ Some y
find-only p [] y e h = rw e refl
find-only p (z ∷ zs) y e h =
    elim (p z) as (λ b. cond b 1 0 + times p zs ≡ 0 → cond b (Some z) (find p (zs ++ y ∷ [])) ≡ Some y) [
      | true ↦ λ k. absurd (omega arith)
      | false ↦ λ k. find-only p zs y e (omega arith)
    ] h

abbrev pub new_held : ℕ → ℕ → Pool → Held
new_held conn ticket p = record { conn = conn; ticket = ticket; generation = p.generation }

pub held-dialled : (s u : ServerState) (moment ticket conn : ℕ) → MovesBy moment (pool.Dialled ticket conn) s u → times_of u.pool.state conn ≤ 1 →
    held_of conn u.pool.state.pending ≡ Some (new_held conn ticket s.pool.state)
held-dialled s u moment ticket conn m once =
    let h = new_held conn ticket s.pool.state in
    let p = λ (x : Held). x.conn == conn in
    let passes : p h ≡ true = eq-eqb conn conn refl in
    let now : times_of (pool.after s.pool.state moment (pool.Dialled ticket conn)) conn ≤ 1 = subst (λ (x : ServerState). times_of x.pool.state conn ≤ 1) m.moves once in
    let more = times-more p s.pool.state.pending h passes in
    let none : times p s.pool.state.pending ≡ 0 = omega (arith, now, more) in
    ap (λ (x : ServerState). held_of conn x.pool.state.pending) m.moves ∙ find-only p s.pool.state.pending h passes none

pub has-dialled : (w : ClientState) (at : At) (conn : ℕ) (u : ServerState) (c d : CommandState) (h : IsAnswered w at (λ n. pool.Dialled n conn) u c) → d ≡ dialling at.moment conn c →
    times_of u.pool.state conn ≤ 1 → HasDialled at conn u d
has-dialled w at conn u c d h same once = record {
  held = new_held conn h.ticket h.server.pool.state;
  pending = held-dialled h.server u at.moment h.ticket conn h.moves once;
  dials = ap (λ (x : CommandState). x.check_out) same ∙ ap (dials_by conn) h.waits;
  asks = ap (λ (x : CommandState). x.op.next) same ∙ h.asks;
}

-- the event that its loss owes, in the words of the server behind it
pub same-offers : (w : ClientState) (at : At) (conn : ℕ) (u t : ServerState) (c : CommandState) (h : IsAnswered w at (λ n. pool.Dialled n conn) u c) →
    MovesBy at.moment (lost conn (new_held conn h.ticket h.server.pool.state)) u t →
    loss_owes u (new_held conn h.ticket h.server.pool.state) (unsent.Dial false) ≡ broken_by (Some (record { server = t; generation = t.pool.state.generation }))
same-offers w at conn u t c h m =
    ap (λ n. broken_by (Some (record { server = u; generation = n }))) (sym (ap (λ (x : ServerState). x.pool.state.generation) h.moves.moves))
    ∙ ap (λ (x : ServerState). broken_by (Some (record { server = x; generation = x.pool.state.generation }))) (sym m.moves)

-- ---- With a stream

-- the point behind the dial
pub record IsAhead (p q : Point) (at : At) (conn stream : ℕ) (t : ServerState) (c : CommandState) : Type 0 where
  pub state : q.state ≡ record (with_both p.state at (streamed conn stream t) (dialling at.moment conn c)) { streams = stream ∷ p.state.streams }
  pub owes : q.owed ≡ owed.Hello (purpose.Greeting at.host conn) stream true ∷ []
  pub now : q.moment ≡ at.moment

pub dialled-on : (client : Client) (p q : Point) (at : At) (conn stream : ℕ) (t : ServerState) (c : CommandState) → IsFree p at.moment →
    IsAnswered p.state at (λ n. pool.Dialled n conn) t c → q ≡ point_after client p (record { at = at.moment; what = fact.Dialled at.op at.host conn (Some stream) }) →
    IsAhead p q at conn stream t c
dialled-on client p q at conn stream t c free h e =
    let w = p.state in
    let f = fact.Dialled at.op at.host conn (Some stream) in
    let en = pool.Dialled h.ticket conn in record {
      state = ap (λ (x : Point). x.state) e
          ∙ ap (λ (o : Option OfHost). with_command (on (pools_after w at.moment o)) at.op (dialling at.moment conn)) (ticketed w at h.ticket c (dialled conn) h.places.command h.waits)
          ∙ ap (λ (ss : List ServerState). let v : ClientState = record w { servers = ss; streams = stream ∷ w.streams; commands = changed w.commands at.op (dialling at.moment conn) } in v)
          (changed-twice w.servers at.host h.server (with_pool at.moment en) (streamed conn stream) h.places.server
          ∙ ap (λ (x : ServerState). slice_set w.servers at.host (streamed conn stream x)) (alone at.moment en h.server h.idle refl ∙ sym h.moves.moves))
          ∙ ap (λ (cs : List CommandState). let v : ClientState = record w { servers = slice_set w.servers at.host (streamed conn stream t); streams = stream ∷ w.streams; commands = cs } in v)
          (changed-there w.commands at.op c (dialling at.moment conn) h.places.command);
      owes = ap (λ (x : Point). x.owed) e ∙ ap (λ (os : List Owed). owed.Hello (purpose.Greeting at.host conn) stream true ∷ left_owed os f) free.paid;
      now = ap (λ (x : Point). x.moment) e;
    }
  where
    on : ClientState → ClientState
    on v = with_server (record v { streams = stream ∷ v.streams }) at.host (streamed conn stream)

is-for : (client : Client) (w : ClientState) (moment : ℕ) (time : Option ℕ) (host conn : ℕ) (r : Request) → r.purpose ≡ purpose.Greeting host conn → IsFor client w moment time r.purpose r
is-for client w moment time host conn r e = subst (λ (u : Purpose). IsFor client w moment time u r) (sym e) tt

pub StandsAt-greeted : (client : Client) (p q : Point) (at : At) (conn place : ℕ) (r : Request) (t : ServerState) (c : CommandState) → IsFree p at.moment →
    IsAhead p q at conn r.stream t c → IsHello (purpose.Greeting at.host conn) r.stream true r → place ≡ p.state.requests → r.id ≡ id_at place →
    StandsAt client q (record { at = at.moment; what = fact.Asked place r })
StandsAt-greeted client p q at conn place r t c free m hello count id = record {
  time = subst (λ o. InTime o q.moment at.moment) (sym m.owes) (sym m.now);
  turn = subst (λ o. InTurn o (fact.Asked place r)) (sym m.owes) hello;
  going = subst (λ g. MayGoOn g (fact.Asked place r)) (sym (ap (λ (w : ClientState). w.is_ending) m.state ∙ free.goes_on)) tt;
  rule = record {
    next = count ∙ sym (ap (λ (w : ClientState). w.requests) m.state);
    id = id;
    is_for = is-for client q.state at.moment q.time at.host conn r hello.is_for;
  };
  command = subst (λ (u : Purpose). CommandAllows q.state (asked_event u)) (sym hello.is_for) tt;
}

pub behind-greeted : (client : Client) (p q z : Point) (at : At) (conn place : ℕ) (r : Request) (t u : ServerState) (c d : CommandState) → IsAhead p q at conn r.stream t c →
    IsHello (purpose.Greeting at.host conn) r.stream true r → z ≡ point_after client q (record { at = at.moment; what = fact.Asked place r }) → u ≡ streamed conn r.stream t →
    d ≡ dialling at.moment conn c → z.state ≡ with_dial p.state at r.stream u d
behind-greeted client p q z at conn place r t u c d m hello e server command =
    ap (λ (x : Point). x.state) e
    ∙ ap (λ (y : Purpose). commands_after (asked_event y) (asked_by at.moment y (farewell_by y r.stream (record q.state { requests = q.state.requests + 1 })))) hello.is_for
    ∙ ap (λ (w : ClientState). let v : ClientState = record w { requests = w.requests + 1 } in v) m.state
    ∙ ap (λ (x : ServerState). with_dial p.state at r.stream x (dialling at.moment conn c)) (sym server)
    ∙ ap (λ (x : CommandState). with_dial p.state at r.stream u x) (sym command)

pub paid-greeted : (client : Client) (p q z : Point) (at : At) (conn place : ℕ) (r : Request) (t : ServerState) (c : CommandState) → IsAhead p q at conn r.stream t c →
    z ≡ point_after client q (record { at = at.moment; what = fact.Asked place r }) → z.owed ≡ []
paid-greeted client p q z at conn place r t c m e =
    ap (λ (x : Point). x.owed) e ∙ ap (λ (os : List Owed). left_owed os (fact.Asked place r)) m.owes

pub stream_of-streamed : (conn stream : ℕ) (t u : ServerState) → u ≡ streamed conn stream t → stream_of u conn ≡ Some stream
stream_of-streamed conn stream t u e =
    ap (λ (x : ServerState). stream_of x conn) e
    ∙ ap (λ (b : Bool). option_map (λ (l : ConnStream). l.stream) (cond b (Some (record { conn = conn; stream = stream })) (find (λ (l : ConnStream). l.conn == conn) t.conn_streams)))
    (eq-eqb conn conn refl)
