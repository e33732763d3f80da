-- Entries of a command at a server, one behind another: each moves the client in these two places alone.
use Rattle.std.proofs.Common.{◌≡◌, ◌≤◌, ℕ, ◌+◌, true, false, List, [], ◌∷◌, ◌++◌, Option, None, Some, refl, sym, ap, ◌∙◌, subst, arith}
use Rattle.std.specs.Prelude.{slice_get, slice_set}
use Rattle.entry_judge.specs.Groups as judge
use Rattle.pool_book.specs.declared.answers.CloseReason.{CloseReason}
use Rattle.pool_book.specs.Entries.{MayStand, PoolEntry, after, owes}
use Rattle.pool_book.specs.Entries as pool
use Rattle.pool_book.specs.Judge.{pool_judge}
use Rattle.write_retry.specs.Machine as machine
use Rattle.write_retry.specs.Machine.{answers_check_out}
use Rattle.write_retry.specs.declared.attempt_end.AttemptEnd.TheVariants as attempt
use Rattle.write_retry.specs.declared.events.Next.TheVariants as next
use Rattle.write_retry.specs.declared.events.OpEvent.TheVariants as event
use Rattle.write_retry.specs.declared.events.Unsent.{Unsent}
use Rattle.desk_trail.specs.Attempts.{Endpoint, end_by, end_owes, endpoint_at, with_event}
use Rattle.desk_trail.specs.Clients.{Client}
use Rattle.desk_trail.specs.Facts as fact
use Rattle.desk_trail.specs.Legal.{Exceeds, InTime, MayEndAs, MayGoOn, Point, StandsAt, point_after}
use Rattle.desk_trail.specs.Owed.{InTurn, Owed, left_owed}
use Rattle.desk_trail.specs.Owed as owed
use Rattle.desk_trail.specs.Pools.{PoolAllows, with_pool}
use Rattle.desk_trail.specs.States.{ClientState, CommandState, ServerState, changed}
use Rattle.legal_trail.specs.Recorded.{Recorded}
use Rattle.cmd_step.specs.Places.{AreAt, with_both}
use Rattle.cmd_step.specs.Times.{MayTell, TellsTime}
use Rattle.cmd_step.specs.declared.place.At.{At}
use Rattle.cmd_step.proofs.ListLemmas.{changed-twice, set-itself, set-twice, slice_get-set_same}
use Rattle.cmd_step.proofs.PlaceLemmas.{both}

-- a point behind another: the client is the same but in these places, that must come next, and it is that moment
pub record Moves (p q : Point) (at : At) (t : ServerState) (d : CommandState) (os : List Owed) : Type 0 where
  pub state : q.state ≡ with_both p.state at t d
  pub owes : q.owed ≡ os
  pub now : q.moment ≡ at.moment

pub both-twice : (w : ClientState) (at : At) (s t : ServerState) (c d : CommandState) → with_both (with_both w at s c) at t d ≡ with_both w at t d
both-twice w at s t c d =
    ap (λ (ss : List ServerState). let v : ClientState = record w { servers = ss; commands = slice_set (slice_set w.commands at.op c) at.op d } in v) (set-twice w.servers at.host s t)
    ∙ ap (λ (cs : List CommandState). let v : ClientState = record w { servers = slice_set w.servers at.host t; commands = cs } in v) (set-twice w.commands at.op c d)

pub both-itself : (w : ClientState) (at : At) (s : ServerState) (c : CommandState) → AreAt w at s c → with_both w at s c ≡ w
both-itself w at s c places =
    ap (λ (ss : List ServerState). let v : ClientState = record w { servers = ss; commands = slice_set w.commands at.op c } in v) (set-itself w.servers at.host s places.server)
    ∙ ap (λ (cs : List CommandState). let v : ClientState = record w { commands = cs } in v) (set-itself w.commands at.op c places.command)

pub AreAt-moved : (p q : Point) (at : At) (s t : ServerState) (c d : CommandState) (os : List Owed) → AreAt p.state at s c → Moves p q at t d os → AreAt q.state at t d
AreAt-moved p q at s t c d os places m =
    subst (λ (w : ClientState). AreAt w at t d) (sym m.state) (record {
      server = slice_get-set_same p.state.servers at.host t s places.server;
      command = slice_get-set_same p.state.commands at.op d c places.command;
    })

pub Moves-trans : (p q r : Point) (at : At) (t u : ServerState) (d e : CommandState) (os more : List Owed) → Moves p q at t d os → Moves q r at u e more → Moves p r at u e more
Moves-trans p q r at t u d e os more m n = record {
  state = n.state ∙ ap (λ (w : ClientState). with_both w at u e) m.state ∙ both-twice p.state at t u d e;
  owes = n.owes;
  now = n.now;
}

pub goes_on-moved : (p q : Point) (at : At) (t : ServerState) (d : CommandState) (os : List Owed) → p.state.is_ending ≡ false → Moves p q at t d os → q.state.is_ending ≡ false
goes_on-moved p q at t d os h m = ap (λ (w : ClientState). w.is_ending) m.state ∙ h

-- an entry that must come next, and comes at once
pub record IsDue (p : Point) (at : At) (first : Owed) (rest : List Owed) : Type 0 where
  pub owes : p.owed ≡ first ∷ rest
  pub now : p.moment ≡ at.moment
  pub goes_on : p.state.is_ending ≡ false

pub IsDue-moved : (p q : Point) (at : At) (t : ServerState) (d : CommandState) (first : Owed) (rest : List Owed) → p.state.is_ending ≡ false → Moves p q at t d (first ∷ rest) →
    IsDue q at first rest
IsDue-moved p q at t d first rest h m = record { owes = m.owes; now = m.now; goes_on = goes_on-moved p q at t d (first ∷ rest) h m }

-- the server of whose pool these must come next behind an entry
abbrev pub owing : ℕ → PoolEntry → ServerState → List PoolEntry → ServerState
owing moment e s es = record s { pool = record { state = after s.pool.state moment e; owed = es } }

-- the server once an entry came that was owed
abbrev pub paid : ServerState → List PoolEntry → ServerState
paid s more = record s { pool = record { state = s.pool.state; owed = more } }

pub owing-by : (moment : ℕ) (e : PoolEntry) (s : ServerState) (es : List PoolEntry) → s.pool.owed ≡ [] → owes s.pool.state e ≡ es → with_pool moment e s ≡ owing moment e s es
owing-by moment e s es idle is =
    ap (λ (os : List PoolEntry). let t : ServerState = record s { pool = judge.place_by pool_judge s.pool.state os (record { at = moment; what = e }) } in t) idle
    ∙ ap (owing moment e s) is

pub paid-by : (moment : ℕ) (e : PoolEntry) (s : ServerState) (more : List PoolEntry) → s.pool.owed ≡ e ∷ more → with_pool moment e s ≡ paid s more
paid-by moment e s more is =
    ap (λ (os : List PoolEntry). let t : ServerState = record s { pool = judge.place_by pool_judge s.pool.state os (record { at = moment; what = e }) } in t) is

-- the entry that its pool owes stands there
pub due-there : (w : ClientState) (moment host : ℕ) (e : PoolEntry) (s : ServerState) (more : List PoolEntry) → slice_get w.servers host ≡ Some s → s.pool.owed ≡ e ∷ more →
    PoolAllows w moment (Some (host, e))
due-there w moment host e s more there is = (s, there, subst (λ (os : List PoolEntry). judge.ComesNext os e (MayStand s.pool.state moment e)) (sym is) refl)

-- a server alone
pub one : (w : ClientState) (at : At) (s t : ServerState) (c : CommandState) (f : ServerState → ServerState) → AreAt w at s c → f s ≡ t →
    record w { servers = changed w.servers at.host f } ≡ with_both w at t c
one w at s t c f places moves = both w at s t c c f w.commands places.server moves (sym (set-itself w.commands at.op c places.command))

-- ---- A cluster time

pub StandsAt-time : (client : Client) (p : Point) (moment stamp : ℕ) → MayTell p moment stamp → StandsAt client p (record { at = moment; what = fact.Time stamp })
StandsAt-time client p moment stamp h = record {
  time = h.now;
  turn = tt;
  going = subst (λ g. MayGoOn g (fact.Time stamp)) (sym h.goes_on) tt;
  rule = (h.reply, h.exceeds);
  command = tt;
}

pub moves-news : (at : At) (news : Option ℕ) (old new : Recorded) (s : ServerState) (c : CommandState) → AreAt old.point.state at s c → old.point.moment ≡ at.moment →
    TellsTime at.moment news old new → Moves old.point new.point at s c old.point.owed
moves-news at None old new s c places now told = record {
  state = ap (λ (r : Recorded). r.point.state) told ∙ sym (both-itself old.point.state at s c places);
  owes = ap (λ (r : Recorded). r.point.owed) told;
  now = ap (λ (r : Recorded). r.point.moment) told ∙ now;
}
moves-news at (Some stamp) old new s c places now told = record {
  state = ap (λ (x : Point). x.state) told.point_now ∙ sym (both-itself old.point.state at s c places);
  owes = ap (λ (x : Point). x.owed) told.point_now;
  now = ap (λ (x : Point). x.moment) told.point_now;
}

-- ---- The attempt ends

-- what follows of why by itself
pub record Ends (host : ℕ) (why : Unsent) : Type 0 where
  pub answers : answers_check_out host why ≡ true
  pub ends : (client : Client) (p : Point) (moment op : ℕ) → MayEndAs client p moment op (attempt.Unsent why)
  pub settled : (op : ℕ) (s : Option Endpoint) → end_owes op s (attempt.Unsent why) ≡ []

abbrev pub unsent_by : Unsent → CommandState → CommandState
unsent_by why c = with_event (event.Unsent why) (end_by (attempt.Unsent why) c)

pub StandsAt-unsent : (client : Client) (p : Point) (at : At) (why : Unsent) (s : ServerState) (c : CommandState) (rest : List Owed) → Ends at.host why → AreAt p.state at s c →
    c.op.next ≡ next.CheckOut at.host → IsDue p at (owed.Ended at.op why) rest → StandsAt client p (record { at = at.moment; what = fact.Ended at.op (attempt.Unsent why) })
StandsAt-unsent client p at why s c rest e places asks due = record {
  time = subst (λ o. InTime o p.moment at.moment) (sym due.owes) (sym due.now);
  turn = subst (λ o. InTurn o (fact.Ended at.op (attempt.Unsent why))) (sym due.owes) (refl, refl);
  going = subst (λ g. MayGoOn g (fact.Ended at.op (attempt.Unsent why))) (sym due.goes_on) tt;
  rule = e.ends client p at.moment at.op;
  command = (c, places.command, ap (λ n. machine.allows n (event.Unsent why)) asks ∙ e.answers);
}

pub moves-unsent : (client : Client) (p q : Point) (at : At) (why : Unsent) (s : ServerState) (c : CommandState) (rest : List Owed) → Ends at.host why → AreAt p.state at s c →
    IsDue p at (owed.Ended at.op why) rest → q ≡ point_after client p (record { at = at.moment; what = fact.Ended at.op (attempt.Unsent why) }) → Moves p q at s (unsent_by why c) rest
moves-unsent client p q at why s c rest e places due is =
    let w = p.state in record {
      state = ap (λ (x : Point). x.state) is
          ∙ ap (λ (cs : List CommandState). let v : ClientState = record w { commands = cs } in v)
          (changed-twice w.commands at.op c (end_by (attempt.Unsent why)) (with_event (event.Unsent why)) places.command)
          ∙ ap (λ (ss : List ServerState). let v : ClientState = record w { servers = ss; commands = slice_set w.commands at.op (unsent_by why c) } in v)
          (sym (set-itself w.servers at.host s places.server));
      owes = ap (λ (x : Point). x.owed) is
          ∙ ap (λ (os : List Owed). os ++ left_owed p.owed (fact.Ended at.op (attempt.Unsent why))) (e.settled at.op (endpoint_at w at.op))
          ∙ ap (λ (os : List Owed). left_owed os (fact.Ended at.op (attempt.Unsent why))) due.owes;
      now = ap (λ (x : Point). x.moment) is;
    }

-- ---- A connection is shut that its pool owes to shut

pub StandsAt-shut_due : (client : Client) (p : Point) (at : At) (conn : ℕ) (reason : CloseReason) (s : ServerState) (c : CommandState) (rest : List Owed) (more : List PoolEntry) →
    AreAt p.state at s c → s.pool.owed ≡ pool.ConnShut conn reason ∷ more → IsDue p at (owed.OfPool at.host) rest →
    StandsAt client p (record { at = at.moment; what = fact.ConnShut at.host conn reason })
StandsAt-shut_due client p at conn reason s c rest more places is due = record {
  time = subst (λ o. InTime o p.moment at.moment) (sym due.owes) (sym due.now);
  turn = subst (λ o. InTurn o (fact.ConnShut at.host conn reason)) (sym due.owes) refl;
  going = subst (λ g. MayGoOn g (fact.ConnShut at.host conn reason)) (sym due.goes_on) tt;
  rule = due-there p.state at.moment at.host (pool.ConnShut conn reason) s more places.server is;
  command = tt;
}

pub moves-shut : (client : Client) (p q : Point) (at : At) (conn : ℕ) (reason : CloseReason) (s : ServerState) (c : CommandState) (rest : List Owed) (more : List PoolEntry) →
    AreAt p.state at s c → s.pool.owed ≡ pool.ConnShut conn reason ∷ more → IsDue p at (owed.OfPool at.host) rest →
    q ≡ point_after client p (record { at = at.moment; what = fact.ConnShut at.host conn reason }) → Moves p q at (paid s more) c rest
moves-shut client p q at conn reason s c rest more places is due e = record {
  state = ap (λ (x : Point). x.state) e
      ∙ one p.state at s (paid s more) c (with_pool at.moment (pool.ConnShut conn reason)) places (paid-by at.moment (pool.ConnShut conn reason) s more is);
  owes = ap (λ (x : Point). x.owed) e ∙ ap (λ (os : List Owed). left_owed os (fact.ConnShut at.host conn reason)) due.owes;
  now = ap (λ (x : Point). x.moment) e;
}

-- a cluster time may be told behind an entry that tells a reply
pub may-tell : (q : Point) (at : At) (first : Owed) (rest : List Owed) (stamp : ℕ) (time : Option ℕ) → IsDue q at first rest → q.is_reply ≡ true → q.time ≡ time → Exceeds stamp time →
    MayTell q at.moment stamp
may-tell q at first rest stamp time due reply same h = record {
  now = subst (λ o. InTime o q.moment at.moment) (sym due.owes) (sym due.now);
  goes_on = due.goes_on;
  reply = reply;
  exceeds = subst (Exceeds stamp) (sym same) h;
}

pub then-news : (at : At) (news : Option ℕ) (base : Point) (old new : Recorded) (s t : ServerState) (c d : CommandState) (os : List Owed) → AreAt base.state at s c →
    Moves base old.point at t d os → TellsTime at.moment news old new → Moves base new.point at t d os
then-news at news base old new s t c d os places m told =
    let n = moves-news at news old new t d (AreAt-moved base old.point at s t c d os places m) m.now told in
    record {
      state = n.state ∙ ap (λ (w : ClientState). with_both w at t d) m.state ∙ both-twice base.state at t t d d;
      owes = n.owes ∙ m.owes;
      now = n.now;
    }

-- the room behind it
pub room-behind : (moment : ℕ) (news : Option ℕ) (old new : Recorded) → TellsTime moment news old new → old.room.steps ≤ new.room.steps + 1
room-behind moment None old new told = let same = ap (λ (r : Recorded). r.room.steps) told in omega arith
room-behind moment (Some stamp) old new told = let used = told.room_used.steps in omega arith
