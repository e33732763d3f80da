-- A server's pool moved, and a command with it.
use Rattle.std.proofs.Common.{◌≡◌, ◌==◌, ℕ, Bool, true, List, [], Option, None, Some, refl, sym, ap, ◌∙◌, subst}
use Rattle.std.proofs.lemmas.Bool.{eq-eqb}
use Rattle.std.specs.Option.{option_and_then, option_map}
use Rattle.std.specs.Prelude.{slice_get, slice_set, if◌then◌else◌}
use Rattle.entry_judge.specs.Groups as judge
use Rattle.pool_book.specs.Entries.{MayStand, PoolEntry, after, owes}
use Rattle.pool_book.specs.Entries as pool
use Rattle.pool_book.specs.Judge.{pool_judge}
use Rattle.write_retry.specs.Machine as machine
use Rattle.write_retry.specs.declared.events.OpEvent.TheVariants as event
use Rattle.desk_trail.specs.Attempts.{IsToEnter, commands_after, with_event}
use Rattle.desk_trail.specs.Clients.{Client}
use Rattle.desk_trail.specs.Facts as fact
use Rattle.desk_trail.specs.Legal.{InTime, MayGoOn, Point, StandsAt, client_after}
use Rattle.desk_trail.specs.Owed.{InTurn}
use Rattle.desk_trail.specs.Pools.{OfHost, PoolAllows, at_host, check_out_of, has_by, pools_after, ticket_with, waits_now, with_pool}
use Rattle.desk_trail.specs.States.{ClientState, CommandState, ServerState, Waits, changed, with_command}
use Rattle.server_state.specs.PoolMoves.{behind_group}
use Rattle.cmd_step.specs.Free.{IsFree}
use Rattle.cmd_step.specs.Places.{AreAt, IsAnswered, with_both}
use Rattle.cmd_step.specs.declared.place.At.{At}
use Rattle.cmd_step.proofs.ListLemmas.{changed-there, changed-twice}

-- an entry of a pool of which nothing must come next
pub allows : (w : ClientState) (moment host : ℕ) (e : PoolEntry) (s : ServerState) → slice_get w.servers host ≡ Some s → s.pool.owed ≡ [] → MayStand s.pool.state moment e →
    PoolAllows w moment (Some (host, e))
allows w moment host e s there idle may =
    (s, there, subst (λ (os : List PoolEntry). judge.ComesNext os e (MayStand s.pool.state moment e)) (sym idle) may)

-- the server behind an entry that owes nothing
pub alone : (moment : ℕ) (e : PoolEntry) (s : ServerState) → s.pool.owed ≡ [] → owes s.pool.state e ≡ [] → with_pool moment e s ≡ behind_group moment e s
alone moment e s idle none =
    ap (λ (os : List PoolEntry). let t : ServerState = record s { pool = judge.place_by pool_judge s.pool.state os (record { at = moment; what = e }) } in t) idle
    ∙ ap (λ (es : List PoolEntry). let t : ServerState = record s { pool = record { state = after s.pool.state moment e; owed = es } } in t) none

-- both are changed in their places
pub both : (w : ClientState) (at : At) (s t : ServerState) (c d : CommandState) (f : ServerState → ServerState) (cs : List CommandState) → slice_get w.servers at.host ≡ Some s → f s ≡ t →
    cs ≡ slice_set w.commands at.op d → record w { servers = changed w.servers at.host f; commands = cs } ≡ with_both w at t d
both w at s t c d f cs there moves now =
    ap (λ (ss : List ServerState). let v : ClientState = record w { servers = ss; commands = cs } in v)
    (changed-there w.servers at.host s f there ∙ ap (slice_set w.servers at.host) moves)
    ∙ ap (λ (xs : List CommandState). let v : ClientState = record w { servers = slice_set w.servers at.host t; commands = xs } in v) now

-- ---- A command enters

pub StandsAt-entered : (client : Client) (p : Point) (at : At) (ticket : ℕ) (s : ServerState) (c : CommandState) → IsFree p at.moment → AreAt p.state at s c → s.pool.owed ≡ [] →
    IsToEnter at.host c → MayStand s.pool.state at.moment (pool.Entered ticket) → StandsAt client p (record { at = at.moment; what = fact.Entered at.op at.host ticket })
StandsAt-entered client p at ticket s c free places idle chose may = record {
  time = subst (λ o. InTime o p.moment at.moment) (sym free.paid) free.time;
  turn = subst (λ o. InTurn o (fact.Entered at.op at.host ticket)) (sym free.paid) tt;
  going = subst (λ g. MayGoOn g (fact.Entered at.op at.host ticket)) (sym free.goes_on) tt;
  rule = ((c, places.command, chose), allows p.state at.moment at.host (pool.Entered ticket) s places.server idle may);
  command = tt;
}

pub behind-entered : (client : Client) (w : ClientState) (at : At) (ticket : ℕ) (s t : ServerState) (c d : CommandState) → AreAt w at s c → s.pool.owed ≡ [] →
    t ≡ behind_group at.moment (pool.Entered ticket) s → d ≡ waits_now at.host ticket c →
    client_after client at.moment w (fact.Entered at.op at.host ticket) ≡ with_both w at t d
behind-entered client w at ticket s t c d places idle server command =
    both w at s t c d (with_pool at.moment (pool.Entered ticket)) (changed w.commands at.op (waits_now at.host ticket)) places.server
    (alone at.moment (pool.Entered ticket) s idle refl ∙ sym server)
    (changed-there w.commands at.op c (waits_now at.host ticket) places.command ∙ ap (slice_set w.commands at.op) (sym command))

-- ---- A command that waits

same-host : (n : ℕ) → (n == n) ≡ true
same-host n = eq-eqb n n refl

pub ticketed : (w : ClientState) (at : At) (ticket : ℕ) (c : CommandState) (e : ℕ → PoolEntry) → slice_get w.commands at.op ≡ Some c → c.check_out ≡ Waits at.host ticket →
    at_host at.host (option_map e (option_and_then (ticket_with at.host) (check_out_of w at.op))) ≡ Some (at.host, e ticket)
ticketed w at ticket c e there waits =
    ap (λ (o : Option CommandState). at_host at.host (option_map e (option_and_then (ticket_with at.host) (option_map (λ (d : CommandState). d.check_out) o)))) there
    ∙ ap (λ k. at_host at.host (option_map e (ticket_with at.host k))) waits
    ∙ ap (λ (b : Bool). at_host at.host (option_map e (if b then Some ticket else None))) (same-host at.host)

-- ---- It is lent a connection

pub StandsAt-lent : (client : Client) (p : Point) (at : At) (conn : ℕ) (t : ServerState) (c : CommandState) → IsFree p at.moment → IsAnswered p.state at (λ n. pool.Lent n conn) t c →
    StandsAt client p (record { at = at.moment; what = fact.Lent at.op at.host conn })
StandsAt-lent client p at conn t c free h = record {
  time = subst (λ o. InTime o p.moment at.moment) (sym free.paid) free.time;
  turn = subst (λ o. InTurn o (fact.Lent at.op at.host conn)) (sym free.paid) tt;
  going = subst (λ g. MayGoOn g (fact.Lent at.op at.host conn)) (sym free.goes_on) tt;
  rule = subst (PoolAllows p.state at.moment) (sym (ticketed p.state at h.ticket c (λ n. pool.Lent n conn) h.places.command h.waits))
      (allows p.state at.moment at.host (pool.Lent h.ticket conn) h.server h.places.server h.idle h.moves.stands);
  command = (c, h.places.command, ap (λ n. machine.allows n event.Lent) h.asks);
}

pub behind-lent : (client : Client) (w : ClientState) (at : At) (conn : ℕ) (t : ServerState) (c d : CommandState) → IsAnswered w at (λ n. pool.Lent n conn) t c →
    d ≡ with_event event.Lent (record c { check_out = has_by conn c.check_out }) → client_after client at.moment w (fact.Lent at.op at.host conn) ≡ with_both w at t d
behind-lent client w at conn t c d h command =
    ap (λ (o : Option OfHost). commands_after (Some (at.op, event.Lent)) (with_command (pools_after w at.moment o) at.op (λ (x : CommandState). record x { check_out = has_by conn x.check_out })))
    (ticketed w at h.ticket c (λ n. pool.Lent n conn) h.places.command h.waits)
    ∙ both w at h.server t c d (with_pool at.moment (pool.Lent h.ticket conn))
    (changed (changed w.commands at.op (λ (x : CommandState). record x { check_out = has_by conn x.check_out })) at.op (with_event event.Lent)) h.places.server
    (alone at.moment (pool.Lent h.ticket conn) h.server h.idle refl ∙ sym h.moves.moves)
    (changed-twice w.commands at.op c (λ (x : CommandState). record x { check_out = has_by conn x.check_out }) (with_event event.Lent) h.places.command
    ∙ ap (slice_set w.commands at.op) (sym command))
