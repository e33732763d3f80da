-- A connection comes back, and is shut where it is not kept.
use Rattle.std.proofs.Common.{◌≡◌, ◌==◌, ◌&&◌, ℕ, Bool, true, false, List, [], ◌∷◌, ◌++◌, map, Option, None, Some, refl, sym, ap, ◌∙◌, subst}
use Rattle.std.proofs.lemmas.Bool.{eq-eqb, eqb-true}
use Rattle.std.proofs.lemmas.List.{append-nil}
use Rattle.std.specs.Option.{option_and_then, option_map}
use Rattle.std.specs.Prelude.{slice_get, slice_set, if◌then◌else◌}
use Rattle.entry_judge.specs.Groups as judge
use Rattle.pool_book.proofs.ListLemmas.{find-passes}
use Rattle.pool_book.specs.declared.answers.CloseReason.{CloseReason}
use Rattle.pool_book.specs.declared.answers.Fate.TheVariants as fate
use Rattle.pool_book.specs.declared.connections.Held.{Held}
use Rattle.pool_book.specs.Answers.{fate_answer}
use Rattle.pool_book.specs.Entries as pool
use Rattle.pool_book.specs.Entries.{PoolEntry, after, owes, owes_shut}
use Rattle.pool_book.specs.Judge.{pool_judge}
use Rattle.pool_book.specs.Pool.{Pool, is_kept, shut_reason}
use Rattle.desk_trail.specs.Clients.{Client}
use Rattle.desk_trail.specs.Facts as fact
use Rattle.desk_trail.specs.Legal.{InTime, MayGoOn, Point, StandsAt, client_after, point_after}
use Rattle.desk_trail.specs.Owed.{InTurn, Owed, left_owed}
use Rattle.desk_trail.specs.Owed as owed
use Rattle.desk_trail.specs.Pools.{OfHost, PoolAllows, at_host, owed_in, owed_of, pool_owes, pool_step, pools_after, ticket_having, with_pool}
use Rattle.desk_trail.specs.States.{ClientState, CommandState, Has, Nothing, ServerState, changed, with_command}
use Rattle.server_state.specs.PoolMoves.{MovesBy}
use Rattle.cmd_step.specs.CheckIns.{HasLent, IsToComeBack}
use Rattle.cmd_step.specs.Places.{AreAt, with_both}
use Rattle.cmd_step.specs.declared.checking_in.Back.{Back}
use Rattle.cmd_step.specs.declared.place.At.{At}
use Rattle.cmd_step.proofs.ListLemmas.{changed-there, set-twice, slice_get-set_same}
use Rattle.cmd_step.proofs.PlaceLemmas.{allows, both}

abbrev entry : Back → Held → PoolEntry
entry back h = pool.CheckedIn h.ticket back.conn back.errored

ticketed : (host ticket conn : ℕ) → ticket_having host conn (Has host ticket conn) ≡ Some ticket
ticketed host ticket conn =
    ap (λ (b : Bool). if b && conn == conn then Some ticket else None) (eq-eqb host host refl) ∙ ap (λ (b : Bool). if b then Some ticket else None) (eq-eqb conn conn refl)

step : (w : ClientState) (at : At) (back : Back) (s : ServerState) (c : CommandState) (l : HasLent at back s c) → slice_get w.commands at.op ≡ Some c →
    pool_step w (fact.CheckedIn at.op at.host back.conn back.errored) ≡ Some (at.host, entry back l.held)
step w at back s c l there =
    ap (λ (o : Option CommandState). at_host at.host (option_map (λ t. pool.CheckedIn t back.conn back.errored) (option_and_then (ticket_having at.host back.conn)
    (option_map (λ (d : CommandState). d.check_out) o)))) there
    ∙ ap (λ k. at_host at.host (option_map (λ t. pool.CheckedIn t back.conn back.errored) (ticket_having at.host back.conn k))) l.has
    ∙ ap (λ o. at_host at.host (option_map (λ t. pool.CheckedIn t back.conn back.errored) o)) (ticketed at.host l.held.ticket back.conn)

pub StandsAt-back : (client : Client) (p : Point) (at : At) (back : Back) (s : ServerState) (c : CommandState) → IsToComeBack p at back → AreAt p.state at s c → s.pool.owed ≡ [] →
    HasLent at back s c → StandsAt client p (record { at = at.moment; what = fact.CheckedIn at.op at.host back.conn back.errored })
StandsAt-back client p at back s c next places idle l = record {
  time = subst (λ o. InTime o p.moment at.moment) (sym next.owes) (sym next.now);
  turn = subst (λ o. InTurn o (fact.CheckedIn at.op at.host back.conn back.errored)) (sym next.owes) (refl, refl);
  going = subst (λ g. MayGoOn g (fact.CheckedIn at.op at.host back.conn back.errored)) (sym next.goes_on) tt;
  rule = subst (PoolAllows p.state at.moment) (sym (step p.state at back s c l places.command))
      (allows p.state at.moment at.host (entry back l.held) s places.server idle (l.held, l.lent, refl));
  command = tt;
}

abbrev left : CommandState → CommandState
left c = record c { check_out = Nothing }

-- the server between the two entries
abbrev owing : ℕ → PoolEntry → ServerState → List PoolEntry → ServerState
owing moment e s es = record s { pool = record { state = after s.pool.state moment e; owed = es } }

-- the point behind the first
pub record IsChecked (p q : Point) (at : At) (back : Back) (s : ServerState) (c : CommandState) (h : Held) (es : List PoolEntry) : Type 0 where
  pub state : q.state ≡ with_both p.state at (owing at.moment (entry back h) s es) (left c)
  pub owes : q.owed ≡ map (λ (d : PoolEntry). owed.OfPool at.host) es
  pub now : q.moment ≡ at.moment

pub checked : (client : Client) (p q : Point) (at : At) (back : Back) (s : ServerState) (c : CommandState) (l : HasLent at back s c) → IsToComeBack p at back → AreAt p.state at s c →
    s.pool.owed ≡ [] → q ≡ point_after client p (record { at = at.moment; what = fact.CheckedIn at.op at.host back.conn back.errored }) →
    IsChecked p q at back s c l.held (owes_shut s.pool.state back.errored (Some l.held))
checked client p q at back s c l next places idle e =
    let w = p.state in
    let h = l.held in
    let by = step w at back s c l places.command in
    let f = fact.CheckedIn at.op at.host back.conn back.errored in
    let owes_now : owes s.pool.state (entry back h) ≡ owes_shut s.pool.state back.errored (Some h) = ap (owes_shut s.pool.state back.errored) l.lent in
    record {
      state = ap (λ (x : Point). x.state) e
          ∙ ap (λ (o : Option OfHost). with_command (pools_after w at.moment o) at.op left) by
          ∙ both w at s (owing at.moment (entry back h) s (owes_shut s.pool.state back.errored (Some h))) c (left c) (with_pool at.moment (entry back h)) (changed w.commands at.op left)
          places.server
          (ap (λ (os : List PoolEntry). let t : ServerState = record s { pool = judge.place_by pool_judge s.pool.state os (record { at = at.moment; what = entry back h }) } in t) idle
          ∙ ap (owing at.moment (entry back h) s) owes_now)
          (changed-there w.commands at.op c left places.command);
      owes = ap (λ (x : Point). x.owed) e
          ∙ ap (λ (o : Option OfHost). pool_owes w o ++ left_owed p.owed f) by
          ∙ ap (λ (o : Option ServerState). owed_of at.host o (entry back h) ++ left_owed p.owed f) places.server
          ∙ ap (λ (es : List PoolEntry). owed_in at.host es s.pool.state (entry back h) ++ left_owed p.owed f) idle
          ∙ ap (λ (es : List PoolEntry). map (λ (d : PoolEntry). owed.OfPool at.host) es ++ left_owed p.owed f) owes_now
          ∙ ap (λ (os : List Owed). map (λ (d : PoolEntry). owed.OfPool at.host) (owes_shut s.pool.state back.errored (Some h)) ++ left_owed os f) next.owes
          ∙ append-nil (map (λ (d : PoolEntry). owed.OfPool at.host) (owes_shut s.pool.state back.errored (Some h)));
      now = ap (λ (x : Point). x.moment) e;
    }

-- ---- What its fate says

-- one that is kept owes nothing
pub kept-owes : (p : Pool) (errored : Bool) (h : Held) → fate.Kept ≡ fate_answer p errored h → owes_shut p errored (Some h) ≡ []
kept-owes p errored h e =
    elim (is_kept p errored h) as (λ b. fate.Kept ≡ (if b then fate.Kept else fate.Shut (shut_reason p.state errored)) →
    (if b then [] else pool.ConnShut h.conn (shut_reason p.state errored) ∷ []) ≡ []) [
      | true ↦ λ f. refl
      | false ↦ λ f. absurd (cc)
    ] e

-- one that is shut owes that it is
pub shut-owes : (p : Pool) (errored : Bool) (h : Held) (reason : CloseReason) → fate.Shut reason ≡ fate_answer p errored h →
    owes_shut p errored (Some h) ≡ pool.ConnShut h.conn reason ∷ []
shut-owes p errored h reason e =
    elim (is_kept p errored h) as (λ b. fate.Shut reason ≡ (if b then fate.Kept else fate.Shut (shut_reason p.state errored)) →
    (if b then [] else pool.ConnShut h.conn (shut_reason p.state errored) ∷ []) ≡ pool.ConnShut h.conn reason ∷ []) [
      | true ↦ λ f. absurd (cc)
      | false ↦ λ f. let same : reason ≡ shut_reason p.state errored = (cc) in ap (λ r. pool.ConnShut h.conn r ∷ []) (sym same)
    ] e

pub held-conn : (at : At) (back : Back) (s : ServerState) (c : CommandState) (l : HasLent at back s c) → l.held.conn ≡ back.conn
held-conn at back s c l = eqb-true l.held.conn back.conn (find-passes (λ (x : Held). x.conn == back.conn) s.pool.state.lent l.held l.lent)

pub behind-kept : (p q : Point) (at : At) (back : Back) (s t : ServerState) (c d : CommandState) (h : Held) (es : List PoolEntry) → IsChecked p q at back s c h es → es ≡ [] →
    MovesBy at.moment (entry back h) s t → d ≡ left c → q.state ≡ with_both p.state at t d
behind-kept p q at back s t c d h es m none moves command =
    m.state
    ∙ ap (λ (xs : List PoolEntry). with_both p.state at (owing at.moment (entry back h) s xs) (left c)) none
    ∙ ap (λ (u : ServerState). with_both p.state at u (left c)) (sym moves.moves)
    ∙ ap (λ (x : CommandState). with_both p.state at t x) (sym command)

-- ---- It is shut

pub StandsAt-owed : (client : Client) (p q : Point) (at : At) (back : Back) (reason : CloseReason) (s : ServerState) (c : CommandState) (h : Held) → h.conn ≡ back.conn →
    IsToComeBack p at back → AreAt p.state at s c → IsChecked p q at back s c h (pool.ConnShut h.conn reason ∷ []) →
    StandsAt client q (record { at = at.moment; what = fact.ConnShut at.host back.conn reason })
StandsAt-owed client p q at back reason s c h same next places m = record {
  time = subst (λ o. InTime o q.moment at.moment) (sym m.owes) (sym m.now);
  turn = subst (λ o. InTurn o (fact.ConnShut at.host back.conn reason)) (sym m.owes) refl;
  going = subst (λ g. MayGoOn g (fact.ConnShut at.host back.conn reason)) (sym (ap (λ (w : ClientState). w.is_ending) m.state ∙ next.goes_on)) tt;
  rule = (
    owing at.moment (entry back h) s (pool.ConnShut h.conn reason ∷ []),
    ap (λ (w : ClientState). slice_get w.servers at.host) m.state
        ∙ slice_get-set_same p.state.servers at.host (owing at.moment (entry back h) s (pool.ConnShut h.conn reason ∷ [])) s places.server,
    ap (λ n. pool.ConnShut n reason) (sym same),
  );
  command = tt;
}

pub behind-owed : (client : Client) (p q : Point) (at : At) (back : Back) (reason : CloseReason) (s t : ServerState) (c d : CommandState) (h : Held) → AreAt p.state at s c →
    IsChecked p q at back s c h (pool.ConnShut h.conn reason ∷ []) → MovesBy at.moment (entry back h) s t → d ≡ left c →
    client_after client at.moment q.state (fact.ConnShut at.host back.conn reason) ≡ with_both p.state at t d
behind-owed client p q at back reason s t c d h places m moves command =
    let mid = owing at.moment (entry back h) s (pool.ConnShut h.conn reason ∷ []) in
    ap (λ (w : ClientState). let v : ClientState = record w { servers = changed w.servers at.host (with_pool at.moment (pool.ConnShut back.conn reason)) } in v) m.state
    ∙ ap (λ (ss : List ServerState). let v : ClientState = record (with_both p.state at mid (left c)) { servers = ss } in v)
    (changed-there (slice_set p.state.servers at.host mid) at.host mid (with_pool at.moment (pool.ConnShut back.conn reason))
    (slice_get-set_same p.state.servers at.host mid s places.server)
    ∙ set-twice p.state.servers at.host mid (with_pool at.moment (pool.ConnShut back.conn reason) mid) ∙ ap (slice_set p.state.servers at.host) (sym moves.moves))
    ∙ ap (λ (x : CommandState). with_both p.state at t x) (sym command)
