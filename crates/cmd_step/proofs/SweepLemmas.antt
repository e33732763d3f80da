-- One connection after another is shut.
use Rattle.std.proofs.Common.{◌≡◌, ◌≢◌, ◌≤◌, ◌==◌, not, ℕ, ◌+◌, inl, inr, true, false, List, [], length, Some, refl, sym, ap, ◌∙◌, subst, arith}
use Rattle.std.proofs.lemmas.Bool.{eqb-true}
use Rattle.std.proofs.lemmas.Bool.Decides.{eqb_tells}
use Rattle.std.proofs.lemmas.Map.Views.{any-filter_same}
use Rattle.std.proofs.lemmas.Option.{IfSome_then}
use Rattle.std.specs.Option.{option_map}
use Rattle.std.specs.Prelude.{IfSome, find, slice_get, slice_set}
use Rattle.pool_book.specs.declared.answers.CloseReason.{CloseReason}
use Rattle.pool_book.specs.declared.connections.Available.{Available}
use Rattle.pool_book.specs.Entries as pool
use Rattle.pool_book.specs.Pool.{without_available}
use Rattle.desk_trail.specs.declared.entry.Entry.TheVariants as entry
use Rattle.desk_trail.specs.Clients.{Client}
use Rattle.desk_trail.specs.Facts as fact
use Rattle.desk_trail.specs.Legal.{InTime, MayGoOn, Point, StandsAt, client_after}
use Rattle.desk_trail.specs.Owed.{InTurn, Owed, left_owed}
use Rattle.desk_trail.specs.Pools.{with_pool}
use Rattle.desk_trail.specs.States.{ClientState, ConnStream, ServerState, stream_of}
use Rattle.desk_trail.specs.Written.{an_entry}
use Rattle.legal_trail.specs.Recorded.{Adds, Recorded}
use Rattle.server_state.specs.PoolMoves.{MovesBy}
use Rattle.wired_trail.specs.Lines.{Lines}
use Rattle.wired_trail.specs.declared.stream_use.StreamUse.{StreamUse}
use Rattle.wired_trail.specs.declared.stream_use.StreamUse.TheVariants as for_use
use Rattle.cmd_step.specs.Closed.{ClosesOnly, IsUnused}
use Rattle.cmd_step.specs.Free.{IsFree}
use Rattle.cmd_step.specs.Sweeps.{AreUnused, IsSweeping, is_among, more, none, with_one}
use Rattle.cmd_step.proofs.ClosedLemmas.{IsUnused-closed}
use Rattle.cmd_step.proofs.ListLemmas.{changed-there, set-itself, set-twice, slice_get-set_same}
use Rattle.cmd_step.proofs.PlaceLemmas.{allows, alone}

pub StandsAt-shut : (client : Client) (p : Point) (host moment conn : ℕ) (reason : CloseReason) (s t : ServerState) → IsFree p moment → slice_get p.state.servers host ≡ Some s →
    s.pool.owed ≡ [] → MovesBy moment (pool.ConnShut conn reason) s t → StandsAt client p (record { at = moment; what = fact.ConnShut host conn reason })
StandsAt-shut client p host moment conn reason s t free there idle m = record {
  time = subst (λ o. InTime o p.moment moment) (sym free.paid) free.time;
  turn = subst (λ o. InTurn o (fact.ConnShut host conn reason)) (sym free.paid) tt;
  going = subst (λ g. MayGoOn g (fact.ConnShut host conn reason)) (sym free.goes_on) tt;
  rule = allows p.state moment host (pool.ConnShut conn reason) s there idle m.stands;
  command = tt;
}

pub behind-shut : (client : Client) (w : ClientState) (host moment conn : ℕ) (reason : CloseReason) (s t : ServerState) → slice_get w.servers host ≡ Some s → s.pool.owed ≡ [] →
    MovesBy moment (pool.ConnShut conn reason) s t → client_after client moment w (fact.ConnShut host conn reason) ≡ with_one w host t
behind-shut client w host moment conn reason s t there idle m =
    ap (λ (ss : List ServerState). let v : ClientState = record w { servers = ss } in v)
    (changed-there w.servers host s (with_pool moment (pool.ConnShut conn reason)) there
    ∙ ap (slice_set w.servers host) (alone moment (pool.ConnShut conn reason) s idle refl ∙ sym m.moves))

pub begins : (host moment : ℕ) (r : Recorded) (s : ServerState) → IsFree r.point moment → slice_get r.point.state.servers host ≡ Some s → s.pool.owed ≡ [] →
    IsSweeping host moment r r s s
begins host moment r s free there idle = record {
  free = free;
  there = there;
  idle = idle;
  streams = refl;
  moved = ap (λ (ss : List ServerState). let v : ClientState = record r.point.state { servers = ss } in v) (sym (set-itself r.point.state.servers host s there));
  shuts = none;
  room = omega arith;
}

pub goes_on : (host moment conn : ℕ) (reason : CloseReason) (old mid new : Recorded) (s t u : ServerState) → IsSweeping host moment old mid s t →
    MovesBy moment (pool.ConnShut conn reason) t u → length u.pool.state.available + 1 ≤ length t.pool.state.available →
    Adds an_entry mid.lists moment (entry.ConnShut host conn reason) (fact.ConnShut host conn reason) mid new → new.point.state ≡ with_one mid.point.state host u →
    IsSweeping host moment old new s u
goes_on host moment conn reason old mid new s t u h m fewer adds moved =
    let used = adds.room_used.steps in
    let room = h.room in
    record {
      free = record {
        paid = ap (λ (p : Point). p.owed) adds.point_now ∙ ap (λ (os : List Owed). left_owed os (fact.ConnShut host conn reason)) h.free.paid;
        time = let now : new.point.moment ≡ moment = ap (λ (p : Point). p.moment) adds.point_now in omega arith;
        goes_on = ap (λ (w : ClientState). w.is_ending) moved ∙ h.free.goes_on;
      };
      there = ap (λ (w : ClientState). slice_get w.servers host) moved ∙ slice_get-set_same mid.point.state.servers host u t h.there;
      idle = ap (λ (x : ServerState). x.pool.owed) m.moves;
      streams = ap (λ (x : ServerState). x.conn_streams) m.moves ∙ h.streams;
      moved = moved
          ∙ ap (λ (w : ClientState). with_one w host u) h.moved
          ∙ ap (λ (ss : List ServerState). let v : ClientState = record old.point.state { servers = ss } in v) (set-twice old.point.state.servers host t u);
      shuts = more conn reason mid new h.shuts adds;
      room = omega arith;
    }

-- ---- The streams

other : (n conn k : ℕ) → n ≢ conn → (k == n) ≡ true → not (k == conn) ≡ true
other n conn k apart is = elim (eqb_tells k conn) [
  | inl q ↦ absurd (apart (sym (eqb-true k n is) ∙ q.1))
  | inr q ↦ ap not q.0
]

among-others : (n conn : ℕ) (xs : List Available) → n ≢ conn → is_among n (without_available conn xs) ≡ is_among n xs
among-others n conn xs apart = any-filter_same (λ (a : Available). a.conn == n) (λ (a : Available). not (a.conn == conn)) true (λ a is. other n conn a.conn apart is) xs

-- those that were shut are unused, behind one more
pub unused-more : (host moment conn : ℕ) (reason : CloseReason) (lines now : Lines) (s t u : ServerState) → t.conn_streams ≡ s.conn_streams →
    MovesBy moment (pool.ConnShut conn reason) t u → AreUnused host lines s t → ClosesOnly (λ (x : StreamUse). x ≡ for_use.Conn host conn) lines now →
    IfSome (stream_of u conn) (λ stream. IsUnused now stream (for_use.Conn host conn)) → AreUnused host now s u
unused-more host moment conn reason lines now s t u same m h closes gone = λ n was none. elim (eqb_tells n conn) [
  | inl q ↦
      subst (λ k. IfSome (stream_of s k) (λ stream. IsUnused now stream (for_use.Conn host k))) (sym q.1)
      (subst (λ (ls : List ConnStream). IfSome (option_map (λ (l : ConnStream). l.stream) (find (λ (l : ConnStream). l.conn == conn) ls)) (λ stream. IsUnused now stream (for_use.Conn host conn)))
      (ap (λ (x : ServerState). x.conn_streams) m.moves ∙ same) gone)
  | inr q ↦
      IfSome_then (stream_of s n) (h n was (sym (among-others n conn t.pool.state.available q.1) ∙ ap (λ (x : ServerState). is_among n x.pool.state.available) (sym m.moves) ∙ none))
      (λ stream before. IsUnused-closed (λ (x : StreamUse). x ≡ for_use.Conn host conn) lines now stream (for_use.Conn host n) closes before)
]

-- at first none was
pub unused-none : (host : ℕ) (lines : Lines) (s : ServerState) → AreUnused host lines s s
unused-none host lines s = λ n was none. absurd (let clash : true ≡ false = sym was ∙ none in cc)
