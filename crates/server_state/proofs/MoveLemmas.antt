-- A server whose pool moved.
use Rattle.std.proofs.Common.{◌≡◌, refl, ap, sym, subst, ◌∙◌, arith, ℕ, ◌≤◌, List, []}
use Rattle.entry_judge.specs.Groups.{nothing_owed}
use Rattle.pool_book.specs.Entries.{PoolEntry, MayStand, after, owes}
use Rattle.pool_book.specs.Judge.{Goes}
use Rattle.pool_book.specs.Pool.{Pool}
use Rattle.desk_trail.specs.Pools.{with_pool}
use Rattle.desk_trail.specs.States.{ServerState}
use Rattle.server_state.specs.Inside.{IsKept, state_of}
use Rattle.server_state.specs.PoolMoves.{MovesBy, behind_group}
use Rattle.server_state.specs.declared.server.Server.TheInside.{Inside}

abbrev pub with_book : Inside → Pool → Inside
with_book s q = record s { pool = q }

-- a pool in which as many wait and as many were dialled
pub IsKept-pool : (s : Inside) (q : Pool) → IsKept s → q.waiting ≡ s.pool.waiting → q.dialled ≡ s.pool.dialled → IsKept (with_book s q)
IsKept-pool s q k w d = record { dialled = k.dialled ∙ sym d; waiting = rw w k.waiting; room = k.room }

pub behind : (s : Inside) (now : ServerState) (q : Pool) (moment : ℕ) (e : PoolEntry) → state_of s ≡ now → q ≡ after s.pool moment e → state_of (with_book s q) ≡ behind_group moment e now
behind s now q moment e v m = ap (λ p. state_of (with_book s p)) m ∙ ap (λ n. behind_group moment e n) v

pub moves_by : (s : Inside) (now : ServerState) (q : Pool) (moment : ℕ) (entry : ServerState → PoolEntry) → state_of s ≡ now → Goes s.pool moment (entry (state_of s)) q →
    MovesBy moment (entry now) now (state_of (with_book s q))
moves_by s now q moment entry v g =
    subst (λ n. MovesBy moment (entry n) n (state_of (with_book s q))) v (record { stands = g.stands; moves = ap (λ p. state_of (with_book s p)) g.moves })

-- an entry that owes nothing
pub alone : (s : Inside) (now : ServerState) (q : Pool) (moment : ℕ) (e : PoolEntry) → state_of s ≡ now → owes s.pool e ≡ [] → q ≡ after s.pool moment e → state_of (with_book s q) ≡ with_pool moment e now
alone s now q moment e v o m =
    ap (λ p. state_of (with_book s p)) m
    ∙ ap (λ (es : List PoolEntry). let t : ServerState = record (state_of s) { pool = record { state = after s.pool moment e; owed = es } } in t) (sym o)
    ∙ ap (λ n. with_pool moment e n) v
