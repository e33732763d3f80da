-- What a pool counts stays below the number of entries.
use Rattle.std.proofs.Common.{◌≡◌, ℕ, zero, suc, ◌+◌, ◌≤◌, true, false, List, [], ◌∷◌, length, arith}
use Rattle.entry_judge.specs.declared.timed.Timed.{Timed}
use Rattle.entry_judge.specs.Judge.{Legal, state_after}
use Rattle.entry_judge.specs.Groups.{Stands, next_place}
use Rattle.pool_book.specs.declared.rules.PoolRules.{PoolRules}
use Rattle.pool_book.specs.Pool.{Pool, fresh_pool}
use Rattle.pool_book.specs.Entries.{PoolEntry, Ready, Clear, Shut, Entered, Left, Lent, Dialled, Settled, NotLent, CheckedIn, ConnShut, Closed, Cleared, Late, Lost, MayStand, after, owes}
use Rattle.pool_book.specs.Judge.{pool_judge, IsTrail, pool_behind}
use Rattle.pool_book.specs.Laws.{counted}

counted-after : (p : Pool) (moment : ℕ) (e : PoolEntry) → MayStand p moment e → counted (after p moment e) ≤ counted p + 1
counted-after p moment Ready m = omega arith
counted-after p moment Clear m = omega arith
counted-after p moment Shut m = omega arith
counted-after p moment (Entered number) m = omega arith
counted-after p moment (Left number) m = omega arith
counted-after p moment (Lent number conn) m = omega arith
counted-after p moment (Dialled number conn) m = omega (arith, m.5)
counted-after p moment (Settled number conn true) m = omega arith
counted-after p moment (Settled number conn false) m = omega arith
counted-after p moment (NotLent number Closed) m = omega arith
counted-after p moment (NotLent number (Cleared g)) m = omega arith
counted-after p moment (NotLent number Late) m = omega arith
counted-after p moment (NotLent number (Lost conn)) m = omega arith
counted-after p moment (CheckedIn number conn errored) m = omega arith
counted-after p moment (ConnShut conn reason) m = omega arith

counted-legal : (p : Pool) (owed : List PoolEntry) (ts : List (Timed PoolEntry)) → Legal (Stands pool_judge) (next_place pool_judge) (record { state = p; owed = owed }) ts →
    counted (state_after (next_place pool_judge) (record { state = p; owed = owed }) ts).state ≤ counted p + length ts
counted-legal p owed [] l = omega arith
counted-legal p [] (t ∷ ts) l =
    omega (arith, counted-legal (after p t.at t.what) (owes p t.what) ts l.1, counted-after p t.at t.what l.0)
counted-legal p (d ∷ ds) (t ∷ ts) l = omega (arith, counted-legal p ds ts l.1)

pub counted-trail : (rules : PoolRules) (ts : List (Timed PoolEntry)) → IsTrail rules ts → counted (pool_behind rules ts) ≤ length ts
counted-trail rules ts l = let most = counted-legal (fresh_pool rules) [] ts l in omega arith
