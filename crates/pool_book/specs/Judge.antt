-- A pool's entries are judged: when each may stand, where it leads, and what must follow it at once.
use Rattle.std.specs.Prelude.{ℕ, List}
use Rattle.entry_judge.specs.declared.timed.Timed.{Timed}
use Rattle.entry_judge.specs.Groups as judge
use Rattle.pool_book.specs.declared.rules.PoolRules.{PoolRules}
use Rattle.pool_book.specs.Pool.{Pool, fresh_pool}
use Rattle.pool_book.specs.Entries.{PoolEntry, MayStand, after, owes}

-- The judge of a pool's entries (CMAP, Connection Pool).
abbrev pub pool_judge : judge.Judge Pool PoolEntry
pool_judge = record { may_stand = MayStand; after = after; owes = λ p moment e. owes p e }

-- The pool goes on by an entry that may stand, and by what must follow it, to another pool (own: what a call does).
abbrev pub Goes : Pool → ℕ → PoolEntry → Pool → Type 0
Goes p moment e q = judge.Goes pool_judge p moment e q

-- Entries of a pool from its beginning on, each where it may stand (CMAP, Connection Pool).
abbrev pub IsTrail : PoolRules → List (Timed PoolEntry) → Type 0
IsTrail rules ts = judge.IsTrail pool_judge (fresh_pool rules) ts

-- The place to which a trail leads (own).
abbrev pub place_behind : PoolRules → List (Timed PoolEntry) → judge.Place Pool PoolEntry
place_behind rules ts = judge.place_behind pool_judge (fresh_pool rules) ts

-- The pool there (own).
abbrev pub pool_behind : PoolRules → List (Timed PoolEntry) → Pool
pool_behind rules ts = (place_behind rules ts).state

-- The entries of a trail, and those that must still follow it (own).
abbrev pub entries_and_owed : PoolRules → List (Timed PoolEntry) → List PoolEntry
entries_and_owed rules ts = judge.entries_and_owed pool_judge (fresh_pool rules) ts

-- A trail leads to a pool of which nothing must follow: what a book's calls have left (own: a book pays what it owes
-- in the call that owes it).
abbrev pub LeadsTo : PoolRules → List (Timed PoolEntry) → Pool → Type 0
LeadsTo rules ts p = judge.LeadsTo pool_judge (fresh_pool rules) ts p
