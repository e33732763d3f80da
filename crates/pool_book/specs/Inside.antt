-- What a book keeps, and what it shows of it.
use Rattle.std.specs.Prelude.{ℕ, ◌+◌, ◌^◌, ◌<◌, ◌≤◌, length}
use Rattle.pool_book.specs.Pool.{Pool}
use Rattle.pool_book.specs.Sound.{Sound}
use Rattle.pool_book.specs.declared.book.PoolBook.TheInside.{Inside}

-- The pool that a book stands for (own: the refinement).
abbrev pub pool_of : Inside → Pool
pool_of b = record {
  rules = b.rules;
  state = b.state;
  generation = b.generation;
  waiting = b.line.items;
  pending = b.pending.items;
  lent = b.lent.items;
  available = b.available.items;
  entered = b.line.given;
  dialled = b.dialled;
}

-- How many connections there are or may still come: one of each ticket that waits (own).
abbrev pub places_of : Inside → ℕ
places_of b = length b.line.items + length b.pending.items + length b.lent.items + length b.available.items

-- Each of them has room wherever it may come to stand, and a number is left for each that is still to be dialled (own:
-- the invariant, by which no call but enter takes memory).
pub record HasRoom (b : Inside) : Type 0 where
  pub pending : places_of b ≤ b.pending.room
  pub lent : places_of b ≤ b.lent.room
  pub available : places_of b ≤ b.available.room
  pub numbers : b.dialled + length b.line.items ≤ b.line.given
  pub counted : b.line.given < 2 ^ 64

-- What a book keeps: that room, and that each connection and each ticket stands once (own: the invariant).
pub record IsKept (b : Inside) : Type 0 where
  pub room : HasRoom b
  pub sound : Sound (pool_of b)
