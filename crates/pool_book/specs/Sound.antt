-- What holds of every pool that a trail leads to.
use Rattle.std.specs.Prelude.{◌≡◌, ℕ, ◌+◌, ◌<◌, ◌≤◌, Bool, true, ◌==◌, List, All, [], ◌∷◌, if◌then◌else◌}
use Rattle.pool_book.specs.declared.ticket.Ticket.{Ticket}
use Rattle.pool_book.specs.declared.connections.Held.{Held}
use Rattle.pool_book.specs.declared.connections.Available.{Available}
use Rattle.pool_book.specs.Pool.{Pool, is_closed}

-- How many of a list pass a test (own: by recursion, for the laws).
abbrev pub times : {X : Type 0} → (X → Bool) → List X → ℕ
times test [] = 0
times test (x ∷ xs) = (if test x then 1 else 0) + times test xs

-- How often a connection stands among the pending, the lent and the available ones (own).
abbrev pub times_held : ℕ → List Held → ℕ
times_held conn hs = times (λ h. h.conn == conn) hs

abbrev pub times_available : ℕ → List Available → ℕ
times_available conn xs = times (λ a. a.conn == conn) xs

abbrev pub times_of : Pool → ℕ → ℕ
times_of p conn = times_held conn p.pending + times_held conn p.lent + times_available conn p.available

-- How often a ticket waits, dials or has a connection (own).
abbrev pub times_waiting : ℕ → List Ticket → ℕ
times_waiting number ts = times (λ t. t.number == number) ts

abbrev pub times_holding : ℕ → List Held → ℕ
times_holding number hs = times (λ h. h.ticket == number) hs

abbrev pub times_in : Pool → ℕ → ℕ
times_in p number = times_waiting number p.waiting + times_holding number p.pending + times_holding number p.lent

-- Each connection stands at most once among pending, lent and available, and none that was not dialled yet (own: an
-- invariant of a pool's book).
pub record Once (p : Pool) : Type 0 where
  pub once : (conn : ℕ) → times_of p conn ≤ 1
  pub dialled : (conn : ℕ) → p.dialled < conn → times_of p conn ≡ 0

-- Each connection stands at most once among pending, lent and available, and none that was not dialled yet; each ticket
-- waits, dials or has a connection at most once, and none that did not enter yet; nothing is available in a closed pool;
-- and no ticket that waits is of a later generation than the pool (own: the invariant of the laws).
pub record Sound (p : Pool) : Type 0 where
  pub once : (conn : ℕ) → times_of p conn ≤ 1
  pub dialled : (conn : ℕ) → p.dialled < conn → times_of p conn ≡ 0
  pub one_place : (number : ℕ) → times_in p number ≤ 1
  pub entered : (number : ℕ) → p.entered ≤ number → times_in p number ≡ 0
  pub shut : is_closed p.state ≡ true → p.available ≡ []
  pub current : All (λ t. t.generation ≤ p.generation) p.waiting
