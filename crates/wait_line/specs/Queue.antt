-- The queue in which check-outs wait for a connection.
use Rattle.std.specs.Prelude.{ℕ, ◌+◌, Bool, false, not, List, [], ◌∷◌, ◌++◌, ◌==◌, filter}
use Rattle.std.specs.List.{list_any}

-- A wait queue: the numbers of the tickets that wait, in the order in which they entered, and how many tickets
-- were given so far, which is the next ticket's number (CMAP, WaitQueue).
pub record Queue : Type 0 where
  pub waiting : List ℕ
  pub given : ℕ

-- Whether a number stands first in a list of numbers (CMAP, WaitQueue: who entered first is served first).
abbrev pub is_first : List ℕ → ℕ → Bool
is_first [] number = false
is_first (n ∷ ns) number = n == number

-- Whether a number is in a list of numbers (own: the standard says "in the queue").
abbrev pub is_among : List ℕ → ℕ → Bool
is_among ns number = list_any (λ n. n == number) ns

-- The numbers without one of them; all of them where it is not among them (CMAP, WaitQueue).
abbrev pub without_number : ℕ → List ℕ → List ℕ
without_number number ns = filter (λ n. not (n == number)) ns

-- The queue behind a ticket that joined it: the next number stands last (CMAP, WaitQueue).
abbrev pub joined : Queue → Queue
joined q = record { waiting = q.waiting ++ q.given ∷ []; given = q.given + 1 }

-- The queue behind a ticket that left it (CMAP, WaitQueue: who times out or gives up leaves).
abbrev pub left : ℕ → Queue → Queue
left number q = record q { waiting = without_number number q.waiting }
