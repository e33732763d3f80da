-- What the parts of a book show.
use Rattle.std.specs.Prelude.{◌≡◌, ℕ, ◌≤◌, ◌==◌, Bool, false, Option, Some, None, List, [], ◌∷◌, All, slice_get, unwrap_or}
use Rattle.wait_line.specs.Rising.{Rises}
use Rattle.pool_book.specs.declared.ticket.Ticket.{Ticket}
use Rattle.pool_book.specs.declared.connections.Held.{Held}
use Rattle.pool_book.specs.declared.connections.Available.{Available}
use Rattle.pool_book.specs.Pool.{numbers_of}

-- Connections that tickets' owners dial or have, and how many the list has room for in all (own).
pub record Roomy : Type 0 where
  pub items : List Held
  pub room : ℕ

-- The connections in rows of which some are empty, in order (own: the refinement).
abbrev pub live : List (Option Held) → List Held
live [] = []
live (None ∷ rows) = live rows
live (Some h ∷ rows) = h ∷ live rows

-- The connection stands in the row (own).
abbrev pub is_row_of : ℕ → Option Held → Bool
is_row_of conn None = false
is_row_of conn (Some h) = h.conn == conn

-- What stands in the row at a place, none past the last row (own).
abbrev pub row_at : List (Option Held) → ℕ → Option Held
row_at rows place = unwrap_or (slice_get rows place) None

-- A connection stands in the row at a place (own).
abbrev pub IsRowOf : ℕ → List (Option Held) → ℕ → Type 0
IsRowOf conn rows place = (h : Held) × (row_at rows place ≡ Some h) × (h.conn ≡ conn)

-- The tickets that wait, in order, and how many were given (own).
pub record Tickets : Type 0 where
  pub items : List Ticket
  pub given : ℕ

-- Connections that are available, and how many the list has room for in all (own).
pub record RoomyAvailable : Type 0 where
  pub items : List Available
  pub room : ℕ

-- What is known of available connections is so: none is available since an earlier moment, and all are of the generation,
-- where one is given (own: the invariant).
pub record KnowsAvailable (items : List Available) (earliest : ℕ) (generation : Option ℕ) : Type 0 where
  pub since : All (λ a. earliest ≤ a.since) items
  pub of_one : (g : ℕ) → generation ≡ Some g → All (λ a. a.generation ≡ g) items

-- A line of numbers is that of the tickets, and the numbers rise (own: the invariant).
pub record IsLine (waiting : List ℕ) (given : ℕ) (tickets : List Ticket) : Type 0 where
  pub same : waiting ≡ numbers_of tickets
  pub rises : Rises (λ t. t.number) 0 tickets given
