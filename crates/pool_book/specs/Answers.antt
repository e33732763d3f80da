-- What a pool's book answers, and the entry that each answer stands for.
use Rattle.std.specs.Prelude.{◌≡◌, ℕ, ◌+◌, Bool, false, Option, Some, None, unwrap_or, find, if◌then◌else◌}
use Rattle.std.specs.Option.{option_map}
use Rattle.wait_line.specs.Queue.{is_first}
use Rattle.pool_book.specs.declared.ticket.Ticket.{Ticket}
use Rattle.pool_book.specs.declared.connections.Held.{Held}
use Rattle.pool_book.specs.declared.connections.Available.{Available}
use Rattle.pool_book.specs.declared.answers.Take.{Take}
use Rattle.pool_book.specs.declared.answers.Take.TheVariants as take_of
use Rattle.pool_book.specs.declared.answers.Settled.{Settled}
use Rattle.pool_book.specs.declared.answers.Settled.TheVariants as settled_of
use Rattle.pool_book.specs.declared.answers.Fate.{Fate}
use Rattle.pool_book.specs.declared.answers.Fate.TheVariants as fate_of
use Rattle.pool_book.specs.declared.answers.Swept.{Swept}
use Rattle.pool_book.specs.Pool.{Pool, numbers_of, ticket_of, last_of, is_closed, is_perished, perish_reason, shut_reason, is_worthless, is_kept, is_cleared, is_late, has_room, can_take}
use Rattle.pool_book.specs.Entries.{Lent, Dialled, NotLent, Closed, Cleared, Late}
use Rattle.pool_book.specs.Judge.{Goes}

-- What the first of the line may have: the connection that was checked in last, else a new one where there is room to
-- dial (CMAP, Checking Out a Connection).
abbrev pub taken_from : Pool → Option Available → Option Take
taken_from p (Some a) = Some (take_of.Lent a.conn)
taken_from p None = if has_room p then Some (take_of.Dial (p.dialled + 1)) else None

-- A ticket's answer in a pool that is swept: closed, cleared, a connection for the first of the line, late, wait, in
-- this order (CMAP, Checking Out a Connection).
abbrev pub answer_due : Pool → ℕ → Ticket → Take
answer_due p moment t =
    if is_closed p.state then take_of.Closed else (
    if is_cleared p.state p.generation t.generation then take_of.Cleared p.generation else
    unwrap_or (if is_first (numbers_of p.waiting) t.number then taken_from p (last_of p.available) else None)
    (if is_late p.rules t.entered moment then take_of.Late else take_of.Wait))

-- None of the other answers is due to a ticket (CMAP, Checking Out a Connection).
abbrev pub MustWait : Pool → ℕ → ℕ → Type 0
MustWait p moment number =
    (t : Ticket) × (ticket_of number p.waiting ≡ Some t) × (is_closed p.state ≡ false) × (is_cleared p.state p.generation t.generation ≡ false)
    × (can_take p moment t ≡ false) × (is_late p.rules t.entered moment ≡ false)

-- Until when the ticket of a number waits at most: the rules' limit behind its entry (CMAP, waitQueueTimeoutMS).
abbrev pub IsWaitLimit : Pool → (number until : ℕ) → Type 0
IsWaitLimit p number until = (t : Ticket) × (ticket_of number p.waiting ≡ Some t) × (until ≡ t.entered + p.rules.wait_micros)

-- An answer to a ticket is an entry that may stand, by which the pool goes on; it waits where no other is due, and then
-- the pool stays as it is (CMAP, Checking Out a Connection).
abbrev pub Answers : Pool → ℕ → ℕ → Take → Pool → Type 0
Answers p moment number (take_of.Lent conn) q = Goes p moment (Lent number conn) q
Answers p moment number (take_of.Dial conn) q = Goes p moment (Dialled number conn) q
Answers p moment number (take_of.Cleared g) q = Goes p moment (NotLent number (Cleared g)) q
Answers p moment number take_of.Closed q = Goes p moment (NotLent number Closed) q
Answers p moment number take_of.Late q = Goes p moment (NotLent number Late) q
Answers p moment number take_of.Wait q = (q ≡ p) × MustWait p moment number

-- What becomes of a pending connection that is established (CMAP, Establishing a Connection).
abbrev pub settled_answer : Pool → Held → Settled
settled_answer p h = if is_worthless p.state p.generation h.generation then settled_of.Stale p.generation else settled_of.Lent

-- What becomes of a connection that is checked in (CMAP, Checking In a Connection).
abbrev pub fate_answer : Pool → Bool → Held → Fate
fate_answer p errored h = if is_kept p errored h then fate_of.Kept else fate_of.Shut (shut_reason p.state errored)

-- The perished connection that was checked in before the others, with the first reason that holds (own: CMAP leaves
-- the order open).
abbrev pub swept_answer : Pool → ℕ → Option Swept
swept_answer p moment =
    option_map (λ a. record { conn = a.conn; reason = perish_reason p.generation a.generation }) (find (is_perished p moment) p.available)
