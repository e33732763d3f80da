-- Tickets at the places of their numbers.
use Rattle.std.proofs.Common.{◌≡◌, ℕ, zero, suc, ◌≤◌, ◌+◌, Bool, true, false, not, ◌||◌, cond, eqb, List, [], ◌∷◌, ◌++◌, length, map, remove, Option, Some, None, IsSome, IfSome, IfNone, OnSome, refl, sym, ap, ◌∙◌, subst, arith}
use Rattle.std.specs.Prelude.{slice_get}
use Rattle.std.specs.List.{filter, find, list_any}
use Rattle.std.proofs.lemmas.List.{map-append}
use Rattle.wait_line.specs.Queue.{is_among, without_number}
use Rattle.wait_line.specs.Rising.{Rises}
use Rattle.wait_line.specs.RisingLaws.{Rises-push, Rises-find, Rises-remove, Rises-removed}
use Rattle.pool_book.specs.declared.ticket.Ticket.{Ticket}
use Rattle.pool_book.specs.Pool.{ticket_of, without_ticket, numbers_of}
use Rattle.pool_book.specs.Parts.{IsLine}
use Rattle.pool_book.proofs.ListLemmas.{numbers_of-without_ticket}

-- the ticket at the place of a number
pub ticket_at : (number place : ℕ) (ts : List Ticket) → slice_get (numbers_of ts) place ≡ Some number →
    (t : Ticket) × (slice_get ts place ≡ Some t) × (t.number ≡ number)
ticket_at number place [] e = absurd (cc)
ticket_at number zero (t ∷ ts) e = (t, refl, cc)
ticket_at number (suc place) (t ∷ ts) e = ticket_at number place ts e

-- a number that is not among the line's is no ticket's
pub ticket_of-absent : (number : ℕ) (ts : List Ticket) → is_among (numbers_of ts) number ≡ false → ticket_of number ts ≡ None
ticket_of-absent number [] e = refl
ticket_of-absent number (t ∷ ts) e =
    elim (eqb t.number number) as (λ b. (b || is_among (numbers_of ts) number) ≡ false → cond b (Some t) (ticket_of number ts) ≡ None) [
      | true ↦ λ k. absurd (cc)
      | false ↦ λ k. ticket_of-absent number ts k
    ] e

-- what is found in a line where the number stands
pub ticket_of-place : (number place : ℕ) (ns : List ℕ) (given : ℕ) (ts : List Ticket) → IsLine ns given ts → slice_get ns place ≡ Some number →
    slice_get ts place ≡ ticket_of number ts
ticket_of-place number place ns given ts l e =
    let at = ticket_at number place ts (rw l.same at e) in
    at.1 ∙ sym (Rises-find (λ t. t.number) 0 ts given place at.0 number l.rises at.1 at.2)

pub without_ticket-place : (number place : ℕ) (ns : List ℕ) (given : ℕ) (ts : List Ticket) → IsLine ns given ts → slice_get ns place ≡ Some number →
    without_ticket number ts ≡ remove ts place
without_ticket-place number place ns given ts l e =
    let at = ticket_at number place ts (rw l.same at e) in
    Rises-remove (λ t. t.number) 0 ts given place at.0 number l.rises at.1 at.2

-- a line behind a ticket that entered, and behind one that left
pub IsLine-push : (ns : List ℕ) (given : ℕ) (ts : List Ticket) (t : Ticket) → IsLine ns given ts → t.number ≡ given →
    IsLine (ns ++ given ∷ []) (given + 1) (ts ++ t ∷ [])
IsLine-push ns given ts t l e = record {
  same = rw (l.same, ← e) (sym (map-append (λ (x : Ticket). x.number) ts (t ∷ [])));
  rises = Rises-push (λ x. x.number) 0 ts given t l.rises (omega arith) e;
}

pub IsLine-left : (number place : ℕ) (ns : List ℕ) (given : ℕ) (ts : List Ticket) → IsLine ns given ts → slice_get ns place ≡ Some number →
    IsLine (without_number number ns) given (remove ts place)
IsLine-left number place ns given ts l e =
    let at = ticket_at number place ts (rw l.same at e) in
    record {
      same = rw (l.same, ← numbers_of-without_ticket number ts) (ap (λ xs. numbers_of xs) (without_ticket-place number place ns given ts l e));
      rises = Rises-removed (λ t. t.number) 0 ts given place at.0 l.rises at.1;
    }

-- what follows from there being a value
pub OnSome-at : {X : Type 0} (o : Option X) (P : Type 0) → IsSome o → OnSome o P → P
OnSome-at None P s h = absurd (cc)
OnSome-at (Some x) P s h = h
