-- How many wait, and how many were dialled, behind what a pool does.
use Rattle.std.proofs.Common.{◌≡◌, ◌==◌, refl, ap, sym, subst, ◌∙◌, arith, ℕ, ◌+◌, ◌-◌, ◌≤◌, ◌⊎◌, inl, inr, Bool, true, false, List, [], ◌∷◌, ◌++◌, length, Option, None, IsSome, Some}
use Rattle.std.specs.Prelude.{slice_get, vec_capacity}
use Rattle.std.proofs.lemmas.List.{length-append}
use Rattle.pool_book.specs.declared.connections.Held.{Held}
use Rattle.pool_book.specs.declared.answers.Take.{Take}
use Rattle.pool_book.specs.declared.answers.Take.TheVariants as take_of
use Rattle.pool_book.specs.Answers.{Answers}
use Rattle.pool_book.specs.Entries.{after, Dialled, Settled}
use Rattle.pool_book.specs.Judge.{Goes}
use Rattle.pool_book.specs.Pool.{Pool, held_of, is_worthless, ticket_of, without_ticket}
use Rattle.pool_book.proofs.KeptLemmas.{some_is}
use Rattle.pool_book.proofs.ListLemmas.{length-filter_fewer}
use Rattle.desk_trail.specs.States.{ConnStream, ServerState}
use Rattle.server_state.specs.Inside.{IsKept, state_of, streams_from}
use Rattle.server_state.specs.PoolMoves.{AnswersBy, MovesBy}
use Rattle.server_state.specs.declared.server.Server.TheInside.{Inside}
use Rattle.server_state.proofs.MoveLemmas.{IsKept-pool, with_book}
use Rattle.std.specs.Option.{option_and_then}
use Rattle.server_state.proofs.StreamLemmas.{kept_of, kept_of-place, streams_from-more}

settled-waiting : (p : Pool) (moment number conn : ℕ) (stale : Bool) → (after p moment (Settled number conn stale)).waiting ≡ p.waiting
settled-waiting p moment number conn true = refl
settled-waiting p moment number conn false = refl

settled-dialled : (p : Pool) (moment number conn : ℕ) (stale : Bool) → (after p moment (Settled number conn stale)).dialled ≡ p.dialled
settled-dialled p moment number conn true = refl
settled-dialled p moment number conn false = refl

pub IsKept-settled : (s : Inside) (q : Pool) (moment conn : ℕ) → IsKept s → IsSome (held_of conn s.pool.pending)
    → ((h : Held) → held_of conn s.pool.pending ≡ Some h → (moment : ℕ) → Goes s.pool moment (Settled h.ticket conn (is_worthless s.pool.state s.pool.generation h.generation)) q)
    → IsKept (with_book s q)
IsKept-settled s q moment conn k there goes =
    let held = some_is _ there in
    let stale = is_worthless s.pool.state s.pool.generation held.0.generation in
    let moves = (goes held.0 held.1 moment).moves in
    IsKept-pool s q k (ap (λ (p : Pool). p.waiting) moves ∙ settled-waiting s.pool moment held.0.ticket conn stale)
    (ap (λ (p : Pool). p.dialled) moves ∙ settled-dialled s.pool moment held.0.ticket conn stale)

-- ---- An answer to a ticket

fewer : (number : ℕ) (p q : Pool) → IsSome (ticket_of number p.waiting) → q.waiting ≡ without_ticket number p.waiting → length q.waiting + 1 ≤ length p.waiting
fewer number p q there w = rw w (length-filter_fewer (λ t. t.number == number) p.waiting there)

-- that leaves the line without a dial
IsKept-left_by : (s : Inside) (q : Pool) (number : ℕ) → IsKept s → IsSome (ticket_of number s.pool.waiting) → q.waiting ≡ without_ticket number s.pool.waiting →
    q.dialled ≡ s.pool.dialled → IsKept (record s { pool = q; waits = s.waits - 1 })
IsKept-left_by s q number k there w d =
    let less = fewer number s.pool q there w in
    record { dialled = k.dialled ∙ sym d; waiting = omega (arith, less, k.waiting); room = omega (arith, k.room) }

-- the answers but Dial and Wait
abbrev pub IsOther : Take → Type 0
IsOther r = ((conn : ℕ) × (r ≡ take_of.Lent conn)) ⊎ (((g : ℕ) × (r ≡ take_of.Cleared g)) ⊎ ((r ≡ take_of.Closed) ⊎ (r ≡ take_of.Late)))

pub IsKept-left : (s : Inside) (q : Pool) (moment number : ℕ) (r : Take) → IsKept s → IsSome (ticket_of number s.pool.waiting) → Answers s.pool moment number r q → IsOther r →
    IsKept (record s { pool = q; waits = s.waits - 1 })
IsKept-left s q moment number r k there goes is = elim is [
  | inl w ↦ by (take_of.Lent w.0) w.1 (λ g. (ap (λ (p : Pool). p.waiting) g.moves, ap (λ (p : Pool). p.dialled) g.moves))
  | inr (inl w) ↦ by (take_of.Cleared w.0) w.1 (λ g. (ap (λ (p : Pool). p.waiting) g.moves, ap (λ (p : Pool). p.dialled) g.moves))
  | inr (inr (inl w)) ↦ by take_of.Closed w (λ g. (ap (λ (p : Pool). p.waiting) g.moves, ap (λ (p : Pool). p.dialled) g.moves))
  | inr (inr (inr w)) ↦ by take_of.Late w (λ g. (ap (λ (p : Pool). p.waiting) g.moves, ap (λ (p : Pool). p.dialled) g.moves))
] where
  by : (t : Take) → r ≡ t → (Answers s.pool moment number t q → (q.waiting ≡ without_ticket number s.pool.waiting) × (q.dialled ≡ s.pool.dialled)) → IsKept (record s { pool = q; waits = s.waits - 1 })
  by t e f = let m = f (subst (λ x. Answers s.pool moment number x q) e goes) in IsKept-left_by s q number k there m.0 m.1

-- that is to dial
pub answers-dial : (s : Inside) (q : Pool) (moment number conn : ℕ) (r : Take) → r ≡ take_of.Dial conn → Answers s.pool moment number r q → Goes s.pool moment (Dialled number conn) q
answers-dial s q moment number conn r e goes = subst (λ x. Answers s.pool moment number x q) e goes

pub moves-dial : (s : Inside) (now : ServerState) (q : Pool) (moment number conn : ℕ) (os : List (Option ℕ)) → state_of s ≡ now → Goes s.pool moment (Dialled number conn) q →
    os ≡ s.streams.items ++ None ∷ [] → MovesBy moment (Dialled number conn) now (record (state_of (with_book s q)) { conn_streams = streams_from 1 os [] })
moves-dial s now q moment number conn os v g items =
    let same : streams_from 1 os [] ≡ streams_from 1 s.streams.items [] = ap (λ xs. streams_from 1 xs []) items ∙ streams_from-more 1 s.streams.items None [] in
    let moves = ap (λ ls. let t : ServerState = record (state_of (with_book s q)) { conn_streams = ls } in t) same ∙ ap (λ p. state_of (with_book s p)) g.moves in
    subst (λ n. MovesBy moment (Dialled number conn) n (record (state_of (with_book s q)) { conn_streams = streams_from 1 os [] })) v (record { stands = g.stands; moves = moves })

-- the fields behind it
pub IsKept-dial : (s : Inside) (q : Pool) (moment number conn : ℕ) → IsKept s → IsSome (ticket_of number s.pool.waiting) → Goes s.pool moment (Dialled number conn) q →
    (length (s.streams.items ++ None ∷ []) ≡ q.dialled) × (length q.waiting ≤ s.waits - 1) × (s.waits - 1 + length (s.streams.items ++ None ∷ []) ≤ vec_capacity s.streams)
IsKept-dial s q moment number conn k there goes =
    let less = fewer number s.pool q there (ap (λ (p : Pool). p.waiting) goes.moves) in
    let next : q.dialled ≡ s.pool.dialled + 1 = ap (λ (p : Pool). p.dialled) goes.moves ∙ goes.stands.5 in
    let longer : length (s.streams.items ++ None ∷ []) ≡ length s.streams.items + 1 = length-append s.streams.items (None ∷ []) in
    (omega (arith, longer, next, k.dialled), omega (arith, less, k.waiting), omega (arith, longer, less, k.waiting, k.room))

pub AnswersBy-dial : (moment number conn : ℕ) (r : Take) (old new : ServerState) → r ≡ take_of.Dial conn → MovesBy moment (Dialled number conn) old new → AnswersBy moment number r old new
AnswersBy-dial moment number conn r old new e m = subst (λ x. AnswersBy moment number x old new) (sym e) m

last-there : {A : Type 0} (xs : List A) (x : A) → slice_get (xs ++ x ∷ []) (length xs) ≡ Some x
last-there [] x = refl
last-there (y ∷ ys) x = last-there ys x

-- the connection is the one that was dialled last, and has no stream yet
pub streamless : (s : Inside) (q : Pool) (moment number conn : ℕ) (os : List (Option ℕ)) → IsKept s → Goes s.pool moment (Dialled number conn) q →
    os ≡ s.streams.items ++ None ∷ [] → (conn ≡ q.dialled) × (kept_of conn (streams_from 1 os []) ≡ None)
streamless s q moment number conn os k goes items =
    let at : conn ≡ length s.streams.items + 1 = goes.stands.5 ∙ ap (λ n. n + 1) (sym k.dialled) in
    let empty : kept_of (length s.streams.items + 1) (streams_from 1 (s.streams.items ++ None ∷ []) []) ≡ None =
    kept_of-place (length s.streams.items) (s.streams.items ++ None ∷ []) ∙ ap (option_and_then (λ o. o)) (last-there s.streams.items None) in
    (sym (ap (λ (p : Pool). p.dialled) goes.moves), ap (λ n. kept_of n (streams_from 1 os [])) at ∙ ap (λ xs. kept_of (length s.streams.items + 1) (streams_from 1 xs [])) items ∙ empty)
