-- What is due to a ticket is an entry that may stand.
use Rattle.std.proofs.Common.{◌≡◌, ℕ, ◌+◌, ◌-◌, Bool, true, false, not, ◌&&◌, ◌||◌, cond, ltb, List, [], ◌∷◌, length, Option, Some, None, refl, ap, subst, arith}
use Rattle.std.specs.Prelude.{unwrap_or}
use Rattle.std.specs.Option.{option_map}
use Rattle.std.proofs.lemmas.Option.{slice_get-get_or}
use Rattle.wait_line.specs.Queue.{is_first}
use Rattle.pool_book.specs.declared.state.PoolState.{PoolState}
use Rattle.pool_book.specs.declared.state.PoolState.TheVariants as state_of
use Rattle.pool_book.specs.declared.ticket.Ticket.{Ticket}
use Rattle.pool_book.specs.declared.connections.Available.{Available}
use Rattle.pool_book.specs.declared.answers.Take.{Take}
use Rattle.pool_book.specs.declared.answers.Take.TheVariants as take_of
use Rattle.pool_book.specs.Pool.{Pool, numbers_of, ticket_of, last_of, is_closed, is_paused, is_ready, is_swept, is_cleared, is_late, is_served, has_room, can_take}
use Rattle.pool_book.specs.Entries.{Lent, Dialled, NotLent, Closed, Cleared, Late, after}
use Rattle.pool_book.specs.Answers.{Answers, answer_due, taken_from}

-- the pool behind an answer
abbrev pub behind : Pool → ℕ → ℕ → Take → Pool
behind p moment number (take_of.Lent conn) = after p moment (Lent number conn)
behind p moment number (take_of.Dial conn) = after p moment (Dialled number conn)
behind p moment number (take_of.Cleared g) = after p moment (NotLent number (Cleared g))
behind p moment number take_of.Closed = after p moment (NotLent number Closed)
behind p moment number take_of.Late = after p moment (NotLent number Late)
behind p moment number take_of.Wait = p

-- a fact of each answer, by the tests that lead to it
answer_due-by_tests : (G : Take → Type 0) (closed cleared first late : Bool) (taken : Option Take) (g : ℕ) →
    (closed ≡ true → G take_of.Closed) →
    (closed ≡ false → cleared ≡ true → G (take_of.Cleared g)) →
    (closed ≡ false → cleared ≡ false → first ≡ true → (x : Take) → taken ≡ Some x → G x) →
    (closed ≡ false → cleared ≡ false → cond first taken None ≡ None → late ≡ true → G take_of.Late) →
    (closed ≡ false → cleared ≡ false → cond first taken None ≡ None → late ≡ false → G take_of.Wait) →
    G (cond closed take_of.Closed (cond cleared (take_of.Cleared g) (unwrap_or (cond first taken None) (cond late take_of.Late take_of.Wait))))
answer_due-by_tests G true cleared first late taken g a b c d e = a refl
answer_due-by_tests G false true first late taken g a b c d e = b refl refl
answer_due-by_tests G false false true late (Some x) g a b c d e = c refl refl refl x refl
answer_due-by_tests G false false true true None g a b c d e = d refl refl refl refl
answer_due-by_tests G false false true false None g a b c d e = e refl refl refl refl
answer_due-by_tests G false false false true taken g a b c d e = d refl refl refl refl
answer_due-by_tests G false false false false taken g a b c d e = e refl refl refl refl

-- a fact of what the first of the line may have
taken_from-by_cases : (G : Take → Type 0) (p : Pool) (o : Option Available) (x : Take) → taken_from p o ≡ Some x →
    ((a : Available) → o ≡ Some a → G (take_of.Lent a.conn)) →
    (o ≡ None → has_room p ≡ true → G (take_of.Dial (p.dialled + 1))) → G x
taken_from-by_cases G p (Some a) x e l d = let same : take_of.Lent a.conn ≡ x = cc in subst G same (l a refl)
taken_from-by_cases G p None x e l d =
    elim (has_room p) as (λ b. has_room p ≡ b → cond b (Some (take_of.Dial (p.dialled + 1))) None ≡ Some x → G x) [
      | true ↦ λ place e'. let same : take_of.Dial (p.dialled + 1) ≡ x = cc in subst G same (d refl place)
      | false ↦ λ _ e'. absurd (cc)
    ] refl e

-- a list has no last one only where it is empty
last_of-None : (xs : List Available) → last_of xs ≡ None → xs ≡ []
last_of-None [] e = refl
last_of-None (x ∷ xs) e =
    let there = slice_get-get_or (x ∷ xs) (length (x ∷ xs) - 1) x (omega arith) in absurd (cc)

is_served-tests : (s : PoolState) (older first swept : Bool) → is_closed s ≡ false → (is_paused s || older) ≡ false → first ≡ true → swept ≡ true →
    (is_ready s && not (is_paused s || older) && first && swept) ≡ true
is_served-tests state_of.Paused older first swept c k f w = absurd (cc)
is_served-tests state_of.Ready older first swept c k f w = rw (k, f, w)
is_served-tests state_of.Closed older first swept c k f w = absurd (cc)

-- the first of the line, whose ticket is current, is served in a swept pool
is_served-first : (p : Pool) (moment : ℕ) (t : Ticket) → is_closed p.state ≡ false → is_cleared p.state p.generation t.generation ≡ false →
    is_first (numbers_of p.waiting) t.number ≡ true → is_swept p moment ≡ true → is_served p moment t ≡ true
is_served-first p moment t c k f s = is_served-tests p.state (ltb t.generation p.generation) _ _ c k f s

and-not_first : (a b s x : Bool) → (a && b && false && s && x) ≡ false
and-not_first true true s x = refl
and-not_first true false s x = refl
and-not_first false b s x = refl

and-false : (a : Bool) → (a && false) ≡ false
and-false true = refl
and-false false = refl

and-no_room : (a x y : Bool) → x ≡ false → y ≡ false → (a && (x || y)) ≡ false
and-no_room a x y e f = rw (e, f) (and-false a)

-- nothing may be had where nothing is available and there is no room to dial
taken_from-None : (p : Pool) (o : Option Available) → taken_from p o ≡ None → (o ≡ None) × (has_room p ≡ false)
taken_from-None p (Some a) e = absurd (cc)
taken_from-None p None e = (
  refl,
  elim (has_room p) as (λ b. cond b (Some (take_of.Dial (p.dialled + 1))) None ≡ None → b ≡ false) [
    | true ↦ λ found. absurd (cc)
    | false ↦ λ _. refl
  ] e,
)

-- who finds neither a connection nor room to dial can take none
can_take-none : (p : Pool) (moment : ℕ) (t : Ticket) →
    cond (is_first (numbers_of p.waiting) t.number) (taken_from p (last_of p.available)) None ≡ None → can_take p moment t ≡ false
can_take-none p moment t e =
    elim (is_first (numbers_of p.waiting) t.number) as (λ b. is_first (numbers_of p.waiting) t.number ≡ b → cond b (taken_from p (last_of p.available)) None ≡ None → can_take p moment t ≡ false) [
      | true ↦ λ _ none.
          let no = taken_from-None p _ none in
          let empty : ltb 0 (length p.available) ≡ false = rw (last_of-None p.available no.0) refl in
          and-no_room (is_served p moment t) _ _ empty no.1
      | false ↦ λ first _. rw first (and-not_first (is_ready p.state) (not (is_cleared p.state p.generation t.generation)) (is_swept p moment) _)
    ] refl e

-- what is due stands
Answers-due : (p : Pool) (moment number : ℕ) (t : Ticket) → ticket_of number p.waiting ≡ Some t → is_swept p moment ≡ true →
    Answers p moment number (answer_due p moment t) (behind p moment number (answer_due p moment t))
Answers-due p moment number t h s =
    answer_due-by_tests (λ x. Answers p moment number x (behind p moment number x)) (is_closed p.state) (is_cleared p.state p.generation t.generation) (is_first (numbers_of p.waiting) t.number) (is_late p.rules t.entered moment) (taken_from p (last_of p.available)) p.generation
    (λ c. record { stands = (t, h, c); moves = refl })
    (λ c k. record { stands = (t, h, (c, k, refl)); moves = refl })
    (λ c k f x e. let served = is_served-first p moment t c k f s in
    taken_from-by_cases (λ y. Answers p moment number y (behind p moment number y)) p (last_of p.available) x e
    (λ a last. record { stands = (t, h, served, ap (option_map (λ (b : Available). b.conn)) last); moves = refl })
    (λ none place. record { stands = (t, h, served, last_of-None p.available none, place, refl); moves = refl }))
    (λ c k n l. record { stands = (t, h, (c, k, can_take-none p moment t n, l)); moves = refl })
    (λ c k n l. (refl, (t, h, c, k, can_take-none p moment t n, l)))

-- an answer that is due, with the pool behind it
pub Answers-by : (p : Pool) (moment number : ℕ) (t : Ticket) → ticket_of number p.waiting ≡ Some t → is_swept p moment ≡ true →
    (x : Take) → x ≡ answer_due p moment t → (q : Pool) → q ≡ behind p moment number x → Answers p moment number x q
Answers-by p moment number t h s x e q f =
    rw (f, e) (Answers-due p moment number t h s)
