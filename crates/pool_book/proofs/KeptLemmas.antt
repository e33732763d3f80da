-- A book stays sound behind what its calls do to its lists.
use Rattle.std.proofs.Common.{◌≡◌, ℕ, ◌+◌, ◌-◌, ◌≤◌, Bool, true, false, cond, not, ◌&&◌, ◌||◌, eqb, List, [], ◌∷◌, ◌++◌, length, take, Option, Some, None, IsSome, IfSome, IfNone, refl, sym, ap, subst, ◌∙◌, arith}
use Rattle.std.specs.Prelude.{option_to_list}
use Rattle.std.specs.List.{filter}
use Rattle.std.proofs.lemmas.List.Filters.{length-filter_both}
use Rattle.pool_book.specs.declared.ticket.Ticket.{Ticket}
use Rattle.pool_book.specs.declared.connections.Held.{Held}
use Rattle.pool_book.specs.declared.connections.Available.{Available}
use Rattle.pool_book.specs.Pool.{Pool, is_closed, is_worthless, ticket_of, without_ticket, held_of, without_held, last_of}
use Rattle.pool_book.specs.Entries.{Dialled, after, lend, returned}
use Rattle.pool_book.specs.Sound.{Sound, times_held, times_holding}
use Rattle.pool_book.proofs.SoundLemmas.{Sound-lent, Sound-dialled, Sound-settled, Sound-checked_in}
use Rattle.pool_book.proofs.TimesLemmas.{times-filter_most}

pub some_is : {X : Type 0} (o : Option X) → IsSome o → (x : X) × (o ≡ Some x)
some_is None h = absurd (cc)
some_is (Some x) h = (x, refl)

pub IfSome-when : {X : Type 0} (o : Option X) (P : X → Type 0) → ((x : X) → o ≡ Some x → P x) → IfSome o P
IfSome-when None P h = tt
IfSome-when (Some x) P h = h x refl

pub IfNone-when : {X : Type 0} (o : Option X) (P : Type 0) → (o ≡ None → P) → IfNone o P
IfNone-when None P h = h refl
IfNone-when (Some x) P h = tt

pub length-without_held : (conn : ℕ) (hs : List Held) → length (without_held conn hs) ≤ length hs
length-without_held conn hs = let both = length-filter_both (λ (h : Held). eqb h.conn conn) (λ (h : Held). not (eqb h.conn conn)) (λ _. refl) hs in omega (arith, both)

-- a lent connection that comes back and is not kept
pub Sound-lent_gone : (p : Pool) (conn : ℕ) → Sound p → Sound (record p { lent = without_held conn p.lent })
Sound-lent_gone p conn s =
    let fewer : (k : ℕ) → times_held k (without_held conn p.lent) ≤ times_held k p.lent = λ k. times-filter_most _ _ p.lent in
    let fewer' : (k : ℕ) → times_holding k (without_held conn p.lent) ≤ times_holding k p.lent = λ k. times-filter_most _ _ p.lent in
    record {
      once = λ k. omega (arith, fewer k, s.once k);
      dialled = λ k l. omega (arith, fewer k, s.dialled k l);
      one_place = λ k. omega (arith, fewer' k, s.one_place k);
      entered = λ k l. omega (arith, fewer' k, s.entered k l);
      shut = s.shut;
      current = s.current;
    }

-- one that is kept
pub Sound-kept : (p : Pool) (conn moment : ℕ) (h : Held) → Sound p → held_of conn p.lent ≡ Some h → is_worthless p.state p.generation h.generation ≡ false
    → Sound (record p { lent = without_held conn p.lent; available = p.available ++ record { conn = h.conn; generation = h.generation; since = moment } ∷ [] })
Sound-kept p conn moment h s e w =
    let back : Available = record { conn = h.conn; generation = h.generation; since = moment } in
    let is : returned p moment false (held_of conn p.lent) ≡ back ∷ [] = ap (returned p moment false) e ∙ ap (λ b. cond (not false && not b) (back ∷ []) []) w in
    subst (λ xs. Sound (record p { lent = without_held conn p.lent; available = p.available ++ xs })) is (Sound-checked_in p moment 0 conn false h s e)

-- a pending connection that is lent
pub Sound-settled_by : (p : Pool) (conn : ℕ) (h : Held) → Sound p → held_of conn p.pending ≡ Some h → Sound (record p { pending = without_held conn p.pending; lent = p.lent ++ h ∷ [] })
Sound-settled_by p conn h s e =
    subst (λ o. Sound (record p { pending = without_held conn p.pending; lent = p.lent ++ option_to_list o })) e (Sound-settled p 0 0 conn h s e)

-- an available connection that is lent
open_by : (p : Pool) (a : Available) → Sound p → last_of p.available ≡ Some a → is_closed p.state ≡ false
open_by p a s last = by (is_closed p.state) refl
  where
    by : (b : Bool) → is_closed p.state ≡ b → b ≡ false
    by true e = absurd (let none : last_of [] ≡ Some a = subst (λ xs. last_of xs ≡ Some a) (s.shut e) last in cc)
    by false e = refl

pub Sound-lent_by : (p : Pool) (number : ℕ) (t : Ticket) (a : Available) → Sound p → ticket_of number p.waiting ≡ Some t → last_of p.available ≡ Some a
    → Sound (record p { waiting = without_ticket number p.waiting; available = take (length p.available - 1) p.available; lent = p.lent ++ record { conn = a.conn; ticket = number; generation = a.generation } ∷ [] })
Sound-lent_by p number t a s h last =
    subst (λ o. Sound (record p { waiting = without_ticket number p.waiting; available = take (length p.available - 1) p.available; lent = p.lent ++ lend number o })) last
    (Sound-lent p 0 number 0 t a s h last (open_by p a s last))

-- a connection that is dialled
pub Sound-dialled_by : (p : Pool) (number conn : ℕ) (t : Ticket) → Sound p → ticket_of number p.waiting ≡ Some t → conn ≡ p.dialled + 1 → Sound (after p 0 (Dialled number conn))
Sound-dialled_by p number conn t s h e = rw e (Sound-dialled p 0 number t s h)
