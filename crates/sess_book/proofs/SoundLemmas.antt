-- What a book keeps holds behind each entry that may stand.
use Rattle.std.proofs.Common.{◌≡◌, ◌≢◌, ℕ, zero, suc, ◌+◌, ◌-◌, ◌<◌, ◌≤◌, Bool, true, false, List, [], ◌∷◌, ◌++◌, length, take, Some, refl, sym, ap, ◌∙◌, subst, arith, ◌⊎◌, inl, inr}
use Rattle.std.specs.Prelude.{ℤ, pos, slice_get, slice_set, nat_le, All}
use Rattle.std.specs.Ordering.{int_eq}
use Rattle.std.proofs.lemmas.Bool.{leb-false, lt-leb}
use Rattle.std.proofs.lemmas.Bool.Decides.{eqb_tells}
use Rattle.std.proofs.lemmas.List.{append-nil, length-append, length-take-le}
use Rattle.std.proofs.lemmas.Option.{slice_get_within, slice_get-get_or}
use Rattle.std.proofs.Math.ListN.{get_or}
use Rattle.bson_doc.specs.declared.ids.Lsid.{Lsid}
use Rattle.sess_book.specs.declared.session.Session.{Session}
use Rattle.sess_book.specs.declared.session.Kept.{Kept}
use Rattle.sess_book.specs.declared.session.Holding.{Holding}
use Rattle.sess_book.specs.declared.session.Holding.TheVariants as holding
use Rattle.sess_book.specs.Entries.{kept_again}
use Rattle.sess_book.specs.Inside.{IsSound, IsFree, is_out, leases_out}
use Rattle.sess_book.specs.Sessions.{Sessions, MOST, has_minute_left, micros_of, newest, is_kept}
use Rattle.sess_book.proofs.ListLemmas.{length-set, slice_get-set_same, slice_get-set_other, slice_get-push, slice_get-take}

-- ---- Leases that are out

leases_out-set : (xs : List Session) (i : ℕ) (x y : Session) → slice_get xs i ≡ Some x →
    leases_out (slice_set xs i y) + is_out x.holding ≡ leases_out xs + is_out y.holding
leases_out-set [] i x y h = absurd (cc)
leases_out-set (z ∷ zs) zero x y h = let same : z ≡ x = cc in subst (λ w. is_out y.holding + leases_out zs + is_out w.holding ≡ is_out z.holding + leases_out zs + is_out y.holding) same (omega arith)
leases_out-set (z ∷ zs) (suc i) x y h = omega (arith, leases_out-set zs i x y h)

pub leases_out-there : (xs : List Session) (i : ℕ) (x : Session) → slice_get xs i ≡ Some x → is_out x.holding ≤ leases_out xs
leases_out-there [] i x h = absurd (cc)
leases_out-there (z ∷ zs) zero x h = let same : z ≡ x = cc in subst (λ w. is_out w.holding ≤ is_out z.holding + leases_out zs) same (omega arith)
leases_out-there (z ∷ zs) (suc i) x h = omega (arith, leases_out-there zs i x h)

leases_out-push : (xs : List Session) (y : Session) → leases_out (xs ++ y ∷ []) ≡ leases_out xs + is_out y.holding
leases_out-push [] y = omega arith
leases_out-push (x ∷ xs) y = omega (arith, leases_out-push xs y)

pub is_out-held : (h : Holding) → h ≢ holding.Nobody → is_out h ≡ 1
is_out-held holding.Nobody n = absurd (n refl)
is_out-held holding.Leased n = refl
is_out-held holding.Drawn n = refl

-- ---- One session changes

-- a kept session stays free where another one changes
IsFree-other : (made : List Session) (place : ℕ) (y : Session) (other : ℕ) → (other ≡ place → ⊥) → IsFree made other → IsFree (slice_set made place y) other
IsFree-other made place y other apart free = (free.0, slice_get-set_other made place other y apart ∙ free.1, free.2, free.3)

-- a session that is held is not kept
not_kept : (s : Sessions) → IsSound s → (place : ℕ) (x : Session) → slice_get s.made place ≡ Some x → x.holding ≢ holding.Nobody →
    (i : ℕ) (k : Kept) → slice_get s.kept i ≡ Some k → k.place ≡ place → ⊥
not_kept s sound place x there held i k at same =
    let free = sound.free i k at in
    let here : slice_get s.made place ≡ Some free.0 = subst (λ n. slice_get s.made n ≡ Some free.0) same free.1 in
    let one : free.0 ≡ x = cc in
    held (subst (λ z. z.holding ≡ holding.Nobody) one free.2)

-- numbers of the sessions whose holders have not drawn, where one session changes
numbers-set : (made : List Session) → ((i : ℕ) (x : Session) → slice_get made i ≡ Some x → x.holding ≡ holding.Leased → x.number ≢ MOST) →
    (place : ℕ) (x y : Session) → slice_get made place ≡ Some x → (y.holding ≡ holding.Leased → y.number ≢ MOST) →
    (i : ℕ) (z : Session) → slice_get (slice_set made place y) i ≡ Some z → z.holding ≡ holding.Leased → z.number ≢ MOST
numbers-set made all place x y there new i z at leased = elim (eqb_tells i place) [
  | inl w ↦
      let here : slice_get (slice_set made place y) i ≡ Some y = subst (λ n. slice_get (slice_set made place y) n ≡ Some y) (sym w.1) (slice_get-set_same made place y x there) in
      let one : y ≡ z = cc in
      subst (λ v. v.number ≢ MOST) one (new (subst (λ v. v.holding ≡ holding.Leased) (sym one) leased))
  | inr w ↦ all i z (sym (slice_get-set_other made place i y w.1) ∙ at) leased
]

-- ---- The entries

no_number : pos 0 ≢ MOST
no_number e = absurd (let b : false ≡ true = ap (λ n. int_eq n MOST) e in cc)

pub made-sound : (s : Sessions) (moment : ℕ) (lsid : Lsid) → IsSound s →
    IsSound (record { made = s.made ++ record { lsid = lsid; number = pos 0; holding = holding.Leased } ∷ []; kept = []; last = moment })
made-sound s moment lsid sound =
    let new : Session = record { lsid = lsid; number = pos 0; holding = holding.Leased } in
    record {
      free = λ i k at. absurd (cc);
      once = λ i j a b at to same. absurd (cc);
      order = λ i j a b at to below. absurd (cc);
      past = λ i k at. absurd (cc);
      numbers = λ i x at leased. elim (slice_get-push s.made new i x at) [
        | inl w ↦ sound.numbers i x w leased
        | inr w ↦ subst (λ y. y.number ≢ MOST) w.1 no_number
      ];
      apart = omega (arith, leases_out-push s.made new, length-append s.made (new ∷ []), sound.apart);
    }

pub reused-sound : (s : Sessions) (moment : ℕ) (k : Kept) (x : Session) → IsSound s → s.last ≤ moment → newest s ≡ Some k →
    slice_get s.made k.place ≡ Some x → x.holding ≡ holding.Nobody → x.number ≢ MOST →
    IsSound (record { made = slice_set s.made k.place (record x { holding = holding.Leased }); kept = take (length s.kept - 1) s.kept; last = moment })
reused-sound s moment k x sound late last_one there nobody left =
    let y : Session = record x { holding = holding.Leased } in
    let n = length s.kept - 1 in
    let some = slice_get_within s.kept n k last_one in
    let old : (i : ℕ) (a : Kept) → slice_get (take n s.kept) i ≡ Some a → (i < n) × (slice_get s.kept i ≡ Some a) = λ i a at. slice_get-take n s.kept i a at in
    let none_out : is_out x.holding ≡ 0 = ap is_out nobody in
    record {
      free = λ i a at. let was = old i a at in
          IsFree-other s.made k.place y a.place
          (λ same. let one = sound.once i n a k was.1 last_one same in let below = was.0 in omega (arith, one, below)) (sound.free i a was.1);
      once = λ i j a b at to same. sound.once i j a b (old i a at).1 (old j b to).1 same;
      order = λ i j a b at to below. sound.order i j a b (old i a at).1 (old j b to).1 below;
      past = λ i a at. let before = sound.past i a (old i a at).1 in omega (arith, before, late);
      numbers = numbers-set s.made sound.numbers k.place x y there (λ leased. left);
      apart = omega (arith, some, none_out, length-set s.made k.place y, leases_out-set s.made k.place x y there, length-take-le n s.kept (omega arith), sound.apart);
    }

pub drew-sound : (s : Sessions) (place : ℕ) (x : Session) (number : ℤ) → IsSound s → slice_get s.made place ≡ Some x → x.holding ≡ holding.Leased →
    IsSound (record s { made = slice_set s.made place (record x { number = number; holding = holding.Drawn }) })
drew-sound s place x number sound there leased =
    let y : Session = record x { number = number; holding = holding.Drawn } in
    let held : x.holding ≢ holding.Nobody = λ e. absurd (cc) in
    let one_out : is_out x.holding ≡ 1 = ap is_out leased in
    record {
      free = λ i a at. IsFree-other s.made place y a.place (not_kept s sound place x there held i a at) (sound.free i a at);
      once = sound.once;
      order = sound.order;
      past = sound.past;
      numbers = numbers-set s.made sound.numbers place x y there (λ e. absurd (cc));
      apart = omega (arith, one_out, length-set s.made place y, leases_out-set s.made place x y there, sound.apart);
    }

-- a session that is given back, and not kept
dropped-sound : (s : Sessions) (place : ℕ) (x : Session) (moment : ℕ) → IsSound s → slice_get s.made place ≡ Some x → x.holding ≢ holding.Nobody → s.last ≤ moment →
    IsSound (record { made = slice_set s.made place (record x { holding = holding.Nobody }); kept = s.kept; last = moment })
dropped-sound s place x moment sound there held late =
    let y : Session = record x { holding = holding.Nobody } in
    record {
      free = λ i a at. IsFree-other s.made place y a.place (not_kept s sound place x there held i a at) (sound.free i a at);
      once = sound.once;
      order = sound.order;
      past = λ i a at. let before = sound.past i a at in omega (arith, before, late);
      numbers = numbers-set s.made sound.numbers place x y there (λ e. absurd (cc));
      apart = omega (arith, is_out-held x.holding held, length-set s.made place y, leases_out-set s.made place x y there, sound.apart);
    }

-- and kept
kept-sound : (s : Sessions) (place : ℕ) (x : Session) (moment : ℕ) → IsSound s → slice_get s.made place ≡ Some x → x.holding ≢ holding.Nobody → s.last ≤ moment →
    x.number ≢ MOST →
    IsSound (record { made = slice_set s.made place (record x { holding = holding.Nobody }); kept = s.kept ++ record { place = place; last_use = moment } ∷ []; last = moment })
kept-sound s place x moment sound there held late left =
    let y : Session = record x { holding = holding.Nobody } in
    let new : Kept = record { place = place; last_use = moment } in
    let made = slice_set s.made place y in
    let not_new = not_kept s sound place x there held in
    let cases : (i : ℕ) (a : Kept) → slice_get (s.kept ++ new ∷ []) i ≡ Some a → (slice_get s.kept i ≡ Some a) ⊎ ((i ≡ length s.kept) × (new ≡ a)) = λ i a at. slice_get-push s.kept new i a at in
    record {
      free = λ i a at. elim (cases i a at) [
        | inl w ↦ IsFree-other s.made place y a.place (not_new i a w) (sound.free i a w)
        | inr w ↦ subst (λ b. IsFree made b.place) w.1 (y, slice_get-set_same s.made place y x there, refl, left)
      ];
      once = λ i j a b at to same. elim (cases i a at) [
        | inl w ↦ elim (cases j b to) [
          | inl v ↦ sound.once i j a b w v same
          | inr v ↦ absurd (not_new i a w (same ∙ ap (λ c. c.place) (sym v.1)))
        ]
        | inr w ↦ elim (cases j b to) [
          | inl v ↦ absurd (not_new j b v (sym same ∙ ap (λ c. c.place) (sym w.1)))
          | inr v ↦ w.0 ∙ sym v.0
        ]
      ];
      order = λ i j a b at to below. elim (cases i a at) [
        | inl w ↦ elim (cases j b to) [
          | inl v ↦ sound.order i j a b w v below
          | inr v ↦ let before = sound.past i a w in let at_last : moment ≡ b.last_use = ap (λ c. c.last_use) v.1 in omega (arith, before, late, at_last)
        ]
        | inr w ↦ elim (cases j b to) [
          | inl v ↦ let inside = slice_get_within s.kept j b v in let at_end = w.0 in absurd (omega (arith, inside, at_end, below))
          | inr v ↦ let one : moment ≡ a.last_use = ap (λ c. c.last_use) w.1 in let other : moment ≡ b.last_use = ap (λ c. c.last_use) v.1 in omega (arith, one, other)
        ]
      ];
      past = λ i a at. elim (cases i a at) [
        | inl w ↦ let before = sound.past i a w in omega (arith, before, late)
        | inr w ↦ let one : moment ≡ a.last_use = ap (λ c. c.last_use) w.1 in omega (arith, one)
      ];
      numbers = numbers-set s.made sound.numbers place x y there (λ e. absurd (cc));
      apart = omega (arith, is_out-held x.holding held, length-set s.made place y, leases_out-set s.made place x y there, length-append s.kept (new ∷ []), sound.apart);
    }

no_number_left : (dirty : Bool) → is_kept dirty MOST ≡ true → ⊥
no_number_left true e = absurd (cc)
no_number_left false e = absurd (cc)

-- ---- Time

-- where the newest kept session has no minute left, none has
pub none_left : (s : Sessions) (minutes : ℤ) (moment : ℕ) → IsSound s → ((k : Kept) → newest s ≡ Some k → has_minute_left minutes moment k ≡ false) →
    All (λ k. has_minute_left minutes moment k ≡ false) s.kept
none_left s minutes moment sound last_lacks i d within =
    let n = length s.kept - 1 in
    let a = get_or s.kept i d in
    let z = get_or s.kept n d in
    let there = slice_get-get_or s.kept n d (omega (arith, within)) in
    let before = sound.order i n a z (slice_get-get_or s.kept i d within) there (omega (arith, within)) in
    let lacks = leb-false (moment + 60000000) (z.last_use + micros_of minutes) (last_lacks z there) in
    lt-leb (moment + 60000000) (a.last_use + micros_of minutes) (omega (arith, before, lacks))

-- a session that is given back, kept or not
pub returned-sound : (s : Sessions) (place : ℕ) (x : Session) (moment : ℕ) (kept : Bool) → IsSound s → slice_get s.made place ≡ Some x → x.holding ≢ holding.Nobody → s.last ≤ moment →
    (kept ≡ true → x.number ≢ MOST) →
    IsSound (record { made = slice_set s.made place (record x { holding = holding.Nobody }); kept = s.kept ++ kept_again kept place moment; last = moment })
returned-sound s place x moment true sound there held late left = kept-sound s place x moment sound there held late (left refl)
returned-sound s place x moment false sound there held late left =
    subst (λ ks. IsSound (record { made = slice_set s.made place (record x { holding = holding.Nobody }); kept = ks; last = moment })) (sym (append-nil s.kept)) (dropped-sound s place x moment sound there held late)

-- a session that is kept has a number left
pub is_kept-left : (dirty : Bool) (number : ℤ) → is_kept dirty number ≡ true → number ≢ MOST
is_kept-left dirty number kept e = absurd (let b : is_kept dirty MOST ≡ true = subst (λ n. is_kept dirty n ≡ true) e kept in no_number_left dirty b)
