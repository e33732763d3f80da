-- Lists of which one item after another changes.
use Rattle.std.proofs.Common.{◌≡◌, ◌<◌, ℕ, suc, zero, ◌+◌, List, [], ◌∷◌, ◌++◌, length, map, take, set, get_or, Some, refl, sym, ap, ◌∙◌, arith}
use Rattle.std.proofs.Math.ListN.{drop}
use Rattle.std.proofs.lemmas.List.{append_assoc, drop-set-lt, drop_more, take_more_set}
use Rattle.std.specs.Prelude.{slice_get, slice_set}
use Rattle.desk_trail.specs.States.{changed, changed_at}

pub slice_get-set_same : {A : Type 0} (xs : List A) (k : ℕ) (x y : A) → slice_get xs k ≡ Some y → slice_get (slice_set xs k x) k ≡ Some x
slice_get-set_same [] k x y h = absurd (cc)
slice_get-set_same (z ∷ zs) zero x y h = refl
slice_get-set_same (z ∷ zs) (suc k) x y h = slice_get-set_same zs k x y h

pub set-twice : {A : Type 0} (xs : List A) (k : ℕ) (x y : A) → slice_set (slice_set xs k x) k y ≡ slice_set xs k y
set-twice [] k x y = refl
set-twice (z ∷ zs) zero x y = refl
set-twice (z ∷ zs) (suc k) x y = ap (λ v. z ∷ v) (set-twice zs k x y)

pub set-itself : {A : Type 0} (xs : List A) (k : ℕ) (x : A) → slice_get xs k ≡ Some x → slice_set xs k x ≡ xs
set-itself [] k x h = absurd (cc)
set-itself (z ∷ zs) zero x h = let same : x ≡ z = (cc) in ap (λ y. y ∷ zs) same
set-itself (z ∷ zs) (suc k) x h = ap (λ ys. z ∷ ys) (set-itself zs k x h)

pub changed-there : {A : Type 0} (xs : List A) (k : ℕ) (x : A) (f : A → A) → slice_get xs k ≡ Some x → changed xs k f ≡ slice_set xs k (f x)
changed-there xs k x f h = ap (λ o. changed_at xs k o f) h

pub changed-twice : {A : Type 0} (xs : List A) (k : ℕ) (x : A) (f g : A → A) → slice_get xs k ≡ Some x → changed (changed xs k f) k g ≡ slice_set xs k (g (f x))
changed-twice xs k x f g h =
    ap (λ ys. changed ys k g) (changed-there xs k x f h)
    ∙ changed-there (slice_set xs k (f x)) k (f x) g (slice_get-set_same xs k (f x) x h)
    ∙ set-twice xs k (f x) (g (f x))

-- the items up to there are mapped, and the others are to be
pub mapped-next : {A : Type 0} (f : A → A) (all xs ys : List A) (i : ℕ) (x : A) → i < length xs → x ≡ get_or xs i x → ys ≡ set xs i (f x) →
    map f all ≡ take i xs ++ map f (drop i xs) → map f all ≡ take (i + 1) ys ++ map f (drop (i + 1) ys)
mapped-next f all xs ys i x lt is now h =
    let next : drop i xs ≡ x ∷ drop (i + 1) xs = drop_more xs i x lt ∙ ap (λ z. z ∷ drop (i + 1) xs) (sym is) in
    let cut : take (i + 1) ys ≡ take i xs ++ f x ∷ [] = ap (take (i + 1)) now ∙ take_more_set xs i (f x) lt in
    let rest : drop (i + 1) ys ≡ drop (i + 1) xs = ap (drop (i + 1)) now ∙ drop-set-lt (i + 1) xs i (f x) (omega arith) in
    h
    ∙ ap (λ zs. take i xs ++ map f zs) next
    ∙ sym (append_assoc (take i xs) (f x ∷ []) (map f (drop (i + 1) xs)))
    ∙ ap (λ zs. zs ++ map f (drop (i + 1) xs)) (sym cut)
    ∙ ap (λ zs. take (i + 1) ys ++ map f zs) (sym rest)
