-- A loop that has read the items at the front of a list, and has the rest before it.
use Rattle.std.proofs.Common.{◌≡◌, ℕ, ◌+◌, ◌<◌, List, [], ◌∷◌, ◌++◌, Option, None, Some, Result, Ok, Err, length, drop, get_or, refl, sym, ap, ◌∙◌, append_assoc, cond}
use Rattle.std.specs.Prelude.{◌≢◌, ◌||◌, Bool, true, false, filter, map}
use Rattle.std.specs.List.{list_any}
use Rattle.std.specs.Option.{option_map, option_and_then}
use Rattle.std.proofs.lemmas.List.{at_drop_more}
use Rattle.bson_doc.specs.Steps.{◌>>=◌}
use Rattle.conn_uri.specs.Each.{read_each, each_or_none}

-- what was read, and then what the rest gives
abbrev pub joined : {E B : Type 0} → List B → Result (List B) E → Result (List B) E
joined front rest = rest >>= (λ ys. Ok (front ++ ys))

joined-one_more : {E B : Type 0} (front : List B) (y : B) (rest : Result (List B) E)
    → joined front (rest >>= (λ ys. Ok (y ∷ ys))) ≡ joined (front ++ y ∷ []) rest
joined-one_more front y (Err e) = refl
joined-one_more front y (Ok ys) = ap Ok (sym (append_assoc front (y ∷ []) ys))

pub joined-nothing : {E B : Type 0} (rest : Result (List B) E) → joined [] rest ≡ rest
joined-nothing (Err e) = refl
joined-nothing (Ok ys) = refl

read_each-cons : {E A B : Type 0} (f : A → Result B E) (x : A) (xs : List A) → read_each f (x ∷ xs) ≡ f x >>= (λ y. read_each f xs >>= (λ ys. Ok (y ∷ ys)))
read_each-cons f x xs = refl

pub read_each-nil : {E A B : Type 0} (f : A → Result B E) → read_each f [] ≡ Ok []
read_each-nil f = refl

read_each-ok : {E A B : Type 0} (f : A → Result B E) (x : A) (xs : List A) (y : B) → f x ≡ Ok y → read_each f (x ∷ xs) ≡ read_each f xs >>= (λ ys. Ok (y ∷ ys))
read_each-ok f x xs y read = read_each-cons f x xs ∙ ap (λ r. r >>= (λ z. read_each f xs >>= (λ ys. Ok (z ∷ ys)))) read

read_each-err : {E A B : Type 0} (f : A → Result B E) (x : A) (xs : List A) (e : E) → f x ≡ Err e → read_each f (x ∷ xs) ≡ Err e
read_each-err f x xs e read = read_each-cons f x xs ∙ ap (λ r. r >>= (λ z. read_each f xs >>= (λ ys. Ok (z ∷ ys)))) read

-- one more item is read
pub read_each-drop : {E A B : Type 0} (f : A → Result B E) (xs : List A) (front : List B) (n : ℕ) (x : A) (y : B)
    → n < length xs → x ≡ get_or xs n x → f x ≡ Ok y
    → joined (front ++ y ∷ []) (read_each f (drop (n + 1) xs)) ≡ joined front (read_each f (drop n xs))
read_each-drop f xs front n x y n_in is read =
    let one = at_drop_more (λ s. joined front (read_each f s)) xs n x n_in in
    let item = ap (λ i. joined front (read_each f (i ∷ drop (n + 1) xs))) (sym is) in
    let step = ap (joined front) (read_each-ok f x (drop (n + 1) xs) y read) in
    sym (one ∙ item ∙ step ∙ joined-one_more front y (read_each f (drop (n + 1) xs)))

-- an item is at fault
pub read_each-stops : {E A B : Type 0} (f : A → Result B E) (xs : List A) (front : List B) (n : ℕ) (x : A) (e : E)
    → n < length xs → x ≡ get_or xs n x → f x ≡ Err e → joined front (read_each f (drop n xs)) ≡ Err e
read_each-stops f xs front n x e n_in is read =
    let one = at_drop_more (λ s. joined front (read_each f s)) xs n x n_in in
    let item = ap (λ i. joined front (read_each f (i ∷ drop (n + 1) xs))) (sym is) in
    let step = ap (joined front) (read_each-err f x (drop (n + 1) xs) e read) in
    one ∙ item ∙ step

-- ---- Of the items that pass a test

abbrev with_kept : {E A B : Type 0} → (A → Result B E) → List B → A → List A → Bool → Result (List B) E
with_kept f front x rest t = joined front (read_each f (cond t (x ∷ rest) rest))

-- an item that does not pass is left out
pub read_kept-skip : {E A B : Type 0} (f : A → Result B E) (p : A → Bool) (xs : List A) (front : List B) (n : ℕ) (x : A)
    → n < length xs → x ≡ get_or xs n x → p x ≡ false
    → joined front (read_each f (filter p (drop (n + 1) xs))) ≡ joined front (read_each f (filter p (drop n xs)))
read_kept-skip f p xs front n x n_in is out =
    let one = at_drop_more (λ s. joined front (read_each f (filter p s))) xs n x n_in in
    let item = ap (λ i. joined front (read_each f (filter p (i ∷ drop (n + 1) xs)))) (sym is) in
    let test = ap (with_kept f front x (filter p (drop (n + 1) xs))) out in
    sym (one ∙ item ∙ test)

-- one that passes is read
pub read_kept-drop : {E A B : Type 0} (f : A → Result B E) (p : A → Bool) (xs : List A) (front : List B) (n : ℕ) (x : A) (y : B)
    → n < length xs → x ≡ get_or xs n x → p x ≡ true → f x ≡ Ok y
    → joined (front ++ y ∷ []) (read_each f (filter p (drop (n + 1) xs))) ≡ joined front (read_each f (filter p (drop n xs)))
read_kept-drop f p xs front n x y n_in is passes read =
    let one = at_drop_more (λ s. joined front (read_each f (filter p s))) xs n x n_in in
    let item = ap (λ i. joined front (read_each f (filter p (i ∷ drop (n + 1) xs)))) (sym is) in
    let test = ap (with_kept f front x (filter p (drop (n + 1) xs))) passes in
    let step = ap (joined front) (read_each-ok f x (filter p (drop (n + 1) xs)) y read) in
    sym (one ∙ item ∙ test ∙ step ∙ joined-one_more front y (read_each f (filter p (drop (n + 1) xs))))

-- or is at fault
pub read_kept-stops : {E A B : Type 0} (f : A → Result B E) (p : A → Bool) (xs : List A) (front : List B) (n : ℕ) (x : A) (e : E)
    → n < length xs → x ≡ get_or xs n x → p x ≡ true → f x ≡ Err e → joined front (read_each f (filter p (drop n xs))) ≡ Err e
read_kept-stops f p xs front n x e n_in is passes read =
    let one = at_drop_more (λ s. joined front (read_each f (filter p s))) xs n x n_in in
    let item = ap (λ i. joined front (read_each f (filter p (i ∷ drop (n + 1) xs)))) (sym is) in
    let test = ap (with_kept f front x (filter p (drop (n + 1) xs))) passes in
    let step = ap (joined front) (read_each-err f x (filter p (drop (n + 1) xs)) e read) in
    one ∙ item ∙ test ∙ step

-- ---- What a call answered

-- an Ok is what reading gives
pub ok_is_read : {E X : Type 0} (memory : E) (r s : Result X E) (x : X) → (r ≢ Err memory → r ≡ s) → r ≡ Ok x → s ≡ Ok x
ok_is_read memory r s x read is = sym (read (λ m. absurd (cc))) ∙ is

-- so is a fault that is not want of memory
pub err_is_read : {E X Y : Type 0} (memory e : E) (r s : Result X E) (t : Result Y E)
    → (r ≢ Err memory → r ≡ s) → r ≡ Err e → t ≡ Err e → (t ≢ Err memory) → s ≡ Err e
err_is_read memory e r s t read is told other = sym (read (λ m. other (told ∙ (let same : e ≡ memory = cc in ap Err same)))) ∙ is

-- ---- What another function gives

-- what is read of what another function gives
pub read_each-map : {E A B C : Type 0} (f : B → Result C E) (g : A → B) (xs : List A) → read_each (λ x. f (g x)) xs ≡ read_each f (map g xs)
read_each-map f g [] = refl
read_each-map f g (x ∷ xs) = ap (λ r. f (g x) >>= (λ y. r >>= (λ ys. Ok (y ∷ ys)))) (read_each-map f g xs)

-- ---- Each or none

-- what is read at the front, and then what the rest gives
abbrev pub behind : {B : Type 0} → List B → Option (List B) → Option (List B)
behind front rest = option_map (λ ys. front ++ ys) rest

behind-one_more : {B : Type 0} (front : List B) (y : B) (rest : Option (List B))
    → behind front (option_map (λ ys. y ∷ ys) rest) ≡ behind (front ++ y ∷ []) rest
behind-one_more front y None = refl
behind-one_more front y (Some ys) = ap Some (sym (append_assoc front (y ∷ []) ys))

pub behind-nothing : {B : Type 0} (rest : Option (List B)) → behind [] rest ≡ rest
behind-nothing None = refl
behind-nothing (Some ys) = refl

pub each_or_none-nil : {A B : Type 0} (f : A → Option B) → each_or_none f [] ≡ Some []
each_or_none-nil f = refl

each_or_none-cons : {A B : Type 0} (f : A → Option B) (x : A) (xs : List A)
    → each_or_none f (x ∷ xs) ≡ option_and_then (λ y. option_map (λ ys. y ∷ ys) (each_or_none f xs)) (f x)
each_or_none-cons f x xs = refl

-- one more item is read
pub each_or_none-drop : {A B : Type 0} (f : A → Option B) (xs : List A) (front : List B) (n : ℕ) (x : A) (y : B)
    → n < length xs → x ≡ get_or xs n x → f x ≡ Some y
    → behind (front ++ y ∷ []) (each_or_none f (drop (n + 1) xs)) ≡ behind front (each_or_none f (drop n xs))
each_or_none-drop f xs front n x y n_in is read =
    let one = at_drop_more (λ s. behind front (each_or_none f s)) xs n x n_in in
    let item = ap (λ i. behind front (each_or_none f (i ∷ drop (n + 1) xs))) (sym is) in
    let cons = each_or_none-cons f x (drop (n + 1) xs) ∙ ap (λ r. option_and_then (λ z. option_map (λ ys. z ∷ ys) (each_or_none f (drop (n + 1) xs))) r) read in
    let step = ap (behind front) cons in
    sym (one ∙ item ∙ step ∙ behind-one_more front y (each_or_none f (drop (n + 1) xs)))

-- an item gives nothing
pub each_or_none-stops : {A B : Type 0} (f : A → Option B) (xs : List A) (front : List B) (n : ℕ) (x : A)
    → n < length xs → x ≡ get_or xs n x → f x ≡ None → behind front (each_or_none f (drop n xs)) ≡ None
each_or_none-stops f xs front n x n_in is read =
    let one = at_drop_more (λ s. behind front (each_or_none f s)) xs n x n_in in
    let item = ap (λ i. behind front (each_or_none f (i ∷ drop (n + 1) xs))) (sym is) in
    let cons = each_or_none-cons f x (drop (n + 1) xs) ∙ ap (λ r. option_and_then (λ z. option_map (λ ys. z ∷ ys) (each_or_none f (drop (n + 1) xs))) r) read in
    one ∙ item ∙ ap (behind front) cons

pub each_or_none-map : {A B C : Type 0} (f : B → Option C) (g : A → B) (xs : List A) → each_or_none (λ x. f (g x)) xs ≡ each_or_none f (map g xs)
each_or_none-map f g [] = refl
each_or_none-map f g (x ∷ xs) = ap (λ r. option_and_then (λ y. option_map (λ ys. y ∷ ys) r) (f (g x))) (each_or_none-map f g xs)

pub list_any-map : {A B : Type 0} (p : B → Bool) (g : A → B) (xs : List A) → list_any (λ x. p (g x)) xs ≡ list_any p (map g xs)
list_any-map p g [] = refl
list_any-map p g (x ∷ xs) = ap (λ r. p (g x) || r) (list_any-map p g xs)
