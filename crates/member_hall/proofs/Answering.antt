-- Answers that can be read, and bytes of answers.
use Rattle.std.proofs.Common.{◌≡◌, ◌≤◌, ◌<◌, ℕ, Bool, true, false, List, [], ◌∷◌, ◌++◌, cond, leb, ltb, length, refl, sym, ap, ◌∙◌, subst, arith, append_assoc, append-nil, drop, length-drop, take}
use Rattle.std.proofs.lemmas.Bool.{le-leb, leb-true, leb-false, lt-ltb, ltb-true}
use Rattle.std.proofs.lemmas.List.{take-append-drop, take_all}
use Rattle.std.proofs.lemmas.List.Sums.{take_while-cons}
use Rattle.std.specs.Prelude.{◌&&◌}
use Rattle.std.specs.List.{prefix_len}
use Rattle.net_link.specs.Prefix.{IsPrefixOf}
use Rattle.net_link.proofs.PrefixLemmas.{IsPrefixOf-append, IsPrefixOf-same}
use Rattle.member_hall.specs.Lines.{bytes_of, can_read, first_bytes, given_of, ready}
use Rattle.member_hall.specs.declared.answer.Answer.{Answer}

pub bytes-append : (xs ys : List Answer) → bytes_of (xs ++ ys) ≡ bytes_of xs ++ bytes_of ys
bytes-append [] ys = refl
bytes-append (x ∷ xs) ys = ap (λ b. x.bytes ++ b) (bytes-append xs ys) ∙ sym (append_assoc x.bytes (bytes_of xs) (bytes_of ys))

pub bytes-push : (xs : List Answer) (x : Answer) → bytes_of (xs ++ x ∷ []) ≡ bytes_of xs ++ x.bytes
bytes-push xs x = bytes-append xs (x ∷ []) ∙ ap (λ b. bytes_of xs ++ b) (append-nil x.bytes)

-- What is lost of answers where those that can be read are kept.
pub held_back : ℕ → List Answer → List ℕ
held_back turn xs = bytes_of (drop (prefix_len (can_read turn) xs) xs)

pub ready-split : (turn : ℕ) (xs : List Answer) → bytes_of xs ≡ bytes_of (ready turn xs) ++ held_back turn xs
unfolding held_back
ready-split turn xs =
    let n : ℕ = prefix_len (can_read turn) xs in
    ap bytes_of (sym (take-append-drop n xs)) ∙ bytes-append (take n xs) (drop n xs)

ready-cons : (turn : ℕ) (x : Answer) (xs : List Answer) → ready turn (x ∷ xs) ≡ cond (can_read turn x) (x ∷ ready turn xs) []
ready-cons turn x xs = take_while-cons (can_read turn) x xs

ready_again : (turn : ℕ) (x : Answer) (xs : List Answer) (b : Bool) → can_read turn x ≡ b → ready turn (ready turn xs) ≡ ready turn xs
    → ready turn (cond b (x ∷ ready turn xs) []) ≡ cond b (x ∷ ready turn xs) []
ready_again turn x xs true e same = ready-cons turn x (ready turn xs) ∙ ap (λ b. cond b (x ∷ ready turn (ready turn xs)) []) e ∙ ap (λ (l : List Answer). x ∷ l) same
ready_again turn x xs false e same = refl

pub ready-again : (turn : ℕ) (xs : List Answer) → ready turn (ready turn xs) ≡ ready turn xs
ready-again turn [] = refl
ready-again turn (x ∷ xs) =
    ap (ready turn) (ready-cons turn x xs) ∙ ready_again turn x xs (can_read turn x) refl (ready-again turn xs) ∙ sym (ready-cons turn x xs)

-- A common front.
prefix-front : (front a b : List ℕ) → IsPrefixOf a b → IsPrefixOf (front ++ a) (front ++ b)
prefix-front front a b p = record { more = p.more; joined = append_assoc front a p.more ∙ ap (λ l. front ++ l) p.joined }

ready_more : (x : Answer) (ys zs : List Answer) (b : Bool) → IsPrefixOf (bytes_of ys) (bytes_of zs) → IsPrefixOf (bytes_of (cond b (x ∷ ys) [])) (bytes_of (cond b (x ∷ zs) []))
ready_more x ys zs true p = prefix-front x.bytes (bytes_of ys) (bytes_of zs) p
ready_more x ys zs false p = IsPrefixOf-same []

pub ready-push : (turn : ℕ) (xs : List Answer) (y : Answer) → IsPrefixOf (bytes_of (ready turn xs)) (bytes_of (ready turn (xs ++ y ∷ [])))
ready-push turn [] y = IsPrefixOf-append [] (bytes_of (ready turn (y ∷ [])))
ready-push turn (x ∷ xs) y =
    subst (λ (l : List Answer). IsPrefixOf (bytes_of l) (bytes_of (ready turn (x ∷ (xs ++ y ∷ []))))) (sym (ready-cons turn x xs))
    (subst (λ (l : List Answer). IsPrefixOf (bytes_of (cond (can_read turn x) (x ∷ ready turn xs) [])) (bytes_of l)) (sym (ready-cons turn x (xs ++ y ∷ [])))
    (ready_more x (ready turn xs) (ready turn (xs ++ y ∷ [])) (can_read turn x) (ready-push turn xs y)))

later_more : (x : Answer) (ys zs : List Answer) (a b : Bool) → (a ≡ true → b ≡ true) → IsPrefixOf (bytes_of ys) (bytes_of zs) → IsPrefixOf (bytes_of (cond a (x ∷ ys) [])) (bytes_of (cond b (x ∷ zs) []))
later_more x ys zs true true still p = prefix-front x.bytes (bytes_of ys) (bytes_of zs) p
later_more x ys zs true false still p = let clash : false ≡ true = still refl in absurd cc
later_more x ys zs false b still p = IsPrefixOf-append [] (bytes_of (cond b (x ∷ zs) []))

pub ready-later : (turn later : ℕ) (xs : List Answer) → turn ≤ later → IsPrefixOf (bytes_of (ready turn xs)) (bytes_of (ready later xs))
ready-later turn later [] less = IsPrefixOf-same []
ready-later turn later (x ∷ xs) less =
    subst (λ (l : List Answer). IsPrefixOf (bytes_of l) (bytes_of (ready later (x ∷ xs)))) (sym (ready-cons turn x xs))
    (subst (λ (l : List Answer). IsPrefixOf (bytes_of (cond (can_read turn x) (x ∷ ready turn xs) [])) (bytes_of l)) (sym (ready-cons later x xs))
    (later_more x (ready turn xs) (ready later xs) (can_read turn x) (can_read later x) (λ can. can-later x turn later less can) (ready-later turn later xs less)))
  where
    both : (n a b : ℕ) (c : Bool) (d : Bool) → a ≤ b → leb n a ≡ d → (d && c) ≡ true → (leb n b && c) ≡ true
    both n a b c true less due can = let under : n ≤ a = leb-true n a due in ap (λ (e : Bool). e && c) (le-leb n b (omega arith)) ∙ can
    both n a b c false less due can = let clash : false ≡ true = can in absurd cc

    can-later : (x : Answer) (a b : ℕ) → a ≤ b → can_read a x ≡ true → can_read b x ≡ true
    can-later x a b less can = both x.due a b (ltb 0 (length x.bytes)) (leb x.due a) less refl can

-- ---- a read

split_at : (turn count : ℕ) (x : Answer) (xs : List Answer) (b c : Bool) → can_read turn x ≡ b → leb (length x.bytes) count ≡ c → 0 < count → count ≤ length (first_bytes (cond b (x ∷ ready turn xs) []))
    → bytes_of (cond b (x ∷ ready turn xs) []) ≡ take count (first_bytes (cond b (x ∷ ready turn xs) [])) ++ bytes_of (ready turn (cond c xs (record x { bytes = drop count x.bytes } ∷ xs)))
split_at turn count x xs false c can whole some fits = absurd (omega arith)
split_at turn count x xs true true can whole some fits =
    let all = leb-true (length x.bytes) count whole in
    let same : count ≡ length x.bytes = omega arith in
    ap (λ (b : List ℕ). b ++ bytes_of (ready turn xs)) (sym (take_all count x.bytes (omega arith)))
split_at turn count x xs true false can whole some fits =
    let more = leb-false (length x.bytes) count whole in
    let left : Answer = record x { bytes = drop count x.bytes } in
    let due = left_of (leb x.due turn) (ltb 0 (length x.bytes)) can in
    let still : can_read turn left ≡ true = ap (λ (e : Bool). e && ltb 0 (length (drop count x.bytes))) due ∙ lt-ltb 0 (length (drop count x.bytes)) (omega (arith, length-drop count x.bytes)) in
    let behind : bytes_of (ready turn (left ∷ xs)) ≡ drop count x.bytes ++ bytes_of (ready turn xs) = ap bytes_of (ready-cons turn left xs ∙ ap (λ (e : Bool). cond e (left ∷ ready turn xs) []) still) in
    ap (λ (b : List ℕ). b ++ bytes_of (ready turn xs)) (sym (take-append-drop count x.bytes)) ∙ append_assoc (take count x.bytes) (drop count x.bytes) (bytes_of (ready turn xs))
    ∙ ap (λ (b : List ℕ). take count x.bytes ++ b) (sym behind)
  where
    left_of : (a b : Bool) → (a && b) ≡ true → a ≡ true
    left_of true b e = refl
    left_of false b e = e

-- What can be read is what a read takes of the first answer, and what can be read then.
pub ready-given : (turn count : ℕ) (xs : List Answer) → 0 < count → count ≤ length (first_bytes (ready turn xs))
    → bytes_of (ready turn xs) ≡ take count (first_bytes (ready turn xs)) ++ bytes_of (ready turn (given_of count xs))
ready-given turn count [] some fits = absurd (omega arith)
ready-given turn count (x ∷ xs) some fits =
    subst (λ (l : List Answer). bytes_of l ≡ take count (first_bytes l) ++ bytes_of (ready turn (given_of count (x ∷ xs)))) (sym (ready-cons turn x xs))
    (split_at turn count x xs (can_read turn x) (leb (length x.bytes) count) refl refl some (subst (λ (l : List Answer). count ≤ length (first_bytes l)) (ready-cons turn x xs) fits))

none_at : (x : Answer) (xs : List Answer) (b : Bool) → (b ≡ true → 0 < length x.bytes) → length (first_bytes (cond b (x ∷ xs) [])) ≡ 0 → bytes_of (cond b (x ∷ xs) []) ≡ []
none_at x xs true full none = let some = full refl in absurd (omega arith)
none_at x xs false full none = refl

-- Where a read has nothing to take, nothing can be read.
pub ready-none : (turn : ℕ) (xs : List Answer) → length (first_bytes (ready turn xs)) ≡ 0 → bytes_of (ready turn xs) ≡ []
ready-none turn [] none = refl
ready-none turn (x ∷ xs) none =
    subst (λ (l : List Answer). bytes_of l ≡ []) (sym (ready-cons turn x xs))
    (none_at x (ready turn xs) (can_read turn x) (λ can. ltb-true 0 (length x.bytes) (right_of (leb x.due turn) (ltb 0 (length x.bytes)) can)) (subst (λ (l : List Answer). length (first_bytes l) ≡ 0) (ready-cons turn x xs) none))
  where
    right_of : (a b : Bool) → (a && b) ≡ true → b ≡ true
    right_of true b e = e
    right_of false b e = absurd cc

-- All answers are what a read takes, and the others.
all_at : (turn count : ℕ) (x : Answer) (xs : List Answer) (b c : Bool) → can_read turn x ≡ b → leb (length x.bytes) count ≡ c → 0 < count → count ≤ length (first_bytes (cond b (x ∷ ready turn xs) []))
    → x.bytes ++ bytes_of xs ≡ take count (first_bytes (cond b (x ∷ ready turn xs) [])) ++ bytes_of (cond c xs (record x { bytes = drop count x.bytes } ∷ xs))
all_at turn count x xs false c can whole some fits = absurd (omega arith)
all_at turn count x xs true true can whole some fits = ap (λ (b : List ℕ). b ++ bytes_of xs) (sym (take_all count x.bytes (leb-true (length x.bytes) count whole)))
all_at turn count x xs true false can whole some fits = ap (λ (b : List ℕ). b ++ bytes_of xs) (sym (take-append-drop count x.bytes)) ∙ append_assoc (take count x.bytes) (drop count x.bytes) (bytes_of xs)

pub all-given : (turn count : ℕ) (xs : List Answer) (piece : List ℕ) → 0 < count → count ≤ length (first_bytes (ready turn xs)) → piece ≡ take count (first_bytes (ready turn xs))
    → bytes_of xs ≡ piece ++ bytes_of (given_of count xs)
all-given turn count [] piece some fits is = absurd (omega arith)
all-given turn count (x ∷ xs) piece some fits is =
    all_at turn count x xs (can_read turn x) (leb (length x.bytes) count) refl refl some (subst (λ (l : List Answer). count ≤ length (first_bytes l)) (ready-cons turn x xs) fits)
    ∙ ap (λ (b : List ℕ). b ++ bytes_of (given_of count (x ∷ xs))) (sym (is ∙ ap (λ (l : List Answer). take count (first_bytes l)) (ready-cons turn x xs)))
