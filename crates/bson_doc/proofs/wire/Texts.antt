-- Texts and names, as a reader meets them.
use Rattle.std.proofs.Common.{append_assoc, inl, inr, ◌≡◌, ℕ, ◌+◌, ◌<◌, Bool, false, eqb, List, [], ◌∷◌, ◌++◌, length, get_or, take, drop, Option, Some, None, Ok, Err, refl, sym, ap, subst, ◌∙◌, arith}
use Rattle.std.specs.Prelude.{IsUtf8, position}
use Rattle.std.specs.List.{position_or_len}
use Rattle.std.specs.Str.{is_utf8}
use Rattle.std.specs.Str.Lossy.{utf8_valid_len}
use Rattle.std.specs.Option.{option_map}
use Rattle.std.proofs.lemmas.Bool.{cases_lt, cond-true, cond-false, false_from_ne_true, le-ltb, lt-ltb, eqb-true, eq-eqb}
use Rattle.std.proofs.lemmas.List.{take_at, drop_at, take-append-drop, length-take-le, drop_more, get_or-take, get_or_append_left, get_or_at, length-append}
use Rattle.std.proofs.lemmas.List.Quantifiers.{position-Some}
use Rattle.std.proofs.lemmas.List.Sums.{position_or_len_is, fails_before_first}
use Rattle.std.proofs.lemmas.Str.{is_utf8-from_IsUtf8, IsUtf8-from_is_utf8}
use Rattle.bson_doc.specs.Names.{HasNoZero}
use Rattle.bson_doc.specs.declared.bson_fault.BsonFault.TheVariants as fault
use Rattle.bson_doc.specs.wire.Reading.{text_at, until_zero}
use Rattle.bson_doc.proofs.Steps.{pass_ok}

pub text_at-utf8 : (at : ℕ) (bytes : List ℕ) → IsUtf8 bytes → text_at at bytes ≡ Ok bytes
unfolding text_at
text_at-utf8 at bytes h = cond-true (is_utf8 bytes) (Ok bytes) (Err (fault.Utf8 (at + utf8_valid_len bytes))) (is_utf8-from_IsUtf8 bytes h)

pub text_at-not_utf8 : (at n : ℕ) (bytes : List ℕ) → ¬ IsUtf8 bytes → n ≡ utf8_valid_len bytes → text_at at bytes ≡ Err (fault.Utf8 (at + n))
unfolding text_at
text_at-not_utf8 at n bytes h e =
    cond-false (is_utf8 bytes) (Ok bytes) (Err (fault.Utf8 (at + utf8_valid_len bytes))) (false_from_ne_true (is_utf8 bytes) (λ t. h (IsUtf8-from_is_utf8 bytes t)))
    ∙ ap (λ (k : ℕ). Err (fault.Utf8 (at + k))) (sym e)

-- What is read as a text is one, and is all of the bytes.
pub text_at-Ok : (at : ℕ) (bytes text : List ℕ) → text_at at bytes ≡ Ok text → (bytes ≡ text) × IsUtf8 bytes
unfolding text_at
text_at-Ok at bytes text e =
    let g = pass_ok (is_utf8 bytes) (fault.Utf8 (at + utf8_valid_len bytes)) bytes text e in
    (g.1, IsUtf8-from_is_utf8 bytes g.0)

option_map-Some : {A B : Type 0} (g : A → B) (o : Option A) (y : B) → option_map g o ≡ Some y → (x : A) × (o ≡ Some x) × (g x ≡ y)
option_map-Some g None y e = absurd cc
option_map-Some g (Some x) y e = (x, refl, cc)

abbrev pub is_zero : ℕ → Bool
is_zero b = eqb b 0

pub HasNoZero-from : (bytes : List ℕ) → ((k : ℕ) → k < length bytes → is_zero (get_or bytes k 0) ≡ false) → HasNoZero bytes
HasNoZero-from bytes h =
    let e = position_or_len_is is_zero bytes (length bytes) 0 (omega arith) h (λ lt. absurd (omega arith)) in
    cond-false _ _ _ (le-ltb (position_or_len is_zero bytes) (length bytes) (omega (arith, e)))

HasNoZero-at : (bytes : List ℕ) (k : ℕ) → HasNoZero bytes → k < length bytes → is_zero (get_or bytes k 0) ≡ false
HasNoZero-at bytes k h lt =
    elim (cases_lt (position_or_len is_zero bytes) (length bytes)) [
      | inl less ↦ absurd cc (sym (cond-true _ (Some (position_or_len is_zero bytes)) None (lt-ltb _ _ less)) ∙ h)
      | inr le ↦ fails_before_first is_zero bytes k 0 (omega arith)
    ]

-- A first 00 parts the bytes into a name, itself and what follows.
pub zero_parts : (bytes : List ℕ) (i : ℕ) → position is_zero bytes ≡ Some i → (bytes ≡ take i bytes ++ 0 ∷ drop (i + 1) bytes) × HasNoZero (take i bytes)
zero_parts bytes i e =
    let p = position-Some is_zero bytes i 0 e in
    let zero_here : get_or bytes i 0 ≡ 0 = eqb-true _ _ p.1 in
    let more : drop i bytes ≡ get_or bytes i 0 ∷ drop (i + 1) bytes = drop_more bytes i 0 p.0 in
    let parts : bytes ≡ take i bytes ++ 0 ∷ drop (i + 1) bytes =
    sym (take-append-drop i bytes) ∙ ap (λ (xs : List ℕ). take i bytes ++ xs) (more ∙ ap (λ (b : ℕ). b ∷ drop (i + 1) bytes) zero_here) in (
      parts,
      HasNoZero-from (take i bytes) (λ k lt.
          let below : k < i = omega (arith, length-take-le i bytes (omega (arith, p.0))) in
          rw (get_or-take i bytes k 0 below) (p.2 k below)),
    )

-- The same of the two parts.
pub until_zero-Some : (bytes : List ℕ) (x : List ℕ × List ℕ) → until_zero bytes ≡ Some x → (bytes ≡ x.0 ++ 0 ∷ x.1) × HasNoZero x.0
until_zero-Some bytes x e =
    let found = option_map-Some (λ i. (take i bytes, drop (i + 1) bytes)) (position is_zero bytes) x e in
    subst (λ (y : List ℕ × List ℕ). (bytes ≡ y.0 ++ 0 ∷ y.1) × HasNoZero y.0) found.2 (zero_parts bytes found.0 found.1)

-- A name with 00 behind it is found again, whatever follows.
pub until_zero-name : (name rest : List ℕ) → HasNoZero name → until_zero (name ++ 0 ∷ rest) ≡ Some (name, rest)
until_zero-name name rest h =
    let all : List ℕ = name ++ 0 ∷ rest in
    let e : position_or_len is_zero all ≡ length name =
    position_or_len_is is_zero all (length name) 0 (omega (arith, length-append name (0 ∷ rest)))
    (λ k lt. rw (get_or_append_left name (0 ∷ rest) 0 k lt) (HasNoZero-at name k h lt))
    (λ lt. eq-eqb _ _ (get_or_at name 0 rest 0 (length name) refl)) in
    let found : position is_zero all ≡ Some (length name) =
    cond-true _ _ _ (lt-ltb (position_or_len is_zero all) (length all) (omega (arith, e, length-append name (0 ∷ rest)))) ∙ ap (λ (k : ℕ). Some k) e in
    let front : take (length name) all ≡ name = take_at name (0 ∷ rest) (length name) refl in
    let behind : drop (length name + 1) all ≡ rest =
    ap (λ (xs : List ℕ). drop (length name + 1) xs) (sym (append_assoc name (0 ∷ []) rest)) ∙ drop_at (name ++ 0 ∷ []) rest (length name + 1) (length-append name (0 ∷ [])) in
    ap (option_map (λ i. (take i all, drop (i + 1) all))) found ∙ ap (λ (p : List ℕ × List ℕ). Some p) (ap (λ (x : List ℕ). (x, drop (length name + 1) all)) front ∙ ap (λ (y : List ℕ). (name, y)) behind)

pub ruleset texts = (text_at-utf8, text_at-not_utf8)
