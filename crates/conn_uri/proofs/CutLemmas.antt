-- Lemmas on the pieces of a text.
use Rattle.std.proofs.Common.{◌≡◌, ◌≤◌, ◌<◌, ℕ, zero, suc, ◌+◌, ◌-◌, Bool, true, false, not, cond, List, [], ◌∷◌, length, take, drop, ◌++◌, append_assoc, length-take, refl, sym, ap, ◌∙◌, subst, arith, ◌⊎◌, inl, inr}
use Rattle.std.specs.Prelude.{◌==◌, map, nat_lt}
use Rattle.std.specs.List.{position_or_len}
use Rattle.std.proofs.lemmas.Bool.Decides.{eqb_tells, nat_tests}
use Rattle.std.proofs.lemmas.List.{map-append}
use Rattle.host_name.specs.Grammar.{is_in, before, behind}
use Rattle.conn_uri.specs.Inside.{part_of}
use Rattle.conn_uri.specs.declared.piece.Piece.{Piece}
use Rattle.conn_uri.specs.Grammar.{Part, onto, pieces_from, pieces, before_part, behind_part}

-- where the first such byte stands in the rest
abbrev place : ℕ → List ℕ → ℕ
place mark text = position_or_len (λ b. b == mark) text

one_more : (n : ℕ) → 1 + n ≡ suc n
one_more n = omega arith

two_more : (n : ℕ) → 1 + n + 1 ≡ suc (n + 1)
two_more n = omega arith

less_by_one : (m n : ℕ) → nat_lt (1 + m) (suc n) ≡ nat_lt m n
less_by_one m n = grind (arith, nat_tests)

nothing_less : (n : ℕ) → nat_lt 0 (suc n) ≡ true
nothing_less n = grind (arith, nat_tests)

before-here : (mark b : ℕ) (rest : List ℕ) → (b == mark) ≡ true → before mark (b ∷ rest) ≡ []
before-here mark b rest e = ap (λ t. take (cond (not t) (1 + place mark rest) 0) (b ∷ rest)) e

behind-here : (mark b : ℕ) (rest : List ℕ) → (b == mark) ≡ true → behind mark (b ∷ rest) ≡ rest
behind-here mark b rest e = ap (λ t. drop (cond (not t) (1 + place mark rest) 0 + 1) (b ∷ rest)) e

before-other : (mark b : ℕ) (rest : List ℕ) → (b == mark) ≡ false → before mark (b ∷ rest) ≡ b ∷ before mark rest
before-other mark b rest e = ap (λ t. take (cond (not t) (1 + place mark rest) 0) (b ∷ rest)) e ∙ ap (λ k. take k (b ∷ rest)) (one_more (place mark rest))

behind-other : (mark b : ℕ) (rest : List ℕ) → (b == mark) ≡ false → behind mark (b ∷ rest) ≡ behind mark rest
behind-other mark b rest e = ap (λ t. drop (cond (not t) (1 + place mark rest) 0 + 1) (b ∷ rest)) e ∙ ap (λ k. drop k (b ∷ rest)) (two_more (place mark rest))

is_in-other : (mark b : ℕ) (rest : List ℕ) → (b == mark) ≡ false → is_in mark (b ∷ rest) ≡ is_in mark rest
is_in-other mark b rest e =
    ap (λ t. nat_lt (cond (not t) (1 + place mark rest) 0) (suc (length rest))) e ∙ less_by_one (place mark rest) (length rest)

is_in-here : (mark b : ℕ) (rest : List ℕ) → (b == mark) ≡ true → is_in mark (b ∷ rest) ≡ true
is_in-here mark b rest e = ap (λ t. nat_lt (cond (not t) (1 + place mark rest) 0) (suc (length rest))) e ∙ nothing_less (length rest)

pub length-behind : (mark : ℕ) (text : List ℕ) → length (behind mark text) ≤ length text
length-behind mark [] = omega arith
length-behind mark (b ∷ rest) = elim (eqb_tells b mark) [
  | inl w ↦ let e = ap length (behind-here mark b rest w.0) in omega (arith, e)
  | inr w ↦ let e = ap length (behind-other mark b rest w.0) in let less = length-behind mark rest in omega (arith, e, less)
]

-- a text that has a mark has less behind it
pub length-behind_in : (mark : ℕ) (text : List ℕ) → is_in mark text ≡ true → length (behind mark text) < length text
length-behind_in mark [] found = absurd (cc)
length-behind_in mark (b ∷ rest) found = elim (eqb_tells b mark) [
  | inl w ↦ let e = ap length (behind-here mark b rest w.0) in omega (arith, e)
  | inr w ↦ let e = ap length (behind-other mark b rest w.0) in let less = length-behind mark rest in omega (arith, e, less)
]

pieces-here : (mark at b : ℕ) (rest : List ℕ) → (b == mark) ≡ true → pieces_from mark at (b ∷ rest) ≡ record { at = at; text = [] } ∷ pieces_from mark (at + 1) rest
pieces-here mark at b rest e = ap (λ t. cond t (record { at = at; text = [] } ∷ pieces_from mark (at + 1) rest) (onto at b (pieces_from mark (at + 1) rest))) e

pieces-other : (mark at b : ℕ) (rest : List ℕ) → (b == mark) ≡ false → pieces_from mark at (b ∷ rest) ≡ onto at b (pieces_from mark (at + 1) rest)
pieces-other mark at b rest e = ap (λ t. cond t (record { at = at; text = [] } ∷ pieces_from mark (at + 1) rest) (onto at b (pieces_from mark (at + 1) rest))) e

-- a text without marks is one piece
pieces_from-none : (mark at : ℕ) (text : List ℕ) → is_in mark text ≡ false → pieces_from mark at text ≡ record { at = at; text = text } ∷ []
pieces_from-none mark at [] none = refl
pieces_from-none mark at (b ∷ rest) none = elim (eqb_tells b mark) [
  | inl w ↦ absurd (let here = is_in-here mark b rest w.0 in cc)
  | inr w ↦ pieces-other mark at b rest w.0 ∙ ap (onto at b) (pieces_from-none mark (at + 1) rest (sym (is_in-other mark b rest w.0) ∙ none))
]

-- one with marks is what stands before the first, and the pieces behind it
pieces_from-found : (mark at : ℕ) (text : List ℕ) → is_in mark text ≡ true
    → pieces_from mark at text ≡ record { at = at; text = before mark text } ∷ pieces_from mark (at + (length text - length (behind mark text))) (behind mark text)
pieces_from-found mark at [] found = absurd (cc)
pieces_from-found mark at (b ∷ rest) found = elim (eqb_tells b mark) [
  | inl w ↦
      let front = before-here mark b rest w.0 in
      let back = behind-here mark b rest w.0 in
      let long : at + (length (b ∷ rest) - length rest) ≡ at + 1 = omega arith in
      pieces-here mark at b rest w.0
      ∙ sym ((λ i. record { at = at; text = front i } ∷ pieces_from mark (at + (length (b ∷ rest) - length (back i))) (back i))
      ∙ ap (λ k. record { at = at; text = [] } ∷ pieces_from mark k rest) long)
  | inr w ↦
      let front = before-other mark b rest w.0 in
      let back = behind-other mark b rest w.0 in
      let less = length-behind mark rest in
      let long : at + (length (b ∷ rest) - length (behind mark rest)) ≡ at + 1 + (length rest - length (behind mark rest)) = omega (arith, less) in
      pieces-other mark at b rest w.0
      ∙ ap (onto at b) (pieces_from-found mark (at + 1) rest (sym (is_in-other mark b rest w.0) ∙ found))
      ∙ sym ((λ i. record { at = at; text = front i } ∷ pieces_from mark (at + (length (b ∷ rest) - length (back i))) (back i))
      ∙ ap (λ k. record { at = at; text = b ∷ before mark rest } ∷ pieces_from mark k (behind mark rest)) long)
]

pub pieces-none : (mark : ℕ) (p : Part) → is_in mark p.text ≡ false → pieces mark p ≡ p ∷ []
unfolding pieces
pieces-none mark p none = pieces_from-none mark p.at p.text none

pub pieces-found : (mark : ℕ) (p : Part) → is_in mark p.text ≡ true → pieces mark p ≡ before_part mark p ∷ pieces mark (behind_part mark p)
unfolding pieces
pieces-found mark p found = pieces_from-found mark p.at p.text found

-- one more piece is cut off
pub pieces-more : (mark : ℕ) (done new : List Piece) (front rest back : Piece) → new ≡ done ++ front ∷ []
    → part_of front ≡ before_part mark (part_of rest) → part_of back ≡ behind_part mark (part_of rest) → is_in mark rest.text.now ≡ true
    → map part_of new ++ pieces mark (part_of back) ≡ map part_of done ++ pieces mark (part_of rest)
pieces-more mark done new front rest back added first behind found =
    let whole = pieces-found mark (part_of rest) found in
    ap (λ ps. map part_of ps ++ pieces mark (part_of back)) added
    ∙ ap (λ ps. ps ++ pieces mark (part_of back)) (map-append part_of done (front ∷ []))
    ∙ append_assoc (map part_of done) (part_of front ∷ []) (pieces mark (part_of back))
    ∙ (λ i. map part_of done ++ first i ∷ pieces mark (behind i))
    ∙ ap (λ ps. map part_of done ++ ps) (sym whole)

-- the last piece
pub pieces-last : (mark : ℕ) (done new : List Piece) (rest : Piece) → new ≡ done ++ rest ∷ [] → is_in mark rest.text.now ≡ false
    → map part_of new ≡ map part_of done ++ pieces mark (part_of rest)
pieces-last mark done new rest added none =
    ap (map part_of) added ∙ map-append part_of done (rest ∷ []) ∙ ap (λ ps. map part_of done ++ ps) (sym (pieces-none mark (part_of rest) none))

-- pieces are counted by marks: there is one, and no more than bytes and one
length-onto : (at b : ℕ) (ps : List Part) → 1 ≤ length ps → length (onto at b ps) ≡ length ps
length-onto at b [] some = absurd (omega (arith, some))
length-onto at b (p ∷ ps) some = refl

counted : (mark at : ℕ) (text : List ℕ) → (1 ≤ length (pieces_from mark at text)) × (length (pieces_from mark at text) ≤ length text + 1)
counted mark at [] = (omega arith, omega arith)
counted mark at (b ∷ rest) = elim (eqb_tells b mark) [
  | inl w ↦
      let e = ap length (pieces-here mark at b rest w.0) in
      let less = (counted mark (at + 1) rest).1 in
      (omega (arith, e), omega (arith, e, less))
  | inr w ↦
      let some = (counted mark (at + 1) rest).0 in
      let less = (counted mark (at + 1) rest).1 in
      let e = ap length (pieces-other mark at b rest w.0) ∙ length-onto at b (pieces_from mark (at + 1) rest) some in
      (omega (arith, e, some), omega (arith, e, less))
]

pub length-pieces : (mark : ℕ) (p : Part) → (1 ≤ length (pieces mark p)) × (length (pieces mark p) ≤ length p.text + 1)
unfolding pieces
length-pieces mark p = counted mark p.at p.text

pub length-before : (mark : ℕ) (text : List ℕ) → length (before mark text) ≤ length text
length-before mark text = let cut = length-take (place mark text) text in omega (arith, cut)
