-- The numbers at the places of some bytes, where the bytes are parts one after another or part of others.
use Rattle.std.proofs.Common.{◌≡◌, ◌≤◌, ℕ, ◌+◌, List, ◌++◌, length, take, drop, sym, ap, ◌∙◌, arith}
use Rattle.std.proofs.lemmas.List.{drop_at, drop-append-le, length-drop, length-take-le, take-append-drop}
use Rattle.byteorder.specs.Endian.{little_number}
use Rattle.byteorder.specs.Numbers.{little_from-append}
use Rattle.msg_wire.specs.Fields.{number_at}

pub number_at-field : (front field rest : List ℕ) (place : ℕ) → length front ≡ place → length field ≡ 4 → number_at place (front ++ (field ++ rest)) ≡ little_number 4 field
unfolding number_at
number_at-field front field rest place len size =
    ap (little_number 4) (drop_at front (field ++ rest) place len) ∙ little_from-append 4 field rest (omega arith)

pub number_at-append : (place : ℕ) (bytes more : List ℕ) → place + 4 ≤ length bytes → number_at place (bytes ++ more) ≡ number_at place bytes
unfolding number_at
number_at-append place bytes more there =
    ap (little_number 4) (drop-append-le place bytes more (omega arith))
    ∙ little_from-append 4 (drop place bytes) more (omega (arith, length-drop place bytes))

pub number_at-take : (place n : ℕ) (bytes : List ℕ) → place + 4 ≤ n → n ≤ length bytes → number_at place (take n bytes) ≡ number_at place bytes
number_at-take place n bytes fits there =
    sym (number_at-append place (take n bytes) (drop n bytes) (omega (arith, length-take-le n bytes there)))
    ∙ ap (number_at place) (take-append-drop n bytes)

-- Four bytes that begin at a place.
abbrev pub field_at : ℕ → List ℕ → List ℕ
field_at place bytes = take 4 (drop place bytes)

pub size-field_at : (place : ℕ) (bytes : List ℕ) → place + 4 ≤ length bytes → length (field_at place bytes) ≡ 4
size-field_at place bytes there = length-take-le 4 (drop place bytes) (omega (arith, length-drop place bytes))

pub number-field_at : (place : ℕ) (bytes : List ℕ) → place + 4 ≤ length bytes → little_number 4 (field_at place bytes) ≡ number_at place bytes
unfolding number_at
number-field_at place bytes there =
    sym (little_from-append 4 (field_at place bytes) (drop 4 (drop place bytes)) (omega (arith, size-field_at place bytes there)))
    ∙ ap (little_number 4) (take-append-drop 4 (drop place bytes))
