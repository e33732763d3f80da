-- Lemmas on the numbers that words spell.
use Rattle.std.proofs.Common.{◌≡◌, ◌<◌, ◌&&◌, ℕ, Bool, true, false, List, None, Result, Err, leb, length, refl, subst, arith, rules}
use Rattle.std.specs.List.{list_all}
use Rattle.std.specs.Char.{is_ascii_digit}
use Rattle.std.specs.Str.Parse.{digits_value, ParsesUnsigned}
use Rattle.std.proofs.lemmas.Grind.{common_steps}
use Rattle.std.proofs.lemmas.Str.Parse.{IsNumeralModel, numerals_by_value, parse_digits}
use Rattle.run_words.specs.Words.{are_digits, number_from}

-- the test of digits, and their value, are those of a numeral
digits_are_numerals : IsNumeralModel (λ ds. list_all is_ascii_digit ds ≡ true) (digits_value 10)
digits_are_numerals = numerals_by_value _ (search rules)

-- digits that are past 64 bits are out of range
out_of_range : (all : Bool) (len value least most : ℕ) → most < 18446744073709551616 → (0 < len → value < 18446744073709551616 → ⊥)
    → ((all && leb 1 len) && leb least value && leb value most) ≡ false
out_of_range all len value least most bound h = grind (arith, common_steps)

digits_in : (a b : Bool) → (a && b) ≡ true → a ≡ true
digits_in true b e = cc
digits_in false b e = absurd (cc)

-- digits that do not parse as a number of 64 bits are no number of the range
pub number_from-unparsed : {E : Type 0} (least most : ℕ) (digits : List ℕ) (r : Result ℕ E) (e : E)
    → most < 18446744073709551616 → ParsesUnsigned 64 10 digits r → r ≡ Err e → are_digits digits ≡ true → None ≡ number_from least most digits
number_from-unparsed {E} least most digits r e bound h is digit =
    let P : Result ℕ E → Type 0 = ParsesUnsigned 64 10 digits in
    let all = digits_in _ _ digit in
    let none = parse_digits digits_are_numerals 64 digits (Err e) (subst P is h) all in
    rw (out_of_range (list_all is_ascii_digit digits) (length digits) (digits_value 10 digits) least most bound (λ a b. none (a, b))) refl
