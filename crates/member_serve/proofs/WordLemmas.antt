-- Lemmas on the numbers that words spell.
use Rattle.std.proofs.Common.{◌≡◌, ◌<◌, ◌^◌, ◌&&◌, ◌||◌, ℕ, Bool, true, false, List, Option, Some, None, Result, Err, leb, length, refl, subst, arith, rules}
use Rattle.std.specs.List.{list_all}
use Rattle.std.specs.Char.{is_ascii_digit}
use Rattle.std.specs.Str.Parse.{digits_value, ParsesUnsigned}
use Rattle.std.proofs.lemmas.Grind.{common_steps}
use Rattle.std.proofs.lemmas.Str.Parse.{IsNumeralModel, numerals_by_value, parse_digits}
use Rattle.member_serve.specs.Words.{is_whole, number_to}

-- the test of digits, and their value, are those of a numeral
pub digits_are_numerals : IsNumeralModel (λ ds. list_all is_ascii_digit ds ≡ true) (digits_value 10)
digits_are_numerals = numerals_by_value _ (search rules)

-- digits that are past 64 bits are out of range
out_of_range : (all first : Bool) (len value most : ℕ) → most < 18446744073709551616 → (0 < len → value < 18446744073709551616 → ⊥)
    → ((all && leb 1 len && first) && leb 1 value && leb value most) ≡ false
out_of_range all first len value most bound h = grind (arith, common_steps)

digits_in : (a b c : Bool) → (a && b && c) ≡ true → a ≡ true
digits_in true b c e = cc
digits_in false b c e = absurd (cc)

-- digits that do not parse as a number of 64 bits are no number of the range
pub number_to-unparsed : {E : Type 0} (most : ℕ) (digits : List ℕ) (r : Result ℕ E) (e : E)
    → most < 18446744073709551616 → ParsesUnsigned 64 10 digits r → r ≡ Err e → is_whole digits ≡ true → None ≡ number_to most digits
number_to-unparsed {E} most digits r e bound h is whole =
    let P : Result ℕ E → Type 0 = ParsesUnsigned 64 10 digits in
    let all = digits_in _ _ _ whole in
    let none = parse_digits digits_are_numerals 64 digits (Err e) (subst P is h) all in
    rw (out_of_range (list_all is_ascii_digit digits) _ (length digits) (digits_value 10 digits) most bound (λ a b. none (a, b))) refl
