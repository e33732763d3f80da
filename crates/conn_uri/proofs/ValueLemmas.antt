-- Lemmas on what option values say.
use Rattle.std.proofs.Common.{◌≡◌, ◌<◌, ◌^◌, ◌&&◌, ◌||◌, ℕ, Bool, true, false, List, Option, Some, None, Result, Err, leb, length, refl, subst, arith, rules}
use Rattle.std.specs.List.{list_all}
use Rattle.std.specs.Char.{is_ascii_digit}
use Rattle.std.specs.Str.Parse.{digits_value, ParsesUnsigned}
use Rattle.std.proofs.lemmas.Grind.{common_steps}
use Rattle.std.proofs.lemmas.Str.Parse.{IsNumeralModel, numerals_by_value, parse_digits}
use Rattle.conn_uri.specs.Values.{is_whole, whole_from}

-- the test of digits, and their value, are those of a numeral
digits_are_numerals : IsNumeralModel (λ ds. list_all is_ascii_digit ds ≡ true) (digits_value 10)
digits_are_numerals = numerals_by_value _ (search rules)

-- digits that are past 64 bits are out of range
out_of_range : (all first : Bool) (len value least : ℕ) → (0 < len → value < 18446744073709551616 → ⊥)
    → ((all && leb 1 len && first) && leb least value && leb value 2147483647) ≡ false
out_of_range all first len value least h = grind (arith, common_steps)

digits_in : (a b c : Bool) → (a && b && c) ≡ true → a ≡ true
digits_in true b c e = cc
digits_in false b c e = absurd (cc)

-- digits that do not parse as a number of 64 bits are no number of the range
pub whole_from-unparsed : {E : Type 0} (least : ℕ) (digits : List ℕ) (r : Result ℕ E) (e : E)
    → ParsesUnsigned 64 10 digits r → r ≡ Err e → is_whole digits ≡ true → None ≡ whole_from least digits
whole_from-unparsed {E} least digits r e h is whole =
    let P : Result ℕ E → Type 0 = ParsesUnsigned 64 10 digits in
    let all = digits_in _ _ _ whole in
    let none = parse_digits digits_are_numerals 64 digits (Err e) (subst P is h) all in
    rw (out_of_range (list_all is_ascii_digit digits) _ (length digits) (digits_value 10 digits) least (λ a b. none (a, b))) refl
