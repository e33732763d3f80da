-- Lemmas on the parts of a host's text.
use Rattle.std.proofs.Common.{◌≡◌, ◌≢◌, ◌<◌, ◌&&◌, ℕ, Bool, true, false, is_some, List, [], ◌∷◌, Option, Some, None, Result, Err, leb, length, refl, subst, arith, rules, Bor}
use Rattle.std.specs.Option.{MatchOption}
use Rattle.std.specs.List.{list_all}
use Rattle.std.specs.Char.{is_ascii_digit}
use Rattle.std.specs.Str.Parse.{digits_value, ParsesUnsigned}
use Rattle.std.proofs.lemmas.Grind.{common_steps}
use Rattle.std.proofs.lemmas.Str.Parse.{IsNumeralModel, numerals_by_value, parse_digits}
use Rattle.host_name.specs.Grammar.{begins_otherwise, past_first, is_port}

-- a text that is no colon with a rest begins otherwise, unless it is empty
begins_otherwise-no_colon : (text : List ℕ) → ((rest : List ℕ) → text ≢ 58 ∷ rest) → begins_otherwise text ≡ is_some (past_first text)
begins_otherwise-no_colon [] h = refl
begins_otherwise-no_colon (b ∷ bs) h = grind (arith, common_steps, h bs)

-- so does a text from which no colon can be stripped
pub begins_otherwise-unstripped : (text : List ℕ) (r : Option (Bor (List ℕ)))
    → MatchOption r ((rest : List ℕ) → text ≢ 58 ∷ rest) (λ x. text ≡ 58 ∷ x.now)
    → is_some r ≡ false → begins_otherwise text ≡ is_some (past_first text)
begins_otherwise-unstripped text None h none = begins_otherwise-no_colon text h
begins_otherwise-unstripped text (Some x) h none = cc

-- the test of digits, and their value, are those of a numeral
digits_are_numerals : IsNumeralModel (λ ds. list_all is_ascii_digit ds ≡ true) (digits_value 10)
digits_are_numerals = numerals_by_value _ (search rules)

-- what is out of range fails one of the tests of a port
tests_fail : (b : Bool) (len value : ℕ) → (0 < len → value < 65536 → ⊥) → (b && leb 1 len && leb len 5 && leb 1 value && leb value 65535) ≡ false
tests_fail b len value h = grind (arith, common_steps)

-- digits that do not parse as a number of 16 bits are no port
pub is_port-unparsed : {E : Type 0} (digits : List ℕ) (r : Result ℕ E) (e : E)
    → ParsesUnsigned 16 10 digits r → r ≡ Err e → list_all is_ascii_digit digits ≡ true → is_port digits ≡ false
is_port-unparsed {E} digits r e h is all =
    let P : Result ℕ E → Type 0 = ParsesUnsigned 16 10 digits in
    let none = parse_digits digits_are_numerals 16 digits (Err e) (subst P is h) all in
    tests_fail (list_all is_ascii_digit digits) (length digits) (digits_value 10 digits) (λ a b. none (a, b))
