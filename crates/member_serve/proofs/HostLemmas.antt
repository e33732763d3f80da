-- Lemmas on the host of the loopback address.
use Rattle.std.proofs.Common.{◌≡◌, ◌<◌, ◌≤◌, ◌+◌, ◌++◌, ◌∷◌, [], ◌&&◌, ◌∙◌, ℕ, Bool, true, false, List, Option, Some, None, Ok, leb, length, codes, refl, ap, arith, rules}
use Rattle.std.specs.Prelude.{if◌then◌else◌, not}
use Rattle.std.specs.Fmt.{decimal}
use Rattle.std.specs.List.{list_all}
use Rattle.std.specs.Char.{is_ascii_digit}
use Rattle.std.specs.Str.Parse.{digits_value}
use Rattle.std.proofs.lemmas.Grind.{common_steps}
use Rattle.std.proofs.lemmas.List.Sums.{sum_by-cons}
use Rattle.std.proofs.lemmas.Fmt.{decimal_nonempty, digits_decimal, digits_value-decimal, length-decimal-le}
use Rattle.host_name.specs.Addresses.{address_text}
use Rattle.host_name.specs.Grammar.{before, behind, is_bracketed, is_in, is_port}
use Rattle.host_name.specs.Reading.{bracketed_reading, host_of, plain_reading, port_of, reading}
use Rattle.member_core.specs.Sizes.{IsWithin, host_size}
use Rattle.member_serve.specs.Words.{loopback}
use Rattle.member_serve.proofs.WordLemmas.{digits_are_numerals}

all_hold : (all : Bool) (len value : ℕ) → all ≡ true → 0 < len → len ≤ 5 → 1 ≤ value → value ≤ 65535
    → (all && leb 1 len && leb len 5 && leb 1 value && leb value 65535) ≡ true
all_hold all len value digits some short low high = grind (arith, common_steps)

-- The decimal digits of a port are a port's.
is_port-decimal : (port : ℕ) → 1 ≤ port → port < 65536 → is_port (decimal port) ≡ true
is_port-decimal port low high =
    let value = digits_value-decimal digits_are_numerals port (omega arith) in
    all_hold (list_all is_ascii_digit (decimal port)) (length (decimal port)) (digits_value 10 (decimal port))
    (digits_decimal digits_are_numerals port (omega arith)) (decimal_nonempty port (omega arith))
    (length-decimal-le 5 port (omega arith) (omega arith) (omega arith)) (omega (arith, value)) (omega (arith, value))

-- There is a colon in the text of such a host.
has_colon : (digits : List ℕ) → is_in 58 (codes "127.0.0.1:" ++ digits) ≡ true
has_colon digits = search rules

picks_first : {A : Type 0} (b : Bool) (x y : A) → b ≡ true → (if b then x else y) ≡ x
picks_first true x y e = refl
picks_first false x y e = absurd (cc)

picks_second : {A : Type 0} (b : Bool) (x y : A) → b ≡ false → (if b then x else y) ≡ y
picks_second true x y e = absurd (cc)
picks_second false x y e = refl

not_both : (a b : Bool) → b ≡ true → (a && not b) ≡ false
not_both true true e = refl
not_both false true e = refl
not_both true false e = absurd (cc)
not_both false false e = absurd (cc)

colon_ahead : (digits : List ℕ) → is_in 58 (before 91 (codes "127.0.0.1:" ++ digits)) ≡ true
colon_ahead digits = search rules

-- It has no brackets, since a colon stands ahead of any.
has_no_brackets : (digits : List ℕ) → is_bracketed (codes "127.0.0.1:" ++ digits) ≡ false
has_no_brackets digits = not_both (is_in 91 (codes "127.0.0.1:" ++ digits)) (is_in 58 (before 91 (codes "127.0.0.1:" ++ digits))) (colon_ahead digits)

plain_reading-loopback : (digits : List ℕ) (port : ℕ) → is_port digits ≡ true → digits_value 10 digits ≡ port
    → plain_reading (codes "127.0.0.1:" ++ digits) ≡ Ok (loopback port)
plain_reading-loopback digits port is value =
    ap (λ (p : Option (List ℕ)). host_of (codes "127.0.0.1") (port_of p)) (picks_first (is_in 58 (codes "127.0.0.1:" ++ digits)) (Some digits) None (has_colon digits))
    ∙ ap (λ (p : Option ℕ). host_of (codes "127.0.0.1") p) (picks_first (is_port digits) (Some (digits_value 10 digits)) None is)
    ∙ ap (λ (n : ℕ). host_of (codes "127.0.0.1") (Some n)) value

-- The text of the loopback address with a port spells that host.
pub reading-loopback : (port : ℕ) → 1 ≤ port → port < 65536 → reading (codes "127.0.0.1:" ++ decimal port) ≡ Ok (loopback port)
reading-loopback port low high =
    let text : List ℕ = codes "127.0.0.1:" ++ decimal port in
    picks_second (is_bracketed text) (bracketed_reading (before 91 text) (behind 91 text)) (plain_reading text) (has_no_brackets (decimal port))
    ∙ plain_reading-loopback (decimal port) port (is_port-decimal port low high) (digits_value-decimal digits_are_numerals port (omega arith))

-- A set of that one host is within the bound of sets.
pub loopback-within : (set : List ℕ) (port : ℕ) → port < 65536 → length set ≤ 1000000 → IsWithin set (loopback port ∷ [])
loopback-within set port high few =
    let digits = length-decimal-le 5 port (omega arith) (omega arith) (omega arith) in
    let size : length (address_text (loopback port)) ≡ 10 + length (decimal port) = omega arith in
    omega (arith, sum_by-cons host_size (loopback port) [])
