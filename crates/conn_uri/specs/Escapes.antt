-- Percent-decoding of the parts of a connection string (Connection String, Key Value Pairs: values are percent-decoded; own:
-- what is told of escapes that are at fault).
use Rattle.std.specs.Prelude.{ℕ, zero, suc, ◌+◌, ◌-◌, ◌^◌, ◌==◌, ◌&&◌, Bool, true, false, not, min, if◌then◌else◌, List, [], ◌∷◌, Option, None, Some, Result, Ok, Err, drop, length}
use Rattle.std.specs.Char.{is_digit}
use Rattle.std.specs.Str.{is_utf8}
use Rattle.std.specs.Str.Lossy.{utf8_valid_len}
use Rattle.percent_encoding.specs.Percent.{percent_decode}
use Rattle.conn_uri.specs.Grammar.{Part}
use Rattle.conn_uri.specs.declared.fault.UriFault.{UriFault}
use Rattle.conn_uri.specs.declared.fault.UriFault.TheVariants as fault

-- The text begins with two hexadecimal digits.
abbrev pub begins_hex : List ℕ → Bool
begins_hex (high ∷ low ∷ rest) = is_digit high 16 && is_digit low 16
begins_hex _ = false

-- The text begins with an escape, '%' and two hexadecimal digits.
abbrev pub begins_escape : List ℕ → Bool
begins_escape [] = false
begins_escape (b ∷ rest) = b == 37 && begins_hex rest

-- Where the first '%' stands that begins no escape, of a text from that place on.
abbrev pub cut_from : ℕ → List ℕ → Option ℕ
cut_from place [] = None
cut_from place (b ∷ rest) = if b == 37 && not (begins_hex rest) then Some place else cut_from (place + 1) rest

-- What stands behind the first byte or escape.
abbrev pub behind_first : List ℕ → List ℕ
behind_first text = drop (if begins_escape text then 3 else 1) text

-- What stands behind so many of them.
abbrev pub behind_number : ℕ → List ℕ → List ℕ
behind_number zero text = text
behind_number (suc k) text = behind_number k (behind_first text)

-- Where that byte of the decoded text comes from.
abbrev pub source : ℕ → List ℕ → ℕ
source k text = length text - length (behind_number k text)

-- Where the first bytes stand that are no UTF-8 after decoding.
abbrev pub broken_escape : List ℕ → Option ℕ
broken_escape text = if is_utf8 (percent_decode text) then None else Some (source (utf8_valid_len (percent_decode text)) text)

-- The earlier of two places, where there are any.
abbrev pub earlier : Option ℕ → Option ℕ → Option ℕ
earlier None b = b
earlier (Some a) None = Some a
earlier (Some a) (Some b) = Some (min a b)

-- A place, or the greatest number of 32 bits where it is more (own).
abbrev pub capped : ℕ → ℕ
capped place = min place (2 ^ 32 - 1)

-- The part without its escapes, or the first escape that is at fault.
abbrev pub decoded_or : Option ℕ → Part → Result (List ℕ) UriFault
decoded_or None p = Ok (percent_decode p.text)
decoded_or (Some k) p = Err (fault.Escape (capped (p.at + k)))

abbrev pub decoded : Part → Result (List ℕ) UriFault
decoded p = decoded_or (earlier (cut_from 0 p.text) (broken_escape p.text)) p
