-- The parts of a host's text: name, name:port, [v6] or [v6]:port (Connection String, Host Information).
use Rattle.std.specs.Prelude.{ℕ, Bool, false, not, ◌&&◌, ◌==◌, nat_lt, nat_le, List, [], ◌∷◌, Option, None, Some, length}
use Rattle.std.specs.List.{position_or_len, before_first, after_first, list_all}
use Rattle.std.specs.Char.{is_ascii_digit}
use Rattle.std.specs.Str.Parse.{digits_value}

-- The text has such a byte.
abbrev pub is_in : ℕ → List ℕ → Bool
is_in mark text = nat_lt (position_or_len (λ b. b == mark) text) (length text)

-- What stands before the first such byte; all where there is none.
abbrev pub before : ℕ → List ℕ → List ℕ
before mark text = before_first (λ b. b == mark) text

-- What stands behind the first such byte; nothing where there is none.
abbrev pub behind : ℕ → List ℕ → List ℕ
behind mark text = after_first (λ b. b == mark) text

-- The name has brackets: the text has an opening one, '[', and no colon ahead of it. Behind a colon outside brackets
-- stands the port, whatever its bytes.
abbrev pub is_bracketed : List ℕ → Bool
is_bracketed text = is_in 91 text && not (is_in 58 (before 91 text))

-- The text is not empty and begins with another byte than a colon.
abbrev pub begins_otherwise : List ℕ → Bool
begins_otherwise [] = false
begins_otherwise (b ∷ bs) = not (b == 58)

-- What stands behind the first byte, where there is one.
abbrev pub past_first : List ℕ → Option (List ℕ)
past_first [] = None
past_first (b ∷ bs) = Some bs

-- One to five digits with a value from 1 to 65535 (own: leading zeros count as digits).
abbrev pub is_port : List ℕ → Bool
is_port digits =
    list_all is_ascii_digit digits && nat_le 1 (length digits) && nat_le (length digits) 5
    && nat_le 1 (digits_value 10 digits) && nat_le (digits_value 10 digits) 65535
