-- What the words of a command line ask for, and the host that is served.
use Rattle.std.specs.Prelude.{ℕ, ◌==◌, ◌&&◌, ◌||◌, Bool, not, nat_le, if◌then◌else◌, List, [], ◌∷◌, Option, None, Some, length, codes, slice_index}
use Rattle.std.specs.List.{list_all}
use Rattle.std.specs.Char.{is_ascii_digit}
use Rattle.std.specs.Str.Parse.{digits_value}
use Rattle.host_name.specs.Addresses.{Address}

-- The port that is listened on, the set's name, and after how many idle turns the serving ends.
pub record Asked : Type 0 where
  pub port : ℕ
  pub set : List ℕ
  pub turns : ℕ

-- The greatest port (Connection String, Host Information).
abbrev pub MOST_PORT : ℕ
MOST_PORT = 65535

-- The greatest number of turns, and the most bytes of a set's name (own).
abbrev pub MOST_TURNS : ℕ
MOST_TURNS = 1000000

abbrev pub MOST_SET : ℕ
MOST_SET = 1000000

-- Decimal digits without a sign and without a leading zero (own).
abbrev pub is_whole : List ℕ → Bool
is_whole text = list_all is_ascii_digit text && nat_le 1 (length text) && (length text == 1 || not (slice_index text 0 == 48))

-- The number from 1 to that one which a word spells; none where it spells no such number.
abbrev pub number_to : ℕ → List ℕ → Option ℕ
number_to most text = if is_whole text && nat_le 1 (digits_value 10 text) && nat_le (digits_value 10 text) most then Some (digits_value 10 text) else None

-- A set's name is not empty and has no more bytes than that.
abbrev pub is_set : List ℕ → Bool
is_set text = nat_le 1 (length text) && nat_le (length text) MOST_SET

abbrev pub asked_with : Option ℕ → List ℕ → Option ℕ → Option Asked
asked_with (Some port) set (Some turns) = if is_set set then Some (record { port = port; set = set; turns = turns }) else None
asked_with (Some port) set None = None
asked_with None set turns = None

-- What the words PORT SET TURNS ask for; none where they are others (own).
abbrev pub asks : List (List ℕ) → Option Asked
asks (port ∷ set ∷ turns ∷ []) = asked_with (number_to MOST_PORT port) set (number_to MOST_TURNS turns)
asks _ = None

-- The host of a member that is served on this machine alone: the loopback address (RFC 1122, 3.2.1.3) and its port.
abbrev pub loopback : ℕ → Address
loopback port = record { name = codes "127.0.0.1"; port = port }
