-- What the words of a command line ask for.
use Rattle.std.specs.Prelude.{ℕ, ◌-◌, ◌^◌, ◌==◌, ◌&&◌, Bool, false, List, [], ◌∷◌, Option, None, Some, length, codes, Result, Ok, Err, if◌then◌else◌, nat_le, position, slice_get}
use Rattle.std.specs.Char.{is_ascii_digit}
use Rattle.std.specs.List.{list_all}
use Rattle.std.specs.Option.{option_map_or}
use Rattle.std.specs.Str.Parse.{digits_value}
use Rattle.bson_doc.specs.Documents.{is_text}
use Rattle.conn_uri.specs.Configurations.{Configuration}
use Rattle.conn_uri.specs.Reading.{settings_of}
use Rattle.conn_uri.specs.declared.fault.UriFault.{UriFault}
use Rattle.run_words.specs.declared.fault.UseFault.{UseFault}
use Rattle.run_words.specs.declared.fault.UseFault.TheVariants as fault
use Rattle.run_words.specs.declared.task.Task.{Task}
use Rattle.run_words.specs.declared.task.Task.TheVariants as task

-- A word that begins with a dash (own: the command line has no options).
abbrev pub has_dash : List ℕ → Bool
has_dash word = option_map_or (λ b. b == 45) (slice_get word 0) false

-- The place of the first such word, counted from 0.
abbrev pub dash_in : List (List ℕ) → Option ℕ
dash_in words = position has_dash words

-- No word is longer than this.
-- own: the standard has no limit.
abbrev pub MOST_WORD : ℕ
MOST_WORD = 16777216

abbrev pub is_short : List ℕ → Bool
is_short word = nat_le (length word) MOST_WORD

abbrev pub are_short : List (List ℕ) → Bool
are_short words = list_all is_short words

-- The most commands of a soak, and the greatest seed.
abbrev pub MOST_COMMANDS : ℕ
MOST_COMMANDS = 100000

abbrev pub MOST_SEED : ℕ
MOST_SEED = 2 ^ 64 - 1

-- Decimal digits, at least one, without a sign.
abbrev pub are_digits : List ℕ → Bool
are_digits text = list_all is_ascii_digit text && nat_le 1 (length text)

-- The number between those two that a word spells; none where it spells no such number.
abbrev pub number_from : (least most : ℕ) → List ℕ → Option ℕ
number_from least most text =
    if are_digits text && nat_le least (digits_value 10 text) && nat_le (digits_value 10 text) most then Some (digits_value 10 text) else None

-- What a connection string asks for: a run over its deployment (Connection String; URI Options).
abbrev pub run_of : Result Configuration UriFault → Result Task UseFault
run_of (Ok settings) = Ok (task.Run settings)
run_of (Err e) = Err (fault.Uri e)

-- What a seed and a number of commands ask for.
abbrev pub soak_of : (seed count : Option ℕ) → Result Task UseFault
soak_of (Some seed) (Some count) = Ok (task.Soak seed count)
soak_of (Some seed) None = Err fault.Words
soak_of None count = Err fault.Words

-- What words that have no dash and are short ask for: `run URI` or `soak SEED N`.
abbrev pub task_of : List (List ℕ) → Result Task UseFault
task_of (verb ∷ uri ∷ []) = if is_text verb (codes "run") then run_of (settings_of uri) else Err fault.Words
task_of (verb ∷ seed ∷ count ∷ []) =
    if is_text verb (codes "soak") then soak_of (number_from 0 MOST_SEED seed) (number_from 1 MOST_COMMANDS count) else Err fault.Words
task_of _ = Err fault.Words

-- A dash comes first, then the words' lengths, then their form, then the connection string.
abbrev pub asks_by : Option ℕ → List (List ℕ) → Result Task UseFault
asks_by (Some place) words = Err (fault.Dash place)
asks_by None words = if are_short words then task_of words else Err fault.Words

abbrev pub asks : List (List ℕ) → Result Task UseFault
asks words = asks_by (dash_in words) words
