-- What an option's value says (URI Options; Connection String, Key Value Pairs), by its kind; none where it does not read.
use Rattle.std.specs.Prelude.{ℕ, ◌==◌, ◌&&◌, ◌||◌, Bool, true, false, not, nat_lt, nat_le, nat_eq, if◌then◌else◌, List, [], ◌∷◌, Option, None, Some, position, is_some, length, map, codes, slice_index}
use Rattle.std.specs.List.{list_all}
use Rattle.std.specs.Char.{is_ascii_digit}
use Rattle.std.specs.Option.{option_map}
use Rattle.std.specs.Str.Parse.{digits_value}
use Rattle.bson_doc.specs.Documents.{is_text}
use Rattle.host_name.specs.Grammar.{is_in, before, behind}
use Rattle.read_pref.specs.declared.tag.Tag.{Tag}
use Rattle.conn_uri.specs.Configurations.{MOST}
use Rattle.conn_uri.specs.Each.{each_or_none}
use Rattle.conn_uri.specs.Grammar.{Part, pieces}

-- Any value.
abbrev pub any_value : List ℕ → Option (List ℕ)
any_value text = Some text

-- A text that is not empty.
abbrev pub some_text : List ℕ → Option (List ℕ)
some_text text = if length text == 0 then None else Some text

-- true or false.
abbrev pub truth : List ℕ → Option Bool
truth text = if is_text (codes "true") text then Some true else (if is_text (codes "false") text then Some false else None)

-- Decimal digits without a sign and without a leading zero (own).
abbrev pub is_whole : List ℕ → Bool
is_whole text = list_all is_ascii_digit text && nat_le 1 (length text) && (length text == 1 || not (slice_index text 0 == 48))

-- A whole number from that one to 2147483647.
abbrev pub whole_from : ℕ → List ℕ → Option ℕ
whole_from least text = if is_whole text && nat_le least (digits_value 10 text) && nat_le (digits_value 10 text) MOST then Some (digits_value 10 text) else None

-- A limit: where 0 stands for none it is kept as the greatest (own).
abbrev pub without_limit : ℕ → ℕ
without_limit n = if n == 0 then MOST else n

abbrev pub limit : List ℕ → Option ℕ
limit text = option_map without_limit (whole_from 0 text)

-- name:value, cut at the first colon; no zero byte stands in the name.
abbrev pub tag_in : List ℕ → Option Tag
tag_in text =
    if is_in 58 text && not (is_some (position (λ b. b == 0) (before 58 text)))
    then Some (record { name = before 58 text; value = behind 58 text }) else None

-- Tags joined by commas; none in an empty value, which every server fits (Connection String, Repeated Keys).
abbrev pub tags_in : List ℕ → Option (List Tag)
tags_in text = if length text == 0 then Some [] else each_or_none (λ (p : Part). tag_in p.text) (pieces 44 (record { at = 0; text = text }))
