-- The read preference that a find's line asks for (Server Selection, Read Preference; own: how a line says it).
use Rattle.std.specs.Prelude.{ℕ, ◌==◌, List, [], ◌∷◌, Option, Some, None, if◌then◌else◌, is_some, option_map, option_and_then, position}
use Rattle.read_pref.specs.Modes.{mode_named}
use Rattle.read_pref.specs.Preferences.{Preference, is_primary_mode}
use Rattle.read_pref.specs.declared.mode.Mode.{Mode}
use Rattle.read_pref.specs.declared.tag.Tag.{Tag}
use Rattle.serde_json.specs.Data.{Data, Items, no_items, item, Members, no_members, member}
use Rattle.serde_json.specs.Find.{as_array, as_object, as_str}
use Rattle.script_text.specs.Values.{value_at}
use Rattle.script_text.specs.declared.member.Member.TheVariants as line

-- A list of which the first is this, none where that or the rest is none.
abbrev pub with_first : {A : Type 0} → Option A → Option (List A) → Option (List A)
with_first None rest = None
with_first (Some x) rest = option_map (λ xs. x ∷ xs) rest

-- A tag is a name without a zero byte, and a text.
abbrev pub tag_from : List ℕ → Data → Option Tag
tag_from name d = option_and_then (λ value. if is_some (position (λ b. b == 0) name) then None else Some (record { name = name; value = value })) (as_str d)

abbrev pub tags_in : Members → Option (List Tag)
tags_in no_members = Some []
tags_in (member k d ms) = with_first (tag_from k d) (tags_in ms)

-- A tag set is an object of texts, and tag sets are an array of those.
abbrev pub set_from : Data → Option (List Tag)
set_from d = option_and_then tags_in (as_object d)

abbrev pub sets_in : Items → Option (List (List Tag))
sets_in no_items = Some []
sets_in (item d ds) = with_first (set_from d) (sets_in ds)

abbrev pub sets_from : Data → Option (List (List Tag))
sets_from d = option_and_then sets_in (as_array d)

-- A mode without tags has no tag sets, and primary has none beside it.
abbrev pub preference_with : Mode → Option Data → Option Preference
preference_with mode None = Some (record { mode = mode; tag_sets = [] })
preference_with mode (Some tags) = if is_primary_mode mode then None else option_map (λ sets. record { mode = mode; tag_sets = sets }) (sets_from tags)

-- Tags stand beside a mode; without a mode the client's own preference stands, which is none here.
abbrev pub read_from : Option Data → Option Data → Option (Option Preference)
read_from None None = Some None
read_from None (Some tags) = None
read_from (Some mode) tags = option_and_then (λ m. option_map Some (preference_with m tags)) (option_and_then mode_named (as_str mode))

abbrev pub read_at : Data → Option (Option Preference)
read_at d = read_from (value_at line.Mode d) (value_at line.Tags d)
