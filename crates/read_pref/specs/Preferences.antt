-- What a read preference is (Server Selection, Read Preference).
use Rattle.std.specs.Prelude.{◌≡◌, Bool, true, false, ◌&&◌, nat_lt, List, length}
use Rattle.std.specs.List.{list_any}
use Rattle.read_pref.specs.declared.mode.Mode.{Mode}
use Rattle.read_pref.specs.declared.mode.Mode.TheVariants as mode
use Rattle.read_pref.specs.declared.tag.Tag.{Tag}

-- A mode, and tag sets in the order in which they are tried.
pub record Preference : Type 0 where
  pub mode : Mode
  pub tag_sets : List (List Tag)

-- The tag set has a tag.
abbrev pub is_not_empty : List Tag → Bool
is_not_empty tags = nat_lt 0 (length tags)

-- The mode is primary.
abbrev pub is_primary_mode : Mode → Bool
is_primary_mode mode.Primary = true
is_primary_mode _ = false

-- The mode is primary and some tag set is not empty (Server Selection, Read Preference: with mode primary the tag sets must
-- be empty).
abbrev pub has_tags_on_primary : Preference → Bool
has_tags_on_primary p = is_primary_mode p.mode && list_any is_not_empty p.tag_sets

-- What every read preference keeps: no tags stand beside the mode primary.
pub record IsPreference (p : Preference) : Type 0 where
  pub no_tags_on_primary : has_tags_on_primary p ≡ false
