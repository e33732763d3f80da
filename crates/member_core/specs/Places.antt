-- An index of the places at which keys stand in a log.
-- own: the refinement.
use Rattle.std.specs.Prelude.{◌≡◌, ◌≤◌, ◌+◌, ℕ, Bool, List, [], ◌∷◌, Option, None, Some, length, map, slice_get, if◌then◌else◌}
use Rattle.std.specs.BTreeMap.{BTreeMap, get}
use Rattle.std.specs.Option.{option_and_then}
use Rattle.std.specs.declared.cmp.Ordering.{Ordering}
use Rattle.member_core.specs.Keys.{same_key}
use Rattle.member_core.specs.Logs.{times}
use Rattle.member_core.specs.Members.{Kept}
use Rattle.member_core.specs.contracts.key.KeyOrd.TheImpl as key_ord
use Rattle.member_core.specs.declared.key.Key.{Key}
use Rattle.member_core.specs.declared.kept_log.KeptLog.TheInside.{Inside}
use Rattle.member_core.specs.declared.log.LogEntry.{LogEntry}

-- The order of keys.
abbrev pub key_cmp : Key → Key → Ordering
key_cmp = (key_ord.ghosts).cmp

-- The index has the place of each entry of the log, by its key. So no two entries have one key. Of a key that stands in the log
-- no more the index may have a place still.
pub record HasPlaces (index : BTreeMap Key ℕ) (log : List LogEntry) : Type 0 where
  pub at : (place : ℕ) (entry : LogEntry) → slice_get log place ≡ Some entry → get key_cmp index entry.key ≡ Some place

-- The place, where the entry there has the key.
abbrev pub if_there : Key → ℕ → LogEntry → Option ℕ
if_there key place entry = if same_key entry.key key then Some place else None

-- Where the key stands in the log: the entry at the place that the index has says whether it stands there still.
abbrev pub place_by : BTreeMap Key ℕ → List LogEntry → Key → Option ℕ
place_by index log key = option_and_then (λ place. option_and_then (if_there key place) (slice_get log place)) (get key_cmp index key)

-- The place of a key behind entries that stand from a place on: that of the last one with the key, and else what it was.
abbrev pub placed : ℕ → List LogEntry → Key → Option ℕ → Option ℕ
placed from [] key was = was
placed from (entry ∷ log) key was = placed (from + 1) log key (if same_key entry.key key then Some from else was)

-- No two entries have one key.
pub record HasNoneTwice (log : List LogEntry) : Type 0 where
  pub once : (key : Key) → times key log ≤ 1

-- The marks of a log.
abbrev pub marks_of : List Kept → List Bool
marks_of log = map (λ kept. kept.1) log

-- There are as many marks as entries, and the index has their places.
pub record IsIndexed (l : Inside) : Type 0 where
  pub marks : length l.marks.items ≡ length l.entries
  pub places : HasPlaces l.places l.entries
