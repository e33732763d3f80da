-- The ids of the sessions that end with a client (Driver Sessions, endSessions).
use Rattle.std.specs.Prelude.{◌≡◌, ◌<◌, ◌≤◌, ℕ, ◌+◌, List, [], Option, Some, length, map, flat_map, filter_map, slice_get}
use Rattle.std.specs.Option.{option_map}
use Rattle.bson_doc.specs.declared.ids.Lsid.{Lsid}
use Rattle.sess_book.specs.declared.session.Session.{Session}
use Rattle.sess_book.specs.declared.session.Kept.{Kept}
use Rattle.sess_book.specs.Sessions.{Sessions}

-- The most ids that one endSessions command names (Driver Sessions, endSessions: 10,000).
abbrev pub MOST_IDS : ℕ
MOST_IDS = 10000

-- The id of a kept session.
abbrev pub id_at : List Session → Kept → Option Lsid
id_at made k = option_map (λ x. x.lsid) (slice_get made k.place)

-- The ids of the kept sessions, in the order in which they were given back.
abbrev pub kept_ids : Sessions → List Lsid
kept_ids s = filter_map (id_at s.made) s.kept

-- The ids, in lists of which each has one at least and the most at most, and each but the last has the most.
pub record IsParted (lists : List (List Lsid)) (ids : List Lsid) : Type 0 where
  pub all : flat_map (λ l. l) lists ≡ ids
  pub some : (k : ℕ) (l : List Lsid) → slice_get lists k ≡ Some l → 0 < length l
  pub few : (k : ℕ) (l : List Lsid) → slice_get lists k ≡ Some l → length l ≤ MOST_IDS
  pub full : (k : ℕ) (l : List Lsid) → slice_get lists k ≡ Some l → k + 1 < length lists → length l ≡ MOST_IDS
