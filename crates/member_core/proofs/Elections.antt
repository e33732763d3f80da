-- Elections worked out by hand: the rule of keys, and two others under which a write is done twice or is lost.
use Rattle.std.proofs.Common.{◌≡◌, ℕ, Bool, true, false, not, ◌==◌, List, [], ◌∷◌, ◌++◌, Some, map, refl}
use Rattle.std.specs.Prelude.{◌&&◌, pos, filter}
use Rattle.std.specs.List.{list_any}
use Rattle.bson_doc.specs.declared.ids.Lsid.{Lsid}
use Rattle.net_link.specs.declared.event.Effect.TheVariants.{Added}
use Rattle.member_core.specs.Honest.{Fits}
use Rattle.member_core.specs.Keys.{same_key}
use Rattle.member_core.specs.Logs.{SetState, elected, handled, update_at, start, times}
use Rattle.member_core.specs.Members.{Kept, elected_log, entries, gained_from}
use Rattle.member_core.specs.declared.key.Key.{Key}
use Rattle.member_core.specs.declared.key.Key.TheVariants.{Numbered}
use Rattle.member_core.specs.declared.log.LogEntry.{LogEntry}

-- One write, on two streams.
abbrev session : Lsid
session = record { 0 = 7 ∷ 7 ∷ 7 ∷ 7 ∷ 7 ∷ 7 ∷ 7 ∷ 7 ∷ 7 ∷ 7 ∷ 7 ∷ 7 ∷ 7 ∷ 7 ∷ 7 ∷ 7 ∷ [] }

abbrev key : Key
key = Numbered session (pos 1)

abbrev first : LogEntry
first = record { key = key; stream = 0; nth = 0 }

abbrev again : LogEntry
again = record { key = key; stream = 1; nth = 0 }

-- 1 is elected; 0 still takes writes and adds one late; 1 adds it again and acknowledges it.
abbrev one : SetState
one = elected start 1

abbrev two : SetState
two = handled one 0 first Added

abbrev three : SetState
three = handled two 1 again Added

fits_first : Fits one 0 key true Added
fits_first = (refl, refl)

fits_again : Fits two 1 key true Added
fits_again = (refl, refl)

-- Then 0 is elected. It has the key, and gains nothing.
once_by_keys : times key ((elected three 0).log 0) ≡ 1
once_by_keys = refl

-- An election that gives the entries that a member lacks, where the same key on another stream is another entry.
abbrev same_entry : LogEntry → LogEntry → Bool
same_entry x y = same_key x.key y.key && ((x.stream == y.stream) && (x.nth == y.nth))

abbrev elected_by_entries : SetState → ℕ → SetState
elected_by_entries w m = record w {
  log = update_at w.log m (w.log m ++ filter (λ entry. w.acked entry.key && not (list_any (same_entry entry) (w.log m))) (w.log w.last));
  takes = update_at w.takes m true;
  last = m;
}

-- The write is done twice.
twice_by_entries : times key ((elected_by_entries three 0).log 0) ≡ 2
twice_by_entries = refl

-- ---- the marks of a member's own entries

-- An election that leaves them alone.
abbrev elected_unmarked : List Kept → List Kept → List Kept
elected_unmarked own last = own ++ map (λ entry. (entry, true)) (gained_from last (entries own))

-- 0 added the write when it was deposed, 1 acknowledged it; 0 is elected and then 2, which has nothing. The write is lost.
lost_by_own_marks : elected_unmarked [] (elected_unmarked ((first, false) ∷ []) ((again, true) ∷ [])) ≡ []
lost_by_own_marks = refl

-- By the rule it is kept.
kept_by_all_marks : elected_log (Some (elected_log (Some ((again, true) ∷ [])) ((first, false) ∷ []))) [] ≡ (first, true) ∷ []
kept_by_all_marks = refl
