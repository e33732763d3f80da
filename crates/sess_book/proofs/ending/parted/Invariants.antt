use Rattle.std.specs.Prelude.{◌≡◌, ◌<◌, ◌≤◌, ◌++◌, All, flat_map, length, take}
use Rattle.sess_book.specs.Ending.{MOST_IDS}
use Rattle.sess_book.proofs.ending.parted.Given as goal

-- The ids so far are in full lists and the last one, which is empty at first alone.
abbrev pub invariant-loop-id : goal.invariant-loop-id
invariant-loop-id l =
    (flat_map (λ x. x) l.lists ++ l.last ≡ take l.id-index l.ids) × All (λ x. length x ≡ MOST_IDS) l.lists × (length l.last ≤ MOST_IDS)
    × (0 < length l.lists → 0 < length l.last)
