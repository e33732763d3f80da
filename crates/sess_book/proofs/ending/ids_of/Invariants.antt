use Rattle.std.specs.Prelude.{◌≡◌, filter_map, take}
use Rattle.sess_book.specs.Ending.{id_at}
use Rattle.sess_book.proofs.ending.ids_of.Given as goal

-- The ids of the sessions so far.
abbrev pub invariant-loop-k : goal.invariant-loop-k
invariant-loop-k l = l.ids ≡ filter_map (id_at l.made) (take l.k-index l.kept)
