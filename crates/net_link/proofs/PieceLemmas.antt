-- A piece that holds the front of a list.
use Rattle.std.proofs.Common.{◌≡◌, ℕ, ◌+◌, List, ◌++◌, take, drop, sym}
use Rattle.std.proofs.lemmas.List.{take-append-drop, drop-drop}

-- What is left of a list is what a piece got of it, and what is left then.
pub drop-piece : (place n : ℕ) (bytes piece : List ℕ) → take n piece ≡ take n (drop place bytes) → drop place bytes ≡ take n piece ++ drop (place + n) bytes
drop-piece place n bytes piece front = rw (front, ← drop-drop n place bytes) (sym (take-append-drop n (drop place bytes)))
