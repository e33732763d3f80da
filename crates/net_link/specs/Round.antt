-- A list of words that is read round and round.
-- own: dice whose every word is foretold.
use Rattle.std.specs.Prelude.{ℕ, ◌+◌, List, length, if◌then◌else◌, nat_lt}

-- The words, and the place of the next one.
pub record Round : Type 0 where
  pub words : List ℕ
  pub place : ℕ

-- The place behind another: behind the last comes the first.
abbrev pub next_place : Round → ℕ
next_place r = if nat_lt (r.place + 1) (length r.words) then r.place + 1 else 0
