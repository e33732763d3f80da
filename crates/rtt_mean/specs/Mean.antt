-- The average round trip time of a server.
use Rattle.std.specs.Prelude.{ℕ, ◌+◌, ◌*◌, ◌/◌, Option, None, Some, List, fold}

-- The mean after one more round trip: the round trip itself where there is no mean yet, else a fifth of it and four
-- fifths of the old mean, rounded down (Server Selection, Calculation of Average Round Trip Times: the exponentially
-- weighted moving average with alpha 0.2; own: whole microseconds).
abbrev pub next_mean : Option ℕ → ℕ → ℕ
next_mean None sample = sample
next_mean (Some old) sample = (sample + 4 * old) / 5

-- The mean of round trips in the order in which they were measured: none of none, else the next mean of that of all
-- but the last and the last (Server Selection, Calculation of Average Round Trip Times).
abbrev pub mean : List ℕ → Option ℕ
mean samples = fold (λ old sample. Some (next_mean old sample)) None samples
