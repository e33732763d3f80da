-- The numbers that a seed gives.
-- own: a linear congruential generator with 64 bits, so that a seed gives the same run on every machine.
use Rattle.std.specs.Prelude.{ℕ, ◌+◌, ◌*◌, ◌^◌, ◌%◌, ◌/◌}

-- The state behind a draw; and what the draw gives, its upper 31 bits.
abbrev pub drawn : ℕ → ℕ
drawn x = (x * 6364136223846793005 + 1442695040888963407) % 2 ^ 64

abbrev pub given : ℕ → ℕ
given x = drawn x / 2 ^ 33
