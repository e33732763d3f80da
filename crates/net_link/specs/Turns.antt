-- What one read adds to a buffer.
use Rattle.std.specs.Prelude.{◌≡◌, ◌<◌, ◌≤◌, ℕ, List, drop, length}
use Rattle.net_link.specs.declared.net.Came.{Came}
use Rattle.net_link.specs.declared.net.Came.TheVariants as came

-- The bytes of a buffer behind those that it had.
abbrev pub added : List ℕ → List ℕ → List ℕ
added old new = drop (length old) new

-- A read added bytes, from one to so many, where it got some, and none elsewhere.
abbrev pub AddsUpTo : ℕ → List ℕ → Came → Type 0
AddsUpTo want bytes (came.Got n) = (0 < n) × (n ≤ want) × (length bytes ≡ n)
AddsUpTo want bytes _ = length bytes ≡ 0
