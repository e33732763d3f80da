-- The streams of a hall, as the trait of nets asks.
-- own: a net in memory that plays a replica set.
use Rattle.std.specs.Prelude.{◌≡◌, ◌<◌, ℕ, false, true, List, [], ◌∷◌, length}
use Rattle.std.proofs.Common.{arith, zero, suc}
use Rattle.member_hall.specs.Halls.{IsLive}
use Rattle.member_hall.specs.Lines.{LineState}

-- An open stream's number was given.
pub IsLive-below : (lines : List LineState) (s : ℕ) → IsLive lines s → s < length lines
unfolding IsLive
IsLive-below [] s live = absurd (let e : false ≡ true = live in let never : ⊥ = cc in never)
IsLive-below (line ∷ lines) zero live = omega arith
IsLive-below (line ∷ lines) (suc s) live = omega (arith, IsLive-below lines s live)
