-- The one stream of an accepted socket.
use Rattle.std.specs.Prelude.{◌≡◌, ◌<◌, ℕ, ◌+◌}
use Rattle.std.proofs.Common.{arith}

pub is-below : (t stream : ℕ) → t ≡ stream → t < stream + 1
is-below t stream same = omega (arith, same)
