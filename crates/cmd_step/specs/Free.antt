-- When an entry may come that need not follow another.
use Rattle.std.specs.Prelude.{◌≡◌, ◌≤◌, ℕ, false, []}
use Rattle.desk_trail.specs.Legal.{Point}

-- An entry of that moment may come: none must come next, and the client's end did not begin.
pub record IsFree (p : Point) (moment : ℕ) : Type 0 where
  pub paid : p.owed ≡ []
  pub time : p.moment ≤ moment
  pub goes_on : p.state.is_ending ≡ false
