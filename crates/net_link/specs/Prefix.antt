-- A list that another one begins with.
use Rattle.std.specs.Prelude.{◌≡◌, List, ◌++◌}

-- The new list is the old one, with perhaps more behind it.
pub record IsPrefixOf {A : Type 0} (old new : List A) : Type 0 where
  pub more : List A
  pub joined : old ++ more ≡ new
