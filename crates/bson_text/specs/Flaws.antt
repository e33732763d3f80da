-- What of a JSON value has no place in a document, in the order of a walk through it, and the path to it (own).
use Rattle.std.specs.Prelude.{ℕ, ◌+◌, ◌^◌, ◌==◌, List, [], ◌∷◌, ◌++◌, map, Bool, Option, Some, None, nat_lt, if◌then◌else◌, position, is_some, decimal}
use Rattle.serde_json.specs.Data.{Num, unsigned, negative, float, Data, null, boolean, number, string, array, object, Items, no_items, item, Members, no_members, member}
use Rattle.bson_text.specs.declared.flaw.Flaw.{Flaw}
use Rattle.bson_text.specs.declared.flaw.FlawKind.{FlawKind}
use Rattle.bson_text.specs.declared.flaw.FlawKind.TheVariants.{Fraction, TooBig, Nul, Deep}

-- How deep arrays and objects may lie in one another; the outermost object has depth 1.
abbrev pub most_depth : ℕ
most_depth = 90

-- A flaw of the value itself.
abbrev pub here : FlawKind → Flaw
here kind = record { kind = kind; path = None }

-- A step in front of a path, with a point between.
abbrev pub joined : List ℕ → Option (List ℕ) → List ℕ
joined step None = step
joined step (Some path) = step ++ 46 ∷ path

-- A flaw of a part, as it is told of the whole: the step is the member's name, or the item's place from 0.
abbrev pub under : List ℕ → Flaw → Flaw
under step flaw = record { kind = flaw.kind; path = Some (joined step flaw.path) }

-- Some byte of the name is zero.
abbrev pub has_zero : List ℕ → Bool
has_zero name = is_some (position (λ b. b == 0) name)

-- A float is a fraction, whatever its value, and an integer past the greatest int64 is too big; none is below the least.
abbrev pub number_flaws : Num → List Flaw
number_flaws (unsigned n) = if nat_lt n (2 ^ 63) then [] else here TooBig ∷ []
number_flaws (negative z) = []
number_flaws (float x) = here Fraction ∷ []

-- A name is a member's own flaw, and comes before those of its value.
abbrev pub name_flaws : List ℕ → List Flaw
name_flaws name = if has_zero name then under name (here Nul) ∷ [] else []

abbrev mutual
  -- The flaws of a value that would lie at the depth, if it is an array or an object. One that lies too deep is one flaw:
  -- nothing inside it is looked at.
  pub flaws : ℕ → Data → List Flaw
  flaws depth null = []
  flaws depth (boolean b) = []
  flaws depth (number n) = number_flaws n
  flaws depth (string s) = []
  flaws depth (array ds) = if nat_lt most_depth depth then here Deep ∷ [] else item_flaws (depth + 1) 0 ds
  flaws depth (object ms) = if nat_lt most_depth depth then here Deep ∷ [] else member_flaws (depth + 1) ms

  -- Items in order, from a place on.
  pub item_flaws : ℕ → ℕ → Items → List Flaw
  item_flaws depth place no_items = []
  item_flaws depth place (item d ds) = map (under (decimal place)) (flaws depth d) ++ item_flaws depth (place + 1) ds

  -- Members in order.
  pub member_flaws : ℕ → Members → List Flaw
  member_flaws depth no_members = []
  member_flaws depth (member k d ms) = name_flaws k ++ (map (under k) (flaws depth d) ++ member_flaws depth ms)
