-- The latency window and the choice of two within it (Server Selection, Selecting servers within the latency window, and
-- operationCount-based selection: of two servers drawn at random the one with fewer operations).
use Rattle.std.specs.Prelude.{ℕ, ◌+◌, ◌-◌, ◌%◌, min, nat_le, nat_lt, if◌then◌else◌, List, [], ◌∷◌, length, filter, slice_get, Option, None, Some}
use Rattle.std.specs.List.{remove}

-- The lesser of two numbers, the one that is there where one is none.
abbrev pub lesser : Option ℕ → Option ℕ → Option ℕ
lesser None n = n
lesser (Some m) None = Some m
lesser (Some m) (Some n) = Some (min m n)

-- The least of what f gives for the items, none of the empty list.
abbrev pub least_of : {A : Type 0} → (A → ℕ) → List A → Option ℕ
least_of f [] = None
least_of f (x ∷ xs) = lesser (Some (f x)) (least_of f xs)

-- The items whose mean is at most the given least one plus the threshold; none where there is no least one.
abbrev pub within : {A : Type 0} → (A → ℕ) → Option ℕ → ℕ → List A → List A
within mean None threshold xs = []
within mean (Some least) threshold xs = filter (λ x. nat_le (mean x) (least + threshold)) xs

-- The latency window: the items whose mean is at most the least mean of all plus the threshold, in their order.
abbrev pub window : {A : Type 0} → (A → ℕ) → ℕ → List A → List A
window mean threshold xs = within mean (least_of mean xs) threshold xs

-- The one with fewer in flight, the first on a tie (own); the first where there is no second.
abbrev pub lighter : {A : Type 0} → (A → ℕ) → A → Option A → A
lighter load x None = x
lighter load x (Some y) = if nat_lt (load y) (load x) then y else x

abbrev pub lighter_of : {A : Type 0} → (A → ℕ) → Option A → Option A → Option A
lighter_of load None second = None
lighter_of load (Some x) second = Some (lighter load x second)

-- The choice of two: of n items the first word draws the place w1 mod n, the second the place w2 mod (n - 1) among the others,
-- and the one with fewer in flight is chosen. Of one item there is no other, and it is chosen (own: by two words).
abbrev pub choice : {A : Type 0} → (A → ℕ) → ℕ → ℕ → List A → Option A
choice load w1 w2 xs =
    lighter_of load (slice_get xs (w1 % length xs)) (slice_get (remove xs (w1 % length xs)) (w2 % (length xs - 1)))
