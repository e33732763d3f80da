-- The steps of a reading, one after another, and what a call that reads answers (own). E is the type of the faults that
-- a reading meets; one of its values says that memory ran out, which no reading of a list meets.
use Rattle.std.specs.Prelude.{◌≡◌, ◌⊎◌, ℕ, List, Option, Some, None, Result, Ok, Err}

-- Reading goes on with what was read, and stops at a fault.
infixl 10 ◌>>=◌
abbrev pub ◌>>=◌ : {E A B : Type 0} → Result A E → (A → Result B E) → Result B E
(Ok x) >>= f = f x
(Err e) >>= f = Err e

-- What was read from the front of some bytes, and the bytes behind it, or the fault that was met.
abbrev pub ReadOr : Type 0 → Type 0 → Type 0
ReadOr E A = Result (A × List ℕ) E

-- A value where there is one, else the fault.
abbrev pub or_fault : {E A : Type 0} → E → Option A → Result A E
or_fault f None = Err f
or_fault f (Some x) = Ok x

-- The fault of a reading.
abbrev pub fault_of : {E A : Type 0} → Result A E → Option E
fault_of (Ok x) = None
fault_of (Err f) = Some f

-- The error that a call answered is the fault that reading meets, unless memory ran out.
abbrev pub Fails : {E Y : Type 0} → E → E → Result Y E → Type 0
Fails memory e read = (e ≡ memory) ⊎ (read ≡ Err e)

-- What a call answered is what reading gives, unless memory ran out; view is what is seen of an Ok.
abbrev pub Gives : {E X Y : Type 0} → E → (X → Y) → Result X E → Result Y E → Type 0
Gives memory view (Ok x) read = read ≡ Ok (view x)
Gives memory view (Err e) read = Fails memory e read
