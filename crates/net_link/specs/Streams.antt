-- What a call keeps of streams: which are open, and which the peer has ended.
-- own: a caller with many streams keeps one fact for each.
use Rattle.std.specs.Prelude.{ℕ, ◌≢◌}

-- What was open is open.
abbrev pub KeepsOpen : (ℕ → Type 0) → (ℕ → Type 0) → Type 0
KeepsOpen old new = (t : ℕ) → old t → new t

-- What was open is open, but for this stream.
abbrev pub KeepsOpenBut : ℕ → (ℕ → Type 0) → (ℕ → Type 0) → Type 0
KeepsOpenBut stream old new = (t : ℕ) → t ≢ stream → old t → new t

-- What the peer had ended stays ended.
abbrev pub StaysEnded : (ℕ → Type 0) → (ℕ → Type 0) → Type 0
StaysEnded old new = (t : ℕ) → old t → new t
