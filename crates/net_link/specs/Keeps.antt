-- What a call keeps of a net's streams, those among them that it is not about.
-- own: a caller with many streams keeps one fact for all of them.
use Rattle.std.specs.Prelude.{ℕ, ◌≤◌, List}
use Rattle.net_link.specs.Inbox.{Arrives, ArrivesBut}
use Rattle.net_link.specs.Streams.{KeepsOpen, KeepsOpenBut, StaysEnded}

-- What a call keeps: all that the streams have, all but what lies in one stream's inbox, or all but one stream.
pub data Kept : Type 0 where
  all : Kept
  all_but_inbox_of : ℕ → Kept
  all_but : ℕ → Kept

-- What was open is open, but for a stream that is not kept.
abbrev pub IsOpenStill : Kept → (ℕ → Type 0) → (ℕ → Type 0) → Type 0
IsOpenStill all old new = KeepsOpen old new
IsOpenStill (all_but_inbox_of stream) old new = KeepsOpen old new
IsOpenStill (all_but stream) old new = KeepsOpenBut stream old new

-- Each inbox is the old one, with perhaps more behind it, but for one that is not kept.
abbrev pub Grows : Kept → (ℕ → Type 0) → (ℕ → List ℕ) → (ℕ → List ℕ) → Type 0
Grows all live old new = Arrives live old new
Grows (all_but_inbox_of stream) live old new = ArrivesBut stream live old new
Grows (all_but stream) live old new = ArrivesBut stream live old new

-- A call kept the streams: what was open is open, new numbers lie above those that were given, inboxes only grow, and
-- what a peer had ended stays ended. The members are those of the net that was called.
pub record Keeps {A : Type 0} (kept : Kept) (tells : Type 0) (live : A → ℕ → Type 0) (mark : A → ℕ) (unread : A → ℕ → List ℕ) (ended : A → ℕ → Type 0)
    (old new : A) : Type 0 where
  pub opens : IsOpenStill kept (live old) (live new)
  pub numbers : mark old ≤ mark new
  pub arrives : tells → Grows kept (live old) (unread old) (unread new)
  pub stays_ended : tells → StaysEnded (ended old) (ended new)
