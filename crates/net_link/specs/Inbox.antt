-- The inboxes of a net's streams: what a peer sent and no read has had.
-- own: what a net tells of its peers, so that not yet and the end have a cause that contracts see.
use Rattle.std.specs.Prelude.{◌≡◌, ◌≢◌, ℕ, List, [], ◌++◌, take}
use Rattle.net_link.specs.Prefix.{IsPrefixOf}
use Rattle.net_link.specs.declared.net.Came.{Came}
use Rattle.net_link.specs.declared.net.Came.TheVariants as came

-- Each open stream's inbox is the old one, with perhaps more behind it.
abbrev pub Arrives : (ℕ → Type 0) → (ℕ → List ℕ) → (ℕ → List ℕ) → Type 0
Arrives live old new = (t : ℕ) → live t → IsPrefixOf (old t) (new t)

-- Each open stream's inbox but this one's is the old one, with perhaps more behind it.
abbrev pub ArrivesBut : ℕ → (ℕ → Type 0) → (ℕ → List ℕ) → (ℕ → List ℕ) → Type 0
ArrivesBut stream live old new = (t : ℕ) → t ≢ stream → live t → IsPrefixOf (old t) (new t)

-- A read takes from the inbox's front. It says not yet, or that the peer ended, only where nothing is left in the inbox.
-- own: the inbox meant is the one after the call, since more may arrive at the start of the call.
abbrev pub ReadsInbox : List ℕ → List ℕ → Type 0 → List ℕ → Came → Type 0
ReadsInbox old new ended into (came.Got n) = IsPrefixOf old (take n into ++ new)
ReadsInbox old new ended into came.NotYet = (old ≡ []) × (new ≡ []) × ¬ ended
ReadsInbox old new ended into came.End = (old ≡ []) × (new ≡ []) × ended
ReadsInbox old new ended into came.Failed = IsPrefixOf old new
ReadsInbox old new ended into came.Memory = IsPrefixOf old new
