-- What members are known to share with the last elected one.
-- own: so that an election and a following look only at what is new.
use Rattle.std.specs.Prelude.{◌≡◌, min, ℕ, List, length, map, slice_index_or}
use Rattle.member_core.specs.Members.{Kept}
use Rattle.member_core.specs.Shares.{IsShared}
use Rattle.member_hall.specs.Halls.{PeerState, peer_at}

-- How many entries at the front of a member's log are known to be those of the last elected member's log.
abbrev pub share_at : List ℕ → ℕ → ℕ
share_at shares m = slice_index_or shares m 0

-- None is known of more than so many.
abbrev pub lessened : ℕ → List ℕ → List ℕ
lessened most shares = map (λ n. min n most) shares

-- They are the same.
abbrev pub log_at : List PeerState → ℕ → List Kept
log_at peers m = (peer_at peers m).member.log

pub record HaveShares (shares : List ℕ) (peers : List PeerState) (last : ℕ) : Type 0 where
  pub all : length shares ≡ length peers
  pub shared : (m : ℕ) → IsShared (share_at shares m) (log_at peers m) (log_at peers last)
