-- What the acts of a plan do.
-- own: what can happen to a member.
use Rattle.std.specs.Prelude.{ℕ, ◌+◌, ◌==◌, true, false, List, [], ◌∷◌, ◌++◌, length, Option, None, Some, nat_lt, if◌then◌else◌}
use Rattle.member_core.specs.Members.{Kept, with_election, with_log}
use Rattle.net_link.specs.declared.event.NetEvent.TheVariants as event
use Rattle.member_hall.specs.declared.act.Act.{Act}
use Rattle.member_hall.specs.declared.act.Act.TheVariants as act
use Rattle.member_hall.specs.declared.rule.Rule.{Rule}
use Rattle.member_hall.specs.declared.rule.Rule.TheVariants as rule
use Rattle.member_hall.specs.Halls.{HallState, PeerState, peer_at, with_peer}

-- The member that an act concerns.
abbrev pub host_of : Act → ℕ
host_of (act.Drop m) = m
host_of (act.Mute m) = m
host_of (act.Late m turns) = m
host_of (act.Hold m turns) = m
host_of (act.Refuse m code retryable no_writes) = m
host_of (act.Elect m) = m
host_of (act.Follow m) = m
host_of (act.Dead m) = m
host_of (act.Alive m) = m
host_of (act.Split m bytes) = m

-- ---- What concerns one member alone

abbrev pub with_rule : Rule → PeerState → PeerState
with_rule r peer = record peer { rules = peer.rules ++ r ∷ [] }

-- A rule for its next write request stands behind the others, and so does a hold for its next answer.
abbrev pub met : Act → PeerState → PeerState
met (act.Drop m) peer = with_rule rule.Drop peer
met (act.Mute m) peer = with_rule rule.Mute peer
met (act.Late m turns) peer = with_rule (rule.Late turns) peer
met (act.Refuse m code retryable no_writes) peer = with_rule (rule.Refuse code retryable no_writes) peer
met (act.Hold m turns) peer = record peer { holds = peer.holds ++ turns ∷ [] }
met (act.Dead m) peer = record peer { dead = true }
met (act.Alive m) peer = record peer { dead = false }
met (act.Split m bytes) peer = record peer { split = Some bytes }
met (act.Elect m) peer = peer
met (act.Follow m) peer = peer

-- ---- Elections

-- The log that the last elected member has, None where that is the member itself.
abbrev pub log_behind : List PeerState → (last : ℕ) → ℕ → Option (List Kept)
log_behind peers last m = if last == m then None else Some (peer_at peers last).member.log

abbrev pub log_of_last : HallState → ℕ → Option (List Kept)
log_of_last h m = log_behind h.peers h.last m

-- A member is elected. The first election made member 0 primary, so that the first of a hall has number 2.
abbrev pub elected_peer : HallState → ℕ → PeerState
elected_peer h m = record (peer_at h.peers m) { member = with_election (peer_at h.peers m).member (log_of_last h m) (h.elections + 2) }

unfoldable pub elected : ℕ → HallState → HallState
elected m h = record (with_peer m (elected_peer h m) h) {
  last = m;
  elections = h.elections + 1;
  events = h.events ++ event.Elected m ∷ [];
}

-- A member follows the last elected one, if that is not itself.
abbrev pub following_peer : HallState → ℕ → PeerState
following_peer h m = record (peer_at h.peers m) { member = with_log (peer_at h.peers m).member (peer_at h.peers h.last).member.log }

unfoldable pub following : ℕ → HallState → HallState
following m h =
    if h.last == m
    then h
    else record (with_peer m (following_peer h m) h) { events = h.events ++ event.Followed m ∷ [] }

-- ---- Any act

abbrev pub happened_there : Act → HallState → HallState
happened_there (act.Elect m) h = elected m h
happened_there (act.Follow m) h = following m h
happened_there other h = with_peer (host_of other) (met other (peer_at h.peers (host_of other))) h

-- An act of a member that is not there does nothing; the plan of a hall has none.
unfoldable pub happened : Act → HallState → HallState
happened a h = if nat_lt (host_of a) (length h.peers) then happened_there a h else h
