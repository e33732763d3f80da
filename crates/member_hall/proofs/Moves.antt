-- What each part of a hall's code leaves is what the definitions say.
use Rattle.std.proofs.Common.{◌≡◌, ◌≢◌, ◌<◌, ◌+◌, ℕ, Bool, List, [], ◌∷◌, ◌++◌, cond, length, set, refl, sym, ap, ◌∙◌, arith, eq-eqb, ne_eqb}
use Rattle.std.proofs.lemmas.Bool.{lt-ltb}
use Rattle.std.proofs.lemmas.List.{get_or_read, set-get_or}
use Rattle.std.specs.List.{slice_index_or}
use Rattle.member_core.specs.Members.{with_election, with_log}
use Rattle.net_link.specs.declared.event.NetEvent.{NetEvent}
use Rattle.net_link.specs.declared.event.NetEvent.TheVariants as event
use Rattle.member_hall.specs.Acts.{elected, elected_peer, following, following_peer, happened, happened_there, host_of, log_behind, met}
use Rattle.member_hall.specs.Halls.{HallState, PeerState, no_peer, peer_at, with_peer}
use Rattle.member_hall.specs.declared.act.Act.{Act}
use Rattle.member_hall.specs.declared.act.Act.TheVariants as act

pub elected_is : (h : HallState) (host elections number : ℕ) (peers given : List PeerState) (events : List NetEvent) → given ≡ h.peers → elections ≡ h.elections + 1 → number ≡ elections + 1
    → peers ≡ set given host (record (peer_at given host) { member = with_election (peer_at given host).member (log_behind given h.last host) number }) → events ≡ h.events ++ event.Elected host ∷ []
    → record h { peers = peers; last = host; elections = elections; events = events } ≡ elected host h
unfolding elected
elected_is h host elections number peers given events same more next is told =
    let count : number ≡ h.elections + 2 = omega arith in
    let all : peers ≡ set h.peers host (elected_peer h host) =
    is ∙ (λ i. set (same i) host (record (peer_at (same i) host) { member = with_election (peer_at (same i) host).member (log_behind (same i) h.last host) (count i) })) in
    λ i. record h { peers = all i; last = host; elections = more i; events = told i }

pub following_same : (h : HallState) (host : ℕ) → h.last ≡ host → h ≡ following host h
unfolding following
following_same h host same = ap (λ (b : Bool). cond b h (record (with_peer host (following_peer h host) h) { events = h.events ++ event.Followed host ∷ [] })) (sym (eq-eqb h.last host same))

pub following_is : (h : HallState) (host : ℕ) (peers given : List PeerState) (events : List NetEvent) → given ≡ h.peers → h.last ≢ host
    → peers ≡ set given host (record (peer_at given host) { member = with_log (peer_at given host).member (peer_at given h.last).member.log }) → events ≡ h.events ++ event.Followed host ∷ []
    → record h { peers = peers; events = events } ≡ following host h
unfolding following
following_is h host peers given events same apart is told =
    let all : peers ≡ set h.peers host (following_peer h host) =
    is ∙ (λ i. set (same i) host (record (peer_at (same i) host) { member = with_log (peer_at (same i) host).member (peer_at (same i) h.last).member.log })) in
    (λ i. record h { peers = all i; events = told i })
    ∙ ap (λ (b : Bool). cond b h (record (with_peer host (following_peer h host) h) { events = h.events ++ event.Followed host ∷ [] })) (sym (ne_eqb h.last host apart))

-- ---- any act

pub happened_is : (a : Act) (h : HallState) → host_of a < length h.peers → happened_there a h ≡ happened a h
unfolding happened
happened_is a h there = ap (λ (b : Bool). cond b (happened_there a h) h) (sym (lt-ltb (host_of a) (length h.peers) there))

-- One that is no election and no following.
pub happened_alone : (a : Act) (h : HallState) → ((m : ℕ) → a ≢ act.Elect m) → ((m : ℕ) → a ≢ act.Follow m) → with_peer (host_of a) (met a (peer_at h.peers (host_of a))) h ≡ happened_there a h
happened_alone (act.Drop m) h elects follows = refl
happened_alone (act.Mute m) h elects follows = refl
happened_alone (act.Late m turns) h elects follows = refl
happened_alone (act.Hold m turns) h elects follows = refl
happened_alone (act.Refuse m code retryable no_writes) h elects follows = refl
happened_alone (act.Dead m) h elects follows = refl
happened_alone (act.Alive m) h elects follows = refl
happened_alone (act.Split m bytes) h elects follows = refl
happened_alone (act.Elect m) h elects follows = absurd (elects m refl)
happened_alone (act.Follow m) h elects follows = absurd (follows m refl)

-- ---- one member

pub met_is : (h : HallState) (a : Act) (host : ℕ) (mine new : PeerState) → host ≡ host_of a → host < length h.peers → mine ≡ slice_index_or h.peers host mine → new ≡ met a mine
    → record h { peers = set h.peers host new } ≡ with_peer (host_of a) (met a (peer_at h.peers (host_of a))) h
met_is h a host mine new same there is made =
    let own : mine ≡ peer_at h.peers (host_of a) = get_or_read h.peers host mine there is no_peer ∙ ap (peer_at h.peers) same in
    λ i. record h { peers = set h.peers (same i) ((made ∙ ap (met a) own) i) }

pub unmet_is : (h : HallState) (host : ℕ) (mine new : PeerState) → mine ≡ slice_index_or h.peers host mine → new ≡ mine → record h { peers = set h.peers host new } ≡ h
unmet_is h host mine new is same =
    ap (λ (l : List PeerState). record h { peers = l }) (ap (set h.peers host) (same ∙ is) ∙ set-get_or h.peers host mine)
