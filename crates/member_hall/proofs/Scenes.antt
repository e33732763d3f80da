-- A call that concerns one member, one stream and the history.
use Rattle.std.proofs.Common.{◌≡◌, ◌<◌, ◌≤◌, ℕ, List, Result, Ok, Err, length, set, refl, sym, ap, ◌∙◌, subst}
use Rattle.std.specs.List.{slice_index_or}
use Rattle.std.specs.Result.{OnOk, OnErr}
use Rattle.std.proofs.lemmas.List.{get_or_read, set-get_or, length-set}
use Rattle.msg_wire.specs.declared.message.Message.{Message}
use Rattle.net_link.specs.declared.event.NetEvent.{NetEvent}
use Rattle.member_hall.specs.Halls.{HallState, PeerState, line_at, no_line, no_peer, peer_at}
use Rattle.member_hall.specs.Inside.{IsFit}
use Rattle.member_hall.specs.Lines.{LineState}
use Rattle.member_hall.specs.Playing.{IsNext, Plays}
use Rattle.member_hall.specs.Requests.{IsFramedBy, Scene, rule_of}
use Rattle.member_hall.specs.Turns.{late_on, place_in, put_scene, request_on, scene_in}
use Rattle.member_hall.proofs.Lines.{StaysOf, fit_line, stays_by}
use Rattle.member_hall.proofs.Playing.{plays-self, plays_late, plays_request}

-- What a member and a stream are that were read by their places.
pub peer_read : (h : HallState) (m n : ℕ) (peer : PeerState) → m ≡ n → n < length h.peers → peer ≡ slice_index_or h.peers m peer → peer ≡ peer_at h.peers n
peer_read h m n peer same there is = get_or_read h.peers m peer (subst (λ (k : ℕ). k < length h.peers) (sym same) there) is no_peer ∙ ap (peer_at h.peers) same

pub line_read : (h : HallState) (s : ℕ) (line : LineState) → s < length h.lines → line ≡ slice_index_or h.lines s line → line ≡ line_at h.lines s
line_read h s line there is = get_or_read h.lines s line there is no_line

pub put_is : (h : HallState) (s m : ℕ) (peer : PeerState) (line : LineState) (events : List NetEvent) (want : Scene) → m ≡ (line_at h.lines s).member → peer ≡ want.peer → line ≡ want.line → events ≡ want.events
    → record h { peers = set h.peers m peer; lines = set h.lines s line; events = events } ≡ put_scene s want h
put_is h s m peer line events want same p l e = λ i. record h { peers = set h.peers (same i) (p i); lines = set h.lines s (l i); events = e i }

pub put_same : (h : HallState) (s : ℕ) → put_scene s (scene_in h s) h ≡ h
put_same h s = λ i. record h { peers = set-get_or h.peers (line_at h.lines s).member no_peer i; lines = set-get_or h.lines s no_line i; events = h.events }

-- A call that makes a scene of another, or leaves all.
pub made_ok : {T E : Type 0} (r : Result T E) (h : HallState) (s m : ℕ) (peer : PeerState) (line : LineState) (events : List NetEvent) (given want : Scene) → given ≡ want → m ≡ (line_at h.lines s).member
    → OnOk r (peer ≡ given.peer) → OnOk r (line ≡ given.line) → OnOk r (events ≡ given.events)
    → OnOk r (record h { peers = set h.peers m peer; lines = set h.lines s line; events = events } ≡ put_scene s want h)
made_ok (Ok x) h s m peer line events given want same at p l e = put_is h s m peer line events want at (p ∙ ap (λ (z : Scene). z.peer) same) (l ∙ ap (λ (z : Scene). z.line) same) (e ∙ ap (λ (z : Scene). z.events) same)
made_ok (Err x) h s m peer line events given want same at p l e = tt

pub made_err : {T E : Type 0} (r : Result T E) (h : HallState) (s m : ℕ) (peer old : PeerState) (line was : LineState) (events : List NetEvent) → m ≡ (line_at h.lines s).member → old ≡ peer_at h.peers (line_at h.lines s).member → was ≡ line_at h.lines s
    → OnErr r ((peer ≡ old) × (line ≡ was) × (events ≡ h.events)) → OnErr r (record h { peers = set h.peers m peer; lines = set h.lines s line; events = events } ≡ h)
made_err (Ok x) h s m peer old line was events at p l all = tt
made_err (Err x) h s m peer old line was events at p l all = put_is h s m peer line events (scene_in h s) at (all.0 ∙ p) (all.1 ∙ l) all.2 ∙ put_same h s

-- ---- a request, and a late one

pub request_plays : {T E : Type 0} (r : Result T E) (h new : HallState) (s : ℕ) (message : Message) → IsNext h s message → OnOk r (new ≡ request_on s h message) → OnErr r (new ≡ h)
    → OnOk r (IsFramedBy (rule_of (peer_at h.peers (line_at h.lines s).member) message) (place_in h s) message (peer_at h.peers (line_at h.lines s).member).member) → Plays h new
request_plays (Ok x) h new s message next is same framed = subst (λ (g : HallState). Plays h g) (sym is) (plays_request h s message next framed)
request_plays (Err x) h new s message next is same framed = subst (λ (g : HallState). Plays h g) (sym same) (plays-self h)

pub late_plays : {T E : Type 0} (r : Result T E) (h new : HallState) (s : ℕ) → s < length h.lines → (line_at h.lines s).member < length h.peers → OnOk r (new ≡ late_on s h) → OnErr r (new ≡ h) → Plays h new
late_plays (Ok x) h new s there member is same = subst (λ (g : HallState). Plays h g) (sym is) (plays_late h s there member)
late_plays (Err x) h new s there member is same = subst (λ (g : HallState). Plays h g) (sym same) (plays-self h)

-- ---- what the hall keeps

pub fit_scene : {T E : Type 0} (r : Result T E) (h : HallState) (room more s m : ℕ) (peer : PeerState) (line was made : LineState) (events : List NetEvent) → IsFit h room → s < length h.lines → was ≡ line_at h.lines s
    → StaysOf was made → OnOk r (line ≡ made) → OnErr r (line ≡ was) → room ≤ more
    → IsFit (record h { peers = set h.peers m peer; lines = set h.lines s line; events = events }) more
fit_scene r h room more s m peer line was made events fit there is stays ok err grows =
    fit_line h (record h { peers = set h.peers m peer; lines = set h.lines s line; events = events }) room more s line fit there
    (subst (λ (l : LineState). StaysOf l line) is (stays_by r was line made stays ok err)) refl (length-set h.peers m peer) refl refl refl grows
