-- A member in the place of one, in members that are split in two.
use Rattle.std.proofs.Common.{◌≡◌, ◌≢◌, ◌<◌, ◌-◌, ℕ, List, ◌++◌, Bool, Some, None, cond, length, set, sym, ap, ◌∙◌, arith, ne_eqb, length-append}
use Rattle.std.proofs.lemmas.List.{set-append_left, set-append_right, get_or_append_left, get_or-append_right, get_or_read}
use Rattle.std.specs.List.{slice_index_or}
use Rattle.member_core.specs.Members.{with_election, with_log}
use Rattle.member_hall.specs.Acts.{log_behind}
use Rattle.member_hall.specs.Halls.{PeerState, no_peer, peer_at}

-- What the front half and the back half have, all have.
at_front : (front back all : List PeerState) (i : ℕ) (x : PeerState) → all ≡ front ++ back → i < length front → x ≡ slice_index_or front i x → x ≡ peer_at all i
at_front front back all i x parts there is =
    get_or_read front i x there is no_peer ∙ sym (get_or_append_left front back no_peer i there) ∙ ap (λ (l : List PeerState). peer_at l i) (sym parts)

at_seam : (front back all : List PeerState) (n : ℕ) (x : PeerState) → all ≡ front ++ back → length front ≡ n → 0 < length back → x ≡ slice_index_or back 0 x → x ≡ peer_at all n
at_seam front back all n x parts size some is =
    let zero : n - n ≡ 0 = omega arith in
    get_or_read back 0 x some is no_peer ∙ ap (λ (k : ℕ). peer_at back k) (sym zero) ∙ sym (get_or-append_right front back n n no_peer size (omega arith)) ∙ ap (λ (l : List PeerState). peer_at l n) (sym parts)

set_front : (front back all : List PeerState) (i : ℕ) (new : PeerState) → all ≡ front ++ back → i < length front → set front i new ++ back ≡ set all i new
set_front front back all i new parts there = sym (set-append_left front back i new there) ∙ ap (λ (l : List PeerState). set l i new) (sym parts)

set_seam : (front back all : List PeerState) (n : ℕ) (new : PeerState) → all ≡ front ++ back → length front ≡ n → front ++ set back 0 new ≡ set all n new
set_seam front back all n new parts size =
    let zero : n - n ≡ 0 = omega arith in
    ap (λ (k : ℕ). front ++ set back k new) (sym zero) ∙ sym (set-append_right front back n n new size (omega arith)) ∙ ap (λ (l : List PeerState). set l n new) (sym parts)

-- The one behind is the last elected, or the one in front is.
pub split_behind : (f : PeerState → PeerState → PeerState) (front back all : List PeerState) (place last : ℕ) (mine other new : PeerState) → all ≡ front ++ back → length front ≡ last → place < last → last < length all
    → mine ≡ slice_index_or front place mine → other ≡ slice_index_or back 0 other → new ≡ f (slice_index_or front place mine) (slice_index_or back 0 other)
    → set front place new ++ back ≡ set all place (f (peer_at all place) (peer_at all last))
split_behind f front back all place last mine other new parts size less there is that made =
    let many : length all ≡ length (front ++ back) = ap length parts in
    let some : 0 < length back = omega (arith, length-append front back) in
    let own : slice_index_or front place mine ≡ peer_at all place = sym is ∙ at_front front back all place mine parts (omega arith) is in
    let others : slice_index_or back 0 other ≡ peer_at all last = sym that ∙ at_seam front back all last other parts size some that in
    set_front front back all place new parts (omega arith) ∙ ap (λ (p : PeerState). set all place p) (made ∙ (λ i. f (own i) (others i)))

pub split_ahead : (f : PeerState → PeerState → PeerState) (front back all : List PeerState) (place last : ℕ) (mine other new : PeerState) → all ≡ front ++ back → length front ≡ place → last < place → place < length all
    → mine ≡ slice_index_or back 0 mine → other ≡ slice_index_or front last other → new ≡ f (slice_index_or back 0 mine) (slice_index_or front last other)
    → front ++ set back 0 new ≡ set all place (f (peer_at all place) (peer_at all last))
split_ahead f front back all place last mine other new parts size less there is that made =
    let many : length all ≡ length (front ++ back) = ap length parts in
    let some : 0 < length back = omega (arith, length-append front back) in
    let own : slice_index_or back 0 mine ≡ peer_at all place = sym is ∙ at_seam front back all place mine parts size some is in
    let others : slice_index_or front last other ≡ peer_at all last = sym that ∙ at_front front back all last other parts (omega arith) that in
    set_seam front back all place new parts size ∙ ap (λ (p : PeerState). set all place p) (made ∙ (λ i. f (own i) (others i)))

-- What each makes of the member.
abbrev pub elects : ℕ → PeerState → PeerState → PeerState
elects number mine other = record mine { member = with_election mine.member (Some other.member.log) number }

abbrev pub follows : PeerState → PeerState → PeerState
follows mine other = record mine { member = with_log mine.member other.member.log }

pub elected_apart : (all : List PeerState) (place last number : ℕ) → last ≢ place
    → elects number (peer_at all place) (peer_at all last) ≡ record (peer_at all place) { member = with_election (peer_at all place).member (log_behind all last place) number }
elected_apart all place last number apart =
    ap (λ (b : Bool). record (peer_at all place) { member = with_election (peer_at all place).member (cond b None (Some (peer_at all last).member.log)) number }) (sym (ne_eqb last place apart))
