-- What members are known to share with the last elected one, behind each change of a log.
use Rattle.std.proofs.Common.{◌≡◌, ◌≢◌, ◌<◌, ◌≤◌, ◌+◌, ℕ, zero, suc, Bool, true, false, List, [], ◌∷◌, ◌++◌, Result, cond, eqb, length, set, take, drop, refl, sym, ap, ◌∙◌, subst, arith, append_assoc, append-nil}
use Rattle.std.specs.Prelude.{min}
use Rattle.std.specs.Result.{OnErr, OnOk}
use Rattle.std.proofs.lemmas.Bool.{eqb-true, eqb-false}
use Rattle.std.proofs.lemmas.List.{drop-set-lt, drop_all, drop_more, get_or-set_same, get_or-set_other, length-map, length-set, take-take, take_all, take_more_set}
use Rattle.std.proofs.lemmas.Result.{on_err_weaker, on_ok_weaker}
use Rattle.member_core.specs.Members.{Kept, elected_log, with_election, with_log}
use Rattle.member_core.specs.Shares.{IsShared}
use Rattle.member_hall.specs.Acts.{log_behind, met}
use Rattle.member_hall.specs.Halls.{PeerState, no_peer, peer_at}
use Rattle.member_hall.specs.Shared.{HaveShares, lessened, log_at, share_at}
use Rattle.member_hall.specs.declared.act.Act.{Act}
use Rattle.member_hall.specs.declared.act.Act.TheVariants as act
use Rattle.member_hall.proofs.Lines.{by_both}

-- ---- two logs

shared-less : (n k : ℕ) (log other : List Kept) → IsShared n log other → k ≤ n → IsShared k log other
shared-less n k log other s less = record {
  same = sym (take-take k n log less) ∙ ap (take k) s.same ∙ take-take k n other less;
  within = omega (arith, s.within);
  within_other = omega (arith, s.within_other);
}

shared-none : (log other : List Kept) → IsShared 0 log other
shared-none log other = record { same = refl; within = omega arith; within_other = omega arith }

shared-own : (n : ℕ) (log : List Kept) → n ≤ length log → IsShared n log log
shared-own n log within = record { same = refl; within = within; within_other = within }

shared-back : (n : ℕ) (log other : List Kept) → IsShared n log other → IsShared n other log
shared-back n log other s = record { same = sym s.same; within = s.within_other; within_other = s.within }

-- What the first and the second share, and the second and the third.
shared-on : (n k : ℕ) (a b c : List Kept) → IsShared n a b → IsShared k b c → IsShared (min n k) a c
shared-on n k a b c s t =
    let first = shared-less n (min n k) a b s (omega arith) in
    let second = shared-less k (min n k) b c t (omega arith) in
    record { same = first.same ∙ second.same; within = first.within; within_other = second.within_other }

shared-is : {n k : ℕ} {a b c d : List Kept} → k ≡ n → c ≡ a → d ≡ b → IsShared n a b → IsShared k c d
shared-is {n} {k} {a} {b} {c} {d} number first second s =
    subst (λ (l : List Kept). IsShared k l d) (sym first) (subst (λ (l : List Kept). IsShared k a l) (sym second) (subst (λ (m : ℕ). IsShared m a b) (sym number) s))

-- ---- logs L of members, of which so much S is known to be shared with the last one's, and both behind a change

-- A member is elected, with whose log the last elected one shares so much.
elected_all : (S T : ℕ → ℕ) (L K : ℕ → List Kept) (place last found : ℕ) → ((m : ℕ) → IsShared (S m) (L m) (L last)) → ((m : ℕ) → m ≢ place → K m ≡ L m) → IsShared found (K place) (L last)
    → T last ≡ found → ((m : ℕ) → m ≢ last → T m ≡ min (S m) found) → (m : ℕ) → IsShared (T m) (K m) (K place)
elected_all S T L K place last found old other new at_last less m = at (eqb m last) refl (eqb m place) refl
  where
    own : (n : ℕ) → n ≤ found → IsShared n (K place) (K place)
    own n within = shared-own n (K place) (omega (arith, within, new.within))

    at : (b : Bool) → eqb m last ≡ b → (d : Bool) → eqb m place ≡ d → IsShared (T m) (K m) (K place)
    at true e true f = shared-is (ap T (eqb-true m last e) ∙ at_last) (ap K (eqb-true m place f)) refl (own found (omega arith))
    at true e false f =
        let log : K m ≡ L last = other m (eqb-false m place f) ∙ ap L (eqb-true m last e) in
        shared-is (ap T (eqb-true m last e) ∙ at_last) log refl (shared-back found (K place) (L last) new)
    at false e true f = shared-is (less m (eqb-false m last e)) (ap K (eqb-true m place f)) refl (own (min (S m) found) (omega arith))
    at false e false f =
        shared-is (less m (eqb-false m last e)) (other m (eqb-false m place f)) refl (shared-on (S m) found (L m) (L last) (K place) (old m) (shared-back found (K place) (L last) new))

-- A member follows the last elected one.
followed_all : (S T : ℕ → ℕ) (L K : ℕ → List Kept) (place last : ℕ) → ((m : ℕ) → IsShared (S m) (L m) (L last)) → last ≢ place → ((m : ℕ) → m ≢ place → K m ≡ L m) → K place ≡ L last
    → T place ≡ length (L last) → ((m : ℕ) → m ≢ place → T m ≡ S m) → (m : ℕ) → IsShared (T m) (K m) (K last)
followed_all S T L K place last old apart other new at_place same m = at (eqb m place) refl
  where
    at : (b : Bool) → eqb m place ≡ b → IsShared (T m) (K m) (K last)
    at true e = shared-is (ap T (eqb-true m place e) ∙ at_place) (ap K (eqb-true m place e) ∙ new) (other last apart) (shared-own (length (L last)) (L last) (omega arith))
    at false e = shared-is (same m (eqb-false m place e)) (other m (eqb-false m place e)) (other last apart) (old m)

-- The last elected member answers, or another one.
led_all : (S T : ℕ → ℕ) (L K : ℕ → List Kept) (last kept : ℕ) → ((m : ℕ) → IsShared (S m) (L m) (L last)) → ((m : ℕ) → m ≢ last → K m ≡ L m) → IsShared kept (L last) (K last)
    → ((m : ℕ) → T m ≡ min (S m) kept) → (m : ℕ) → IsShared (T m) (K m) (K last)
led_all S T L K last kept old other new less m = at (eqb m last) refl
  where
    at : (b : Bool) → eqb m last ≡ b → IsShared (T m) (K m) (K last)
    at true e = shared-is (less m) (ap K (eqb-true m last e)) refl (shared-own (min (S m) kept) (K last) (omega (arith, new.within_other)))
    at false e = shared-is (less m) (other m (eqb-false m last e)) refl (shared-on (S m) kept (L m) (L last) (K last) (old m) new)

behind_all : (S T : ℕ → ℕ) (L K : ℕ → List Kept) (place last kept : ℕ) → ((m : ℕ) → IsShared (S m) (L m) (L last)) → last ≢ place → ((m : ℕ) → m ≢ place → K m ≡ L m) → IsShared kept (L place) (K place)
    → T place ≡ min (S place) kept → ((m : ℕ) → m ≢ place → T m ≡ S m) → (m : ℕ) → IsShared (T m) (K m) (K last)
behind_all S T L K place last kept old apart other new at_place same m = at (eqb m place) refl
  where
    at : (b : Bool) → eqb m place ≡ b → IsShared (T m) (K m) (K last)
    at true e =
        let met : IsShared (min kept (S place)) (K place) (L last) = shared-on kept (S place) (K place) (L place) (L last) (shared-back kept (L place) (K place) new) (old place) in
        shared-is (ap T (eqb-true m place e) ∙ at_place ∙ omega arith) (ap K (eqb-true m place e)) (other last apart) met
    at false e = shared-is (same m (eqb-false m place e)) (other m (eqb-false m place e)) (other last apart) (old m)

-- ---- the lists

lessened-at : (most : ℕ) (shares : List ℕ) (m : ℕ) → share_at (lessened most shares) m ≡ min (share_at shares m) most
lessened-at most [] m = omega arith
lessened-at most (n ∷ shares) zero = refl
lessened-at most (n ∷ shares) (suc m) = lessened-at most shares m

-- One count further.
pub less-more : (most : ℕ) (shares : List ℕ) (i : ℕ) → i < length shares
    → take (i + 1) (set shares i (min (share_at shares i) most)) ++ lessened most (drop (i + 1) (set shares i (min (share_at shares i) most))) ≡ take i shares ++ lessened most (drop i shares)
less-more most shares i there =
    let n : ℕ = min (share_at shares i) most in
    (λ j. take_more_set shares i n there j ++ lessened most (drop-set-lt (i + 1) shares i n (omega arith) j)) ∙ append_assoc (take i shares) (n ∷ []) (lessened most (drop (i + 1) shares))
    ∙ sym (ap (λ (l : List ℕ). take i shares ++ lessened most l) (drop_more shares i 0 there))

pub less-end : (most : ℕ) (shares : List ℕ) (i : ℕ) → length shares ≤ i → take i shares ++ lessened most (drop i shares) ≡ shares
less-end most shares i end = (λ j. take_all i shares end j ++ lessened most (drop_all i shares end j)) ∙ append-nil shares

pub share_push : (shares : List ℕ) → ((m : ℕ) → share_at shares m ≡ 0) → (m : ℕ) → share_at (shares ++ 0 ∷ []) m ≡ 0
share_push [] none zero = refl
share_push [] none (suc m) = refl
share_push (n ∷ shares) none zero = none 0
share_push (n ∷ shares) none (suc m) = share_push shares (λ k. none (suc k)) m

length-lessened : (most : ℕ) (shares : List ℕ) → length (lessened most shares) ≡ length shares
length-lessened most shares = length-map shares (λ n. min n most)

set_at : (shares : List ℕ) (place count : ℕ) → place < length shares → share_at (set shares place count) place ≡ count
set_at shares place count there = get_or-set_same shares place count 0 there

set_other : (shares : List ℕ) (place count m : ℕ) → m ≢ place → share_at (set shares place count) m ≡ share_at shares m
set_other shares place count m apart = get_or-set_other shares place m count 0 apart

log_set : (peers : List PeerState) (place : ℕ) (peer : PeerState) → place < length peers → log_at (set peers place peer) place ≡ peer.member.log
log_set peers place peer there = ap (λ (p : PeerState). p.member.log) (get_or-set_same peers place peer no_peer there)

log_other : (peers : List PeerState) (place : ℕ) (peer : PeerState) (m : ℕ) → m ≢ place → log_at (set peers place peer) m ≡ log_at peers m
log_other peers place peer m apart = ap (λ (p : PeerState). p.member.log) (get_or-set_other peers place m peer no_peer apart)

-- ---- what a hall keeps

pub shares_new : (shares : List ℕ) (peers : List PeerState) (last : ℕ) → length shares ≡ length peers → ((m : ℕ) → share_at shares m ≡ 0) → HaveShares shares peers last
shares_new shares peers last all none = record { all = all; shared = λ m. shared-is (none m) refl refl (shared-none (log_at peers m) (log_at peers last)) }

pub shares_elected : (shares made : List ℕ) (peers all : List PeerState) (place last found : ℕ) (peer : PeerState) → HaveShares shares peers last → place < length peers → last < length peers → all ≡ set peers place peer
    → IsShared found peer.member.log (log_at peers last) → made ≡ set (lessened found shares) last found → HaveShares made all place
shares_elected shares made peers all place last found peer have there known is new set_is =
    subst (λ (s : List ℕ). HaveShares s all place) (sym set_is)
    (subst (λ (l : List PeerState). HaveShares (set (lessened found shares) last found) l place) (sym is) (record {
      all = length-set (lessened found shares) last found ∙ length-lessened found shares ∙ have.all ∙ sym (length-set peers place peer);
      shared = elected_all (share_at shares) (share_at (set (lessened found shares) last found)) (log_at peers) (log_at (set peers place peer)) place last found have.shared (log_other peers place peer)
          (shared-is refl (log_set peers place peer there) refl new) (set_at (lessened found shares) last found (omega (arith, length-lessened found shares, have.all, known)))
          (λ m apart. set_other (lessened found shares) last found m apart ∙ lessened-at found shares m);
    }))

pub shares_followed : (shares made : List ℕ) (peers all : List PeerState) (place last count : ℕ) (peer : PeerState) → HaveShares shares peers last → place < length peers → last ≢ place → all ≡ set peers place peer
    → peer.member.log ≡ log_at peers last → count ≡ length (log_at peers last) → made ≡ set shares place count → HaveShares made all last
shares_followed shares made peers all place last count peer have there apart is log size set_is =
    subst (λ (s : List ℕ). HaveShares s all last) (sym set_is)
    (subst (λ (l : List PeerState). HaveShares (set shares place count) l last) (sym is) (record {
      all = length-set shares place count ∙ have.all ∙ sym (length-set peers place peer);
      shared = followed_all (share_at shares) (share_at (set shares place count)) (log_at peers) (log_at (set peers place peer)) place last have.shared apart (log_other peers place peer)
          (log_set peers place peer there ∙ log) (set_at shares place count (omega (arith, have.all, there)) ∙ size) (set_other shares place count);
    }))

-- What is left of them behind an answer of which so much stayed.
abbrev pub shares_behind : List ℕ → (last place kept : ℕ) → List ℕ
shares_behind shares last place kept = cond (eqb last place) (lessened kept shares) (set shares place (min (share_at shares place) kept))

pub shares_answered : (shares made : List ℕ) (peers : List PeerState) (place last kept : ℕ) (peer : PeerState) → HaveShares shares peers last → place < length peers
    → IsShared kept (log_at peers place) peer.member.log → made ≡ shares_behind shares last place kept → HaveShares made (set peers place peer) last
shares_answered shares made peers place last kept peer have there new is = subst (λ (s : List ℕ). HaveShares s (set peers place peer) last) (sym is) (by (eqb last place) refl)
  where
    new_is : IsShared kept (log_at peers place) (log_at (set peers place peer) place)
    new_is = shared-is refl refl (log_set peers place peer there) new

    by : (b : Bool) → eqb last place ≡ b → HaveShares (cond b (lessened kept shares) (set shares place (min (share_at shares place) kept))) (set peers place peer) last
    by true e =
        let own : last ≡ place = eqb-true last place e in record {
          all = length-lessened kept shares ∙ have.all ∙ sym (length-set peers place peer);
          shared = led_all (share_at shares) (share_at (lessened kept shares)) (log_at peers) (log_at (set peers place peer)) last kept have.shared
              (λ m apart. log_other peers place peer m (λ same. apart (same ∙ sym own))) (shared-is refl (ap (log_at peers) own) (ap (log_at (set peers place peer)) own) new_is) (lessened-at kept shares);
        }
    by false e = record {
      all = length-set shares place (min (share_at shares place) kept) ∙ have.all ∙ sym (length-set peers place peer);
      shared = behind_all (share_at shares) (share_at (set shares place (min (share_at shares place) kept))) (log_at peers) (log_at (set peers place peer)) place last kept have.shared (eqb-false last place e)
          (log_other peers place peer) new_is (set_at shares place (min (share_at shares place) kept) (omega (arith, have.all, there))) (set_other shares place (min (share_at shares place) kept));
    }

-- No log changed.
pub shares_kept : (shares : List ℕ) (peers : List PeerState) (place last : ℕ) (peer : PeerState) → HaveShares shares peers last → place < length peers → peer.member.log ≡ log_at peers place → HaveShares shares (set peers place peer) last
shares_kept shares peers place last peer have there log = record {
  all = have.all ∙ sym (length-set peers place peer);
  shared = λ m. shared-is refl (same m) (same last) (have.shared m);
}
  where
    at : (m : ℕ) (b : Bool) → eqb m place ≡ b → log_at (set peers place peer) m ≡ log_at peers m
    at m true e = ap (log_at (set peers place peer)) (eqb-true m place e) ∙ log_set peers place peer there ∙ log ∙ sym (ap (log_at peers) (eqb-true m place e))
    at m false e = log_other peers place peer m (eqb-false m place e)

    same : (m : ℕ) → log_at (set peers place peer) m ≡ log_at peers m
    same m = at m (eqb m place) refl

pub met_log : (a : Act) (peer : PeerState) → (met a peer).member.log ≡ peer.member.log
met_log (act.Drop m) peer = refl
met_log (act.Mute m) peer = refl
met_log (act.Late m turns) peer = refl
met_log (act.Hold m turns) peer = refl
met_log (act.Refuse m code retryable no_writes) peer = refl
met_log (act.Elect m) peer = refl
met_log (act.Follow m) peer = refl
met_log (act.Dead m) peer = refl
met_log (act.Alive m) peer = refl
met_log (act.Split m bytes) peer = refl

-- A call that meets an act, or leaves the member.
pub log_by : {T E : Type 0} (r : Result T E) (a : Act) (old new : PeerState) → OnOk r (new ≡ met a old) → OnErr r (new ≡ old) → new.member.log ≡ old.member.log
log_by r a old new ok err =
    by_both r (on_ok_weaker r (λ is. ap (λ (p : PeerState). p.member.log) is ∙ met_log a old) ok) (on_err_weaker r (ap (λ (p : PeerState). p.member.log)) err)

-- ---- the calls

pub shares_elect : (shares made : List ℕ) (peers given all : List PeerState) (place last number found : ℕ) → given ≡ peers → HaveShares shares peers last → place < length peers → last < length peers
    → all ≡ set given place (record (peer_at given place) { member = with_election (peer_at given place).member (log_behind given last place) number })
    → IsShared found (elected_log (log_behind given last place) (log_at given place)) (log_at given last) → made ≡ set (lessened found shares) last found → HaveShares made all place
shares_elect shares made peers given all place last number found same have there known is new set_is =
    let many : length given ≡ length peers = ap length same in
    shares_elected shares made given all place last found (record (peer_at given place) { member = with_election (peer_at given place).member (log_behind given last place) number })
    (subst (λ (l : List PeerState). HaveShares shares l last) (sym same) have) (omega arith) (omega arith) is new set_is

pub shares_follow : (shares made : List ℕ) (peers given all : List PeerState) (place last count : ℕ) → given ≡ peers → HaveShares shares peers last → place < length peers → last ≢ place
    → all ≡ set given place (record (peer_at given place) { member = with_log (peer_at given place).member (log_at given last) })
    → count ≡ length (log_at given last) → made ≡ set shares place count → HaveShares made all last
shares_follow shares made peers given all place last count same have there apart is size set_is =
    let many : length given ≡ length peers = ap length same in
    shares_followed shares made given all place last count (record (peer_at given place) { member = with_log (peer_at given place).member (log_at given last) })
    (subst (λ (l : List PeerState). HaveShares shares l last) (sym same) have) (omega arith) apart is refl size set_is

-- The member that answers was read by its place.
pub shares_answer : (shares made : List ℕ) (peers : List PeerState) (place last kept : ℕ) (mine peer : PeerState) → HaveShares shares peers last → place < length peers → mine ≡ peer_at peers place
    → IsShared kept mine.member.log peer.member.log → made ≡ shares_behind shares last place kept → HaveShares made (set peers place peer) last
shares_answer shares made peers place last kept mine peer have there is new set_is =
    shares_answered shares made peers place last kept peer have there (shared-is refl (ap (λ (p : PeerState). p.member.log) (sym is)) refl new) set_is

pub shares_left : (shares : List ℕ) (peers : List PeerState) (place last : ℕ) (mine peer : PeerState) → HaveShares shares peers last → place < length peers → mine ≡ peer_at peers place → peer ≡ mine → HaveShares shares (set peers place peer) last
shares_left shares peers place last mine peer have there is same = shares_kept shares peers place last peer have there (ap (λ (p : PeerState). p.member.log) (same ∙ is))
