-- Which lists make a hall.
use Rattle.std.proofs.Common.{◌≡◌, ◌≢◌, ◌<◌, ◌≤◌, ◌+◌, ◌^◌, ℕ, zero, suc, Bool, List, [], ◌∷◌, true, false, Some, None, Option, cond, eqb, ne_eqb, ltb, get_or, length, take, drop, refl, sym, ap, ◌∙◌, arith, map}
use Rattle.std.specs.Prelude.{is_some, not, sum_by}
use Rattle.std.specs.List.{All, list_any, position_from, range_with_len}
use Rattle.std.proofs.lemmas.Bool.{eqb-false, ltb-true}
use Rattle.std.proofs.lemmas.Iterator.Adapters.{position_from-zero}
use Rattle.std.proofs.lemmas.List.Sums.{sum_by-cons}
use Rattle.std.proofs.lemmas.List.FromFn.{length-range_with_len}
use Rattle.std.proofs.lemmas.List.{length-map, drop_all, drop_more, length-take-le, take_more}
use Rattle.std.proofs.lemmas.List.Elements.{All-cons, All-nil}
use Rattle.host_name.specs.Addresses.{Address, is_same_address}
use Rattle.net_link.specs.Events.{is_at}
use Rattle.net_link.specs.declared.event.NetEvent.{NetEvent}
use Rattle.member_core.specs.Logs.{set_after}
use Rattle.member_core.specs.Members.{Kept, entries, is_acked}
use Rattle.member_core.specs.Sizes.{IsWithin, host_size}
use Rattle.member_core.proofs.Growth.{honest-nil}
use Rattle.member_hall.specs.Acts.{host_of}
use Rattle.member_hall.specs.Halls.{PeerState, peer_at}
use Rattle.member_hall.specs.Honest.{IsSound}
use Rattle.member_hall.specs.Making.{peer_of}
use Rattle.member_hall.specs.Plans.{fault_by, fault_in, is_stranger, new_hall, stranger_in, twice_from, twice_in}
use Rattle.member_hall.specs.declared.act.Planned.{Planned}
use Rattle.member_hall.specs.declared.fault.HallFault.{HallFault}
use Rattle.member_hall.specs.declared.fault.HallFault.TheVariants as fault

-- ---- hosts are few

hosts-le : (hosts : List Address) → length hosts ≤ sum_by host_size hosts
hosts-le [] = omega arith
hosts-le (host ∷ hosts) = omega (arith, hosts-le hosts, sum_by-cons host_size host hosts)

pub few_hosts : (set : List ℕ) (hosts : List Address) → IsWithin set hosts → length hosts < 2 ^ 32
few_hosts set hosts within = omega (arith, hosts-le hosts, within)

-- ---- a host twice

pub twice_there : (hosts : List Address) (place : ℕ) (d : Address) → place < length hosts → (b : Bool) → list_any (is_same_address (get_or hosts place d)) (take place hosts) ≡ b
    → twice_from (take place hosts) (drop place hosts) ≡ cond b (Some place) (twice_from (take (place + 1) hosts) (drop (place + 1) hosts))
twice_there hosts place d there b is =
    ap (twice_from (take place hosts)) (drop_more hosts place d there)
    ∙ (λ i. cond (is i) (Some (length-take-le place hosts (let less : place ≤ length hosts = omega arith in less) i)) (twice_from (sym (take_more hosts place d there) i) (drop (place + 1) hosts)))

pub twice_none : (hosts : List Address) (place : ℕ) → length hosts ≤ place → twice_from (take place hosts) (drop place hosts) ≡ None
twice_none hosts place all = ap (twice_from (take place hosts)) (drop_all place hosts all)

-- ---- an act of a stranger

none_by : (many i : ℕ) (p : Planned) (acts : List Planned) (rest : Option ℕ) (b : Bool) → ltb (host_of p.act) many ≡ b → cond (not b) (Some i) rest ≡ None
    → (rest ≡ None → All (λ (q : Planned). host_of q.act < many) acts) → All (λ (q : Planned). host_of q.act < many) (p ∷ acts)
none_by many i p acts rest true e is others = All-cons (λ (q : Planned). host_of q.act < many) p acts (ltb-true (host_of p.act) many e) (others is)
none_by many i p acts rest false e is others = let clash : Some i ≡ None = is in absurd (let never : ⊥ = cc in never)

none_from : (many i : ℕ) (acts : List Planned) → position_from (is_stranger many) i acts ≡ None → All (λ (p : Planned). host_of p.act < many) acts
none_from many i [] none = All-nil (λ (p : Planned). host_of p.act < many)
none_from many i (p ∷ acts) none =
    none_by many i p acts (position_from (is_stranger many) (i + 1) acts) (ltb (host_of p.act) many) refl none (none_from many (i + 1) acts)

pub none_strange : (many : ℕ) (acts : List Planned) → stranger_in many acts ≡ None → All (λ (p : Planned). host_of p.act < many) acts
none_strange many acts none = none_from many 0 acts (sym (position_from-zero (is_stranger many) acts) ∙ none)

-- ---- members to which nothing happened

log_none : (f : ℕ → PeerState) (ns : List ℕ) (m : ℕ) → ((k : ℕ) → (f k).member.log ≡ []) → (peer_at (map f ns) m).member.log ≡ []
log_none f [] m each = refl
log_none f (n ∷ ns) zero each = each n
log_none f (n ∷ ns) (suc m) each = log_none f ns m each

takes_none : (set : List ℕ) (hosts : List Address) (n a m : ℕ) → 0 < a → is_some (peer_at (map (peer_of set hosts) (range_with_len a n)) m).member.election ≡ false
takes_none set hosts zero a m some = refl
takes_none set hosts (suc n) a zero some = ap (λ (b : Bool). is_some {T = ℕ} (cond b (Some 1) None)) (ne_eqb a 0 (λ same. absurd (omega arith)))
takes_none set hosts (suc n) a (suc m) some = takes_none set hosts n (a + 1) m (omega arith)

takes_first : (set : List ℕ) (hosts : List Address) (n m : ℕ) → 0 < n → eqb m 0 ≡ is_some (peer_at (map (peer_of set hosts) (range_with_len 0 n)) m).member.election
takes_first set hosts zero m some = absurd (omega arith)
takes_first set hosts (suc n) zero some = refl
takes_first set hosts (suc n) (suc m) some = ne_eqb (suc m) 0 (λ same. absurd (omega arith)) ∙ sym (takes_none set hosts n 1 m (omega arith))

pub sound_new : (set : List ℕ) (hosts : List Address) (acts : List Planned) → 0 < length hosts → IsSound (new_hall set hosts acts)
unfolding set_after
sound_new set hosts acts some =
    let none : (m : ℕ) → (peer_at (new_hall set hosts acts).peers m).member.log ≡ [] = λ m. log_none (peer_of set hosts) (range_with_len 0 (length hosts)) m (λ k. refl) in
    record {
      honest = honest-nil;
      stand = record {
        log = λ m. ap entries (sym (none m));
        takes = λ m. takes_first set hosts (length hosts) m some;
        acked = λ key. ap (λ (l : List Kept). is_acked l key) (sym (none 0));
      };
      last = refl;
      elections = refl;
      lines = λ s below. absurd (omega arith);
      fresh = λ s beyond. All-nil (λ (e : NetEvent). is_at e s ≡ false);
    }

-- ---- lists that make a hall

fault_by_none : (b : Bool) (o p : Option ℕ) → cond b (Some fault.NoMember) (fault_by o p) ≡ None → (b ≡ false) × (p ≡ None)
fault_by_none true o p is = let clash : Some fault.NoMember ≡ None = is in absurd (let never : ⊥ = cc in never)
fault_by_none false (Some h) p is = let clash : Some (fault.Twice h) ≡ None = is in absurd (let never : ⊥ = cc in never)
fault_by_none false None (Some p) is = let clash : Some (fault.Act p) ≡ None = is in absurd (let never : ⊥ = cc in never)
fault_by_none false None None is = (refl, refl)

pub fault_none : (hosts : List Address) (acts : List Planned) → fault_in hosts acts ≡ None → (0 < length hosts) × All (λ (p : Planned). host_of p.act < length hosts) acts
fault_none hosts acts is =
    let parts = fault_by_none (eqb (length hosts) 0) (twice_in hosts) (stranger_in (length hosts) acts) is in
    let some : length hosts ≢ 0 = eqb-false (length hosts) 0 parts.0 in
    (omega arith, none_strange (length hosts) acts parts.1)

pub count_members : (set : List ℕ) (hosts : List Address) → length (map (peer_of set hosts) (range_with_len 0 (length hosts))) ≡ length hosts
count_members set hosts = length-map (range_with_len 0 (length hosts)) (peer_of set hosts) ∙ length-range_with_len 0 (length hosts)

pub no_fault : (o : Option HallFault) → ((f : HallFault) → o ≡ Some f → ⊥) → o ≡ None
no_fault None other = refl
no_fault (Some f) other = absurd (other f refl)
