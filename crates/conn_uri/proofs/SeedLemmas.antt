-- Lemmas on hosts that are kept once.
use denote.Ref.{Bor}
use Rattle.std.proofs.Common.{◌≡◌, Bool, true, false, ◌||◌, List, [], ◌∷◌, ◌++◌, refl, sym, ap, ◌∙◌, cond}
use Rattle.std.specs.BTreeSet.{BTreeSet, contains}
use Rattle.std.specs.Bool.{OnFalse}
use Rattle.std.specs.List.{IsDistinct, list_any}
use Rattle.std.specs.Ordering.{is_eq}
use Rattle.std.specs.Prelude.{fold}
use Rattle.std.proofs.lemmas.List.Folds.{list_any-append}
use Rattle.std.proofs.lemmas.Map.Keys.{IsDistinct-push}
use Rattle.host_name.specs.Addresses.{Address, address_cmp, is_same_address}
use Rattle.host_name.proofs.HostOrder.{host_ties, same_equivalence}
use Rattle.conn_uri.specs.Inside.{HasSeen}
use Rattle.conn_uri.specs.Seeds.{kept_once, with_host}

-- the hosts that a loop has kept so far are these, and the set has them
pub record IsKept (seen : BTreeSet (Bor Address)) (kept wanted : List Address) : Type 0 where
  pub has : HasSeen seen kept
  pub are : kept ≡ wanted

-- whether one more host is among those that are kept
any_more : (b r : Bool) → (r || (b || false)) ≡ cond b true r
any_more true true = refl
any_more true false = refl
any_more false true = refl
any_more false false = refl

-- where q ties with h, the two are the same host
tied : (h q : Address) → is_eq (address_cmp h q) ≡ is_same_address q h
tied h q = sym (host_ties h q) ∙ same_equivalence.symm h q

-- a host that is new goes into the set, beside those that are kept
pub HasSeen-insert : (old new : BTreeSet (Bor Address)) (kept : List Address) (h : Bor Address) (b : Bool)
    → ((q : Bor Address) → contains (λ x y. address_cmp x.now y.now) new q
    ≡ cond (is_eq (address_cmp h.now q.now)) true (contains (λ x y. address_cmp x.now y.now) old q))
    → OnFalse b (new.keys ≡ old.keys) → HasSeen old kept → HasSeen new (cond b (kept ++ h.now ∷ []) kept)
HasSeen-insert old new kept h true updates same has = record {
  same = λ q.
      updates q
      ∙ (λ i. cond (tied h.now q.now i) true (has.same q i))
      ∙ sym (any_more (is_same_address q.now h.now) (list_any (is_same_address q.now) kept))
      ∙ sym (list_any-append (is_same_address q.now) kept (h.now ∷ []));
}
HasSeen-insert old new kept h false updates same has = record {
  same = λ q. ap (λ ks. list_any (λ x. is_eq (address_cmp q.now x.now)) ks) same ∙ has.same q;
}

push_or_stay : (b : Bool) (kept : List Address) (h : Address) → list_any (is_same_address h) kept ≡ b
    → IsDistinct is_same_address kept → IsDistinct is_same_address (cond b kept (kept ++ h ∷ []))
push_or_stay true kept h is apart = apart
push_or_stay false kept h is apart = IsDistinct-push same_equivalence kept h apart is

folded-distinct : (kept hosts : List Address) → IsDistinct is_same_address kept → IsDistinct is_same_address (fold with_host kept hosts)
folded-distinct kept [] apart = apart
folded-distinct kept (h ∷ hosts) apart =
    folded-distinct (with_host kept h) hosts (push_or_stay (list_any (is_same_address h) kept) kept h refl apart)

no_hosts : IsDistinct is_same_address []
unfolding IsDistinct
no_hosts = tt

-- hosts that are kept once are distinct
pub kept_once-distinct : (hosts : List Address) → IsDistinct is_same_address (kept_once hosts)
kept_once-distinct hosts = folded-distinct [] hosts no_hosts
