-- The hosts to which a read may go that prefers the primary are those that a picker keeps which allows every candidate.
use Rattle.std.proofs.Common.{◌≡◌, ◌||◌, ℕ, Bool, true, List, [], ◌∷◌, None, map, refl, sym, ap, ◌∙◌}
use Rattle.std.specs.FinMap as finite
use Rattle.std.specs.List.{list_any}
use Rattle.host_name.specs.Addresses.{Address, is_same_address}
use Rattle.hello_reply.specs.declared.server_description.ServerDescription.{ServerDescription}
use Rattle.topo_rules.specs.declared.kind.TopoKind.{TopoKind}
use Rattle.topo_rules.specs.declared.kind.TopoKind.TheVariants as topo
use Rattle.topo_rules.specs.declared.topology.Topology.{Topology}
use Rattle.server_pick.specs.Candidates.{candidate_of, candidates, of_mode, of_primary_preferred, of_set, of_sharded, suitable}
use Rattle.server_pick.specs.Runs.{Runs, with_answer}
use Rattle.server_pick.specs.declared.candidate.Candidate.{Candidate}
use Rattle.server_pick.specs.declared.criteria.Criteria.{Criteria}
use Rattle.server_pick.specs.declared.criteria.Need.{Need}
use Rattle.server_pick.specs.declared.criteria.Need.TheVariants as need
use Rattle.desk_trail.specs.Requests.{IsPrimaryPreferred}
use Rattle.end_sessions.specs.Carriers.{AreReadable}
use Rattle.end_sessions.specs.Farewells.{IsReadable}

-- what a picker keeps that allows every candidate
all-kept : {S : Type 0} (allows : S → Candidate → Bool) (follows : S → Candidate → S → Type 0) → ((s : S) (c : Candidate) → allows s c ≡ true) →
    (cs : List Candidate) (p q : S) (kept : List Address) → Runs allows follows p cs kept q → kept ≡ map (λ (c : Candidate). c.host) cs
all-kept {S} allows follows every [] p q kept r = r.0
all-kept {S} allows follows every (c ∷ cs) p q kept (s, f, (rest, is, more)) =
    is ∙ ap (λ b. with_answer b c rest) (every p c) ∙ ap (λ hs. c.host ∷ hs) (all-kept allows follows every cs s q rest more)

any-host : (address : Address) (load : Address → ℕ) (ds : List ServerDescription) →
    list_any (λ h. is_same_address h address) (map (λ (c : Candidate). c.host) (map (candidate_of load) ds)) ≡ list_any (λ (d : ServerDescription). is_same_address d.host address) ds
any-host address load [] = refl
any-host address load (d ∷ ds) = ap (λ b. is_same_address d.host address || b) (any-host address load ds)

-- which servers are suitable does not hang on how it is said that a read prefers the primary
set-preferred : (n : Need) (ds : List ServerDescription) → IsPrimaryPreferred n → of_set n ds ≡ of_primary_preferred [] ds
set-preferred need.Write ds h = absurd h
set-preferred (need.Read p) ds h = ap (λ m. of_mode m p.now.tag_sets ds) h.0 ∙ ap (λ sets. of_primary_preferred sets ds) h.1

suitable-preferred : (k : TopoKind) (a b : Criteria) (ds : List ServerDescription) → IsPrimaryPreferred a.need → a.avoid ≡ None → IsPrimaryPreferred b.need → b.avoid ≡ None →
    suitable k a ds ≡ suitable k b ds
suitable-preferred topo.Unknown a b ds p n q m = refl
suitable-preferred topo.Single a b ds p n q m = refl
suitable-preferred topo.Sharded a b ds p n q m = ap (λ o. of_sharded o ds) (n ∙ sym m)
suitable-preferred topo.NoPrimary a b ds p n q m = set-preferred a.need ds p ∙ sym (set-preferred b.need ds q)
suitable-preferred topo.WithPrimary a b ds p n q m = set-preferred a.need ds p ∙ sym (set-preferred b.need ds q)

pub AreReadable-kept : {S : Type 0} (allows : S → Candidate → Bool) (follows : S → Candidate → S → Type 0) → ((s : S) (c : Candidate) → allows s c ≡ true) →
    (t : Topology) (criteria : Criteria) (load : Address → ℕ) (p q : S) (kept : List Address) → IsPrimaryPreferred criteria.need → criteria.avoid ≡ None →
    Runs allows follows p (candidates t criteria load) kept q → AreReadable t kept
AreReadable-kept {S} allows follows every t criteria load p q kept prefers avoids run =
    let ds = finite.values t.servers in
    let is = all-kept allows follows every (candidates t criteria load) p q kept run in
    let any : (address : Address) → list_any (λ h. is_same_address h address) kept ≡ list_any (λ (d : ServerDescription). is_same_address d.host address) (suitable t.kind criteria ds) =
    λ address. ap (list_any (λ h. is_same_address h address)) is ∙ any-host address load (suitable t.kind criteria ds) in record {
      of = λ address h. record { criteria = criteria; prefers = prefers; avoids = avoids; selectable = sym (any address) ∙ h };
      all = λ address r. any address
          ∙ ap (list_any (λ (d : ServerDescription). is_same_address d.host address)) (suitable-preferred t.kind criteria r.criteria ds prefers avoids r.prefers r.avoids)
          ∙ r.selectable;
    }
